-- Each row is computed.
use Rattle.std.proofs.Common.{refl}
use Rattle.crc.specs.Register.{shift, feed}
use Rattle.points.proofs.table_stands.Goals as goal

pub returns : goal.returns
unfolding feed shift
returns c =
    (refl, (refl, (refl, (refl, (refl, (refl, (refl, (refl, (refl, (refl, (refl, (refl, (refl, (refl, tt))))))))))))))
