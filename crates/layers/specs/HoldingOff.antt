-- Lemma of the law of the hold-off: zeros or the released octets are passed down. Assumes nothing.
use Rattle.std.specs.Prelude.{Bool, true, false, cond, List, ℕ}
use Rattle.sink.specs.Octets.{zeros, Within}
use Rattle.sink.proofs.Lits.{none_lit}

pub either_within : (b : Bool) (o : List ℕ) → Within (cond b o zeros) o
either_within true o i k h = h
either_within false o i k h = absurd (none_lit i k h)
