-- Each turn takes a line out.
use Rattle.std.proofs.Common.{length}
use Rattle.journal.specs.Held.{entries}
use Rattle.lifetime.proofs.ends.read_out.Given as goal

abbrev pub decreases-loop-line : goal.decreases-loop-line
decreases-loop-line l = length (entries l.journal)
