-- The master keeps its plan.
use Rattle.lifetime.specs.Keeping.{KeepsPlan}
use Rattle.lifetime.proofs.ends.Ends.bring_up.Given as goal

abbrev pub invariant-loop-count : goal.invariant-loop-count
invariant-loop-count l = KeepsPlan l.initial.self l.self
