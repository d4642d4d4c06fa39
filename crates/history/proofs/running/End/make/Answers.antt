-- The calls that leave the end or its journal.
use Rattle.std.proofs.Common.{refl}
use Rattle.history.specs.Events as event
use Rattle.history.proofs.Leading.{makes}
use Rattle.history.proofs.running.End.make.Goals as goal

pub returns-in-ReadOut : goal.returns-in-ReadOut
returns-in-ReadOut g c =
    makes (event.read_out c.read_out.result) c.in-ReadOut.is refl (g.met.Self.End.reads_out _ _ _ _ c.read_out.ensures)

pub returns-in-Feedback : goal.returns-in-Feedback
returns-in-Feedback g c = makes (event.feedback c.in-Feedback.working) c.in-Feedback.is refl (c.feedback.ensures _)

pub returns-in-Set : goal.returns-in-Set
returns-in-Set g c = makes (event.set c.in-Set.octets.now c.in-Set.command c.set.result) c.in-Set.is refl (c.set.ensures _)
