-- The calls so far were made.
use Rattle.std.proofs.Common.{take}
use Rattle.history.specs.Requests.{Ran}
use Rattle.history.proofs.running.make_all.Given as goal

abbrev pub invariant-loop-call : goal.invariant-loop-call
invariant-loop-call g l = Ran g.E.TakeCall.did (take l.call-index l.calls) l.initial.end l.initial.journal l.end l.journal
