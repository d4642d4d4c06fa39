-- One call more, and all of them.
use Rattle.std.proofs.Common.{[], ◌∷◌, sym, subst, take_all}
use Rattle.std.proofs.lemmas.List.{take_more}
use Rattle.history.specs.Requests.{Leads, Ran, none, more}
use Rattle.history.proofs.running.make_all.Goals as goal

pub loop-call-init : goal.loop-call-init
loop-call-init g c = record { events = []; leads = none }

pub loop-call-preserved : goal.loop-call-preserved
loop-call-preserved g c =
    let made = c.take_call.ensures in
    record {
      events = made.event ∷ c.loop-call.invariant.events;
      leads =
          subst (λ calls. Leads g.E.TakeCall.did c.args.end.now c.args.journal.now calls (made.event ∷ c.loop-call.invariant.events) c.take_call.new.self c.take_call.new.journal)
          (sym (take_more c.args.calls.now c.loop-call.call-index _ c.loop-call-test.true))
          (more _ made.event c.loop-call.invariant.leads made.asked_is made.did);
    }

pub returns : goal.returns
returns g c =
    subst (λ calls. Ran g.E.TakeCall.did calls c.args.end.now c.args.journal.now c.loop-call.end c.loop-call.journal)
    (take_all c.loop-call.call-index c.args.calls.now c.loop-call-test.false) c.loop-call.invariant
