-- Bringing a connection back leaves the master's plan. Assumes nothing.
use Rattle.std.proofs.Common.{◌≡◌, ℕ, List, Ok, Err, Result, refl, ap, ◌∙◌}
use Rattle.codes.specs.declared.refusal.Refusal.{Refusal}
use Rattle.faults.specs.declared.line.Line.{Line}
use Rattle.journal.specs.declared.queue.Journal.{Journal}
use Rattle.sink.specs.declared.Sink as sink
use Rattle.profile.specs.declared.profile.Profile as profile
use Rattle.master_end.specs.declared.master.Master.{Master}
use Rattle.slave_end.specs.declared.slave.Slave.{Slave}
use Rattle.connection.specs.declared.exchanging.Sessions.{Sessions}
use Rattle.connection.specs.Driving.{Held, InOrder, none, more, Bringing}

module _ {S T P : Type 0} (m : sink.Ghosts S) (t : sink.Ghosts T) (p : profile.Ghosts P) (sessions : Sessions) where
  in_order : {n : ℕ} {a b : Held S T P} → InOrder m t p sessions n a b → b.master.plan ≡ a.master.plan
  in_order none = refl
  in_order (more before made) = made.exchanged.back.1 ∙ in_order before

  pub keeps_plan : (e e' : Master S) (f f' : Slave T P) (octets : List ℕ) (r : Result (List ℕ) Refusal) (j j' k k' : Journal Line) →
      Bringing m t p e f sessions octets r e' f' j j' k k' → e'.plan ≡ e.plan
  keeps_plan e e' f f' octets (Ok shown) j j' k k' (fit, brought) =
      let c = brought.calls in
      in_order c.rest ∙ ap (λ (q : Master S). q.plan) c.sets.1 ∙ c.one.exchanged.back.1 ∙ ap (λ (q : Master S). q.plan) c.resets.1
  keeps_plan e e' f f' octets (Err x) j j' k k' (against, untouched) = ap (λ (q : Master S). q.plan) untouched.master_is
