-- How far a master's connection has come, by its state, over every history. Assumes nothing.
use Rattle.std.proofs.Common.{◌≡◌, ℕ, ◌+◌, ◌≤◌, List, ◌∷◌, Ok, Option, refl, arith, ltb-false, ltb-true}
use Rattle.faults.specs.declared.state.State.{State}
use Rattle.faults.specs.declared.state.State.TheVariants as s
use Rattle.length.proofs.Bounds.{bounds}
use Rattle.frame.specs.Reading.{command_octet}
use Rattle.frame.specs.declared.command.Command.{Command}
use Rattle.plan.specs.declared.sealed_plan.SealedPlan.{SealedPlan}
use Rattle.sink.specs.declared.Sink.{Ghosts}
use Rattle.sink.specs.Lawful.{Lawful}
use Rattle.shared_end.specs.declared.answer.FrameAnswer.{FrameAnswer}
use Rattle.shared_end.specs.declared.endpoint.Endpoint.{Endpoint}
use Rattle.shared_end.specs.Outcomes.{Outcome, kept}
use Rattle.shared_end.specs.Endpoints.{concluded}
use Rattle.history.specs.Events.{Event, frame, Idle, Took}
use Rattle.history.specs.Live as live
use Rattle.history.specs.Live.{data_octets, Since}
use Rattle.history.proofs.Shining.{ShinesIn, restarted_dark, dark_glows}
use Rattle.history.proofs.Taking.{told_glows, Says}
use Rattle.history.proofs.Blocks.{Connecting, Parametrizing, Flowing, connecting_idle, parametrizing_idle, flowing_idle, connecting_none, parametrizing_none, flowing_none, connecting_more, parametrizing_more, flowing_more}
use Rattle.history.proofs.Lasting.{Path, Inv}
use Rattle.outlet.specs.declared.Outlet.{Outlet}
use Rattle.outlet.proofs.Moves as moves
use Rattle.outlet.proofs.Moves.{Move}

-- what a master keeps beside its endpoint
pub record Own : Type 0 where
  pub outlet : Outlet
  pub plan : SealedPlan

abbrev pub count : Own → ℕ
count x = x.plan.draft.user_octets

abbrev pub Progress : List Event → (d w : ℕ) → Own → State → Type 0
Progress es d w x s.Reset = Unit {0}
Progress es d w x s.Session = Unit {0}
Progress es d w x s.Connection = Connecting d x.outlet.at 4 es
Progress es d w x s.Parameter = Parametrizing d x.outlet.at (6 + count x) (λ parameters. Unit {0}) es
Progress es d w x s.Data = Flowing d (count x) (λ parameters. x.plan.draft.watchdog) es w

-- the watchdog time is the plan's in every state
pub record Along (es : List Event) (st : State) (d w : ℕ) (x : Own) : Type 0 where
  pub watchdog_is : w ≡ x.plan.draft.watchdog
  pub progress : Progress es d w x st

on : (event : Event) (es : List Event) (st : State) (d w : ℕ) (x : Own) → Idle event → Progress es d w x st → Progress (event ∷ es) d w x st
on event es s.Reset d w x i p = tt
on event es s.Session d w x i p = tt
on event es s.Connection d w x i p = connecting_idle i p
on event es s.Parameter d w x i p = parametrizing_idle i p
on event es s.Data d w x i p = flowing_idle i p

pub idles : (event : Event) (es : List Event) (st : State) (d w : ℕ) (x : Own) → Idle event → Along es st d w x → Along (event ∷ es) st d w x
idles event es st d w x i p = record { watchdog_is = p.watchdog_is; progress = on event es st d w x i p.progress }

pub restarts : (event : Event) (es : List Event) (st : State) (d w : ℕ) (x : Own) → Along es st d w x → Along (event ∷ es) s.Reset d w x
restarts event es st d w x p = record { watchdog_is = p.watchdog_is; progress = tt }

abbrev pub path : Path Own
path = record { Along = Along; idles = idles; restarts = restarts }

module _ {S : Type 0} (m : Ghosts S) (law : Lawful m) (es : List Event) (e : Endpoint S) (x : Own) (octets : List ℕ) (session : ℕ) (r : FrameAnswer)
    (same : e.link.watchdog ≡ x.plan.draft.watchdog) where
  abbrev d : ℕ
  d = e.link.size.octets

  abbrev event : Event
  event = frame octets session (Ok r)

  low : 2 ≤ d
  low = (bounds d e.link.size.lawful).low

  some : 1 ≤ e.link.watchdog
  some = omega (arith, same, x.plan.watchdog_range)

  -- the endpoint and the outlet after an outcome stand as the events say
  abbrev Stands : Outcome Outlet → Type 0
  Stands o = Inv m path (event ∷ es) (concluded m e o) (record { outlet = kept x.outlet o; plan = x.plan })

  pub stands : (st : State) (k : Option Command) (o : Outcome Outlet) → Move e.link x.outlet x.plan octets (data_octets d octets) st k o → Says m e octets r k o →
      ShinesIn m st es e → Progress es d e.link.watchdog x st → Stands o
  stands st k o (moves.broken f) says g q = record { shines = restarted_dark m law e; along = record { watchdog_is = same; progress = tt } }
  stands st k o (moves.reset msg ns os cm) says g q =
      record { shines = law.effects.shown_cleared e.sink; along = record { watchdog_is = same; progress = tt } }
  stands st k o (moves.session msg ns os cm) says g q = record {
    shines = g;
    along = record {
      watchdog_is = same;
      progress = connecting_none (omega arith) (live.session octets (says.taken_is, refl, says.kind_is));
    };
  }
  stands st k o (moves.next_connection msg ns os cm more) says g q = record {
    shines = g;
    along = record {
      watchdog_is = same;
      progress = connecting_more octets (says.taken_is, refl, says.kind_is) (ltb-true (x.outlet.at + d) 4 more) q;
    };
  }
  stands st k o (moves.first_parameter msg ns os cm done) says g q =
      let all : Connecting d (x.outlet.at + d) (4 + d) (event ∷ es) = connecting_more octets (says.taken_is, refl, says.kind_is) (omega (arith, q.few)) q in
      record {
        shines = g;
        along = record { watchdog_is = same; progress = parametrizing_none low (ltb-false (x.outlet.at + d) 4 done) (omega arith) tt all };
      }
  stands st k o (moves.next_parameter msg ns os cm more) says g q = record {
    shines = g;
    along = record {
      watchdog_is = same;
      progress = parametrizing_more octets (says.taken_is, refl, says.kind_is) (ltb-true (x.outlet.at + d) (6 + count x) more) q tt;
    };
  }
  stands st k o (moves.first_data msg ns os cm done) says g q =
      let all : Parametrizing d (x.outlet.at + d) (6 + count x + d) (λ parameters. Unit {0}) (event ∷ es) =
      parametrizing_more octets (says.taken_is, refl, says.kind_is) (omega (arith, q.few)) q tt in
      record {
        shines = dark_glows m (event ∷ es) (concluded m e o) g 0 (omega arith) some;
        along = record { watchdog_is = same; progress = flowing_none low (ltb-false (x.outlet.at + d) (6 + count x) done) all same };
      }
  stands st k o (moves.next_data {k = kind} msg ns os cm tells) says g q =
      let took : Took kind octets event = (says.taken_is, refl, says.kind_is) in
      record {
        shines = told_glows m law es event (concluded m e o).link e.sink refl some octets e.state (command_octet octets) tells took says.line_is;
        along = record { watchdog_is = same; progress = flowing_more octets tells took q };
      }
