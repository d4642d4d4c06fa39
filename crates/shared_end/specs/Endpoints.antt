-- The state, the link and the sink of an end, and what a step, a fault, a tick or a reset makes of them. Assumes nothing.
use Rattle.std.specs.Prelude.{ℕ, Bool, cond, Some, None, Ok, Err, Option, Result}
use Rattle.faults.specs.declared.fault.Fault.{Fault}
use Rattle.faults.specs.declared.fault.Fault.TheVariants.{SinkDown}
use Rattle.faults.specs.declared.state.State.TheVariants as s
use Rattle.length.specs.declared.DataLength.{DataLength}
use Rattle.sink.specs.declared.Sink.{Ghosts}
use Rattle.shared_end.specs.declared.endpoint.Endpoint.{Endpoint}
use Rattle.shared_end.specs.declared.link.Link.{Link}
use Rattle.shared_end.specs.declared.step.Act.{Act}
use Rattle.shared_end.specs.declared.step.Act.TheVariants.{Keep, Clear, Release}
use Rattle.shared_end.specs.declared.step.Step.{Step}
use Rattle.shared_end.specs.Link.{new_link, freshened, expires, counted}
use Rattle.shared_end.specs.Outcomes.{Outcome, taken, fault}

-- how many data octets a frame has
abbrev pub width : {S : Type 0} → Endpoint S → ℕ
width e = e.link.size.octets

abbrev pub with_link : {S : Type 0} → Endpoint S → Link → Endpoint S
with_link e l = record { state = e.state; link = l; sink = e.sink }

abbrev pub with_sink : {S : Type 0} → Endpoint S → S → Endpoint S
with_sink e s = record { state = e.state; link = e.link; sink = s }

module _ {S : Type 0} (m : Ghosts S) where
  -- the sink after it was told
  abbrev pub acted : Act → S → S
  acted Keep s = s
  acted Clear s = m.cleared s
  acted (Release o) s = m.released s o

  -- a release that is refused is fault 41
  abbrev pub missed : Act → S → Option Fault
  missed Keep s = None
  missed Clear s = None
  missed (Release o) s = cond (m.up s) None (Some SinkDown)

  -- one that was not used yet
  abbrev pub new_endpoint : DataLength → (watchdog : ℕ) → S → Endpoint S
  new_endpoint size w sink = record { state = s.Reset; link = new_link size w; sink = m.cleared sink }

  -- after a communication fault or a reset
  abbrev pub restarted : Endpoint S → Endpoint S
  restarted e = record { state = s.Reset; link = freshened e.link; sink = m.cleared e.sink }

  -- after a tick
  abbrev pub ticked : (runs : Bool) → Endpoint S → Endpoint S
  ticked runs e = cond (expires runs e.link) (restarted e) (with_link e (counted runs e.link))

  -- after a step that was made, whose link is in place, or a fault; and the fault that this gives
  abbrev pub carried_out : Endpoint S → Result Step Fault → Endpoint S
  carried_out e (Ok t) = record { state = t.state; link = e.link; sink = acted t.act e.sink }
  carried_out e (Err f) = restarted e

  abbrev pub given : Endpoint S → Result Step Fault → Option Fault
  given e (Ok t) = missed t.act e.sink
  given e (Err f) = Some f

  module _ {X : Type 0} where
    -- after the outcome of a frame
    abbrev pub concluded : Endpoint S → Outcome X → Endpoint S
    concluded e (taken st act msg l x) = record { state = st; link = l; sink = acted act e.sink }
    concluded e (fault f) = restarted e

    -- the fault of an outcome: a refused release is one, although the frame is taken
    abbrev pub raised : Endpoint S → Outcome X → Option Fault
    raised e (taken st act msg l x) = missed act e.sink
    raised e (fault f) = Some f
