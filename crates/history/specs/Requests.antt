-- A list of calls that a program makes, and the events that they are. Assumes nothing.
use Rattle.std.specs.Prelude.{◌≡◌, ℕ, Bool, List, [], ◌∷◌, ◌++◌}
use Rattle.faults.specs.declared.line.Line.{Line}
use Rattle.journal.specs.declared.queue.Journal.{Journal}
use Rattle.shared_end.specs.declared.data_command.DataCommand.{DataCommand}
use Rattle.history.specs.declared.call.Call.{Call}
use Rattle.history.specs.declared.call.Call.TheVariants as call
use Rattle.history.specs.Events as event
use Rattle.history.specs.Events.{Event}

-- a call without its answer
pub data Request : Type 0 where
  frame : (octets : List ℕ) → (session : ℕ) → Request
  tick : Request
  reset : Request
  set : (octets : List ℕ) → DataCommand → Request
  feedback : (working : Bool) → Request
  read_out : Request

abbrev pub request : Call → Request
request call.Tick = tick
request call.Reset = reset
request call.ReadOut = read_out
request (call.Feedback working) = feedback working
request (call.Set octets c) = set octets.now c
request (call.Frame octets session) = frame octets.now session

abbrev pub asked : Event → Request
asked (event.frame octets session r) = frame octets session
asked (event.tick r) = tick
asked (event.reset r) = reset
asked (event.set octets c r) = set octets c
asked (event.feedback working) = feedback working
asked (event.read_out l) = read_out

-- over what a call means at an end E
module _ {E : Type 0} (Did : Event → E → Journal Line → E → Journal Line → Type 0) where
  -- the call was made, with some answer
  pub record Makes (c : Call) (e : E) (j : Journal Line) (e' : E) (j' : Journal Line) : Type 0 where
    pub event : Event
    pub asked_is : asked event ≡ request c
    pub did : Did event e j e' j'

  -- the calls were made in their order, and came to these events, the latest first
  pub data Leads (e : E) (j : Journal Line) : List Call → List Event → E → Journal Line → Type 0 where
    none : Leads e j [] [] e j
    more : {calls : List Call} {es : List Event} {e' e'' : E} {j' j'' : Journal Line} (c : Call) (event : Event) →
        Leads e j calls es e' j' → asked event ≡ request c → Did event e' j' e'' j'' → Leads e j (calls ++ c ∷ []) (event ∷ es) e'' j''

  pub record Ran (calls : List Call) (e : E) (j : Journal Line) (e' : E) (j' : Journal Line) : Type 0 where
    pub events : List Event
    pub leads : Leads e j calls events e' j'
