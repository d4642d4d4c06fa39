-- What calls of an end answer, and what they leave in the reply buffer and the journal. Assumes nothing.
use Rattle.std.specs.Prelude.{◌≡◌, ℕ, ◌≤◌, Bool, cond, List, ◌++◌, length, drop, is_ok, Some, None, Ok, Err, Option, Result}
use Rattle.codes.specs.declared.refusal.Refusal.{Refusal}
use Rattle.codes.specs.declared.refusal.Refusal.TheVariants.{WrongFrameLength}
use Rattle.faults.specs.Faults.{number}
use Rattle.faults.specs.declared.fault.Fault.{Fault}
use Rattle.faults.specs.declared.fault.Fault.TheVariants.{WatchdogExpired}
use Rattle.faults.specs.declared.line.Line.{Line}
use Rattle.faults.specs.declared.state.State.{State}
use Rattle.length.specs.Lawful.{frame_octets}
use Rattle.frame.specs.Commands.{octet}
use Rattle.frame.specs.Reading.{whole, command_octet}
use Rattle.frame.specs.Writing.{front}
use Rattle.chain.specs.Numbers.{sent}
use Rattle.journal.specs.declared.queue.Journal.{Journal}
use Rattle.journal.specs.Steps.{Putting}
use Rattle.sink.specs.declared.Sink.{Ghosts}
use Rattle.shared_end.specs.declared.answer.Answer.{Answer}
use Rattle.shared_end.specs.declared.answer.FrameAnswer.{FrameAnswer}
use Rattle.shared_end.specs.declared.endpoint.Endpoint.{Endpoint}
use Rattle.shared_end.specs.declared.step.Step.{Step}
use Rattle.shared_end.specs.declared.data_command.DataCommand.{DataCommand}
use Rattle.shared_end.specs.Checks.{short}
use Rattle.shared_end.specs.Link.{Setting, expires}
use Rattle.shared_end.specs.Outcomes.{Message, reset_message, Outcome, is_taken, sends, kept}
use Rattle.shared_end.specs.Endpoints.{width, with_link, with_sink, carried_out, given, concluded, raised, restarted, ticked}

-- before a reply buffer that is shorter than a frame, a frame of another length than the connection's
abbrev pub unfit : (d : ℕ) → (octets reply : List ℕ) → Option Refusal
unfit d octets reply = cond (whole d octets) (short d reply) (Some WrongFrameLength)

-- the line of a fault: the state before the call, and the command octet
abbrev pub line_of : State → (command : ℕ) → Option Fault → Option Line
line_of before command None = None
line_of before command (Some f) = Some (record { fault = f; state = before; command = command })

-- a line is put into the journal; where there is none, nothing is done to it
abbrev pub Noted : Option Line → Journal Line → Journal Line → Type 0
Noted None j j' = j' ≡ j
Noted (Some l) j j' = Putting l j j'

-- a frame that goes out fills the front of the reply buffer, and the rest is kept
abbrev pub filled : (d : ℕ) → Option Message → List ℕ → List ℕ
filled d None buffer = buffer
filled d (Some m) buffer = sent m.from d m.id (octet m.command) m.octets ++ drop (frame_octets d) buffer

-- what an accepted call leaves: its line, the reply buffer and the journal
pub record Leaves (d : ℕ) (before : State) (command : ℕ) (f : Option Fault) (m : Option Message)
    (line : Option Line) (reply reply' : List ℕ) (j j' : Journal Line) : Type 0 where
  pub line_is : line ≡ line_of before command f
  pub reply_is : reply' ≡ filled d m reply
  pub journal_is : Noted (line_of before command f) j j'

-- what the reply buffer holds after a step that was made, or a fault
abbrev pub Replies : (d : ℕ) → Result Step Fault → (reply reply' : List ℕ) → Type 0
Replies d (Ok t) reply reply' = reply' ≡ front t.reply ++ drop (frame_octets t.reply.size.octets) reply
Replies d (Err f) reply reply' = reply' ≡ filled d (Some (reset_message (number f))) reply

-- it has room for the frame that goes out
abbrev pub Room : (d : ℕ) → Result Step Fault → (reply : List ℕ) → Type 0
Room d (Ok t) reply = frame_octets t.reply.size.octets ≤ length reply
Room d (Err f) reply = frame_octets d ≤ length reply

-- what a refused call leaves: all as it was
pub record Untouched {E : Type 0} (e e' : E) (reply reply' : List ℕ) (j j' : Journal Line) : Type 0 where
  pub end_is : e' ≡ e
  pub reply_is : reply' ≡ reply
  pub journal_is : j' ≡ j

module _ {S : Type 0} (m : Ghosts S) where
  -- a frame whose step was made, or gave a fault, is answered
  pub record Answered (e : Endpoint S) (command : ℕ) (step : Result Step Fault) (a : FrameAnswer) (e' : Endpoint S)
      (reply reply' : List ℕ) (j j' : Journal Line) : Type 0 where
    pub endpoint_is : e' ≡ carried_out m e step
    pub state_is : a.state ≡ e'.state
    pub taken_is : a.taken ≡ is_ok step
    pub line_is : a.line ≡ line_of e.state command (given m e step)
    pub journal_is : Noted (line_of e.state command (given m e step)) j j'
    pub reply_is : Replies (width e) step reply reply'

  -- an accepted frame and its outcome: the endpoint, the X beside it, the answer, the reply buffer and the journal
  pub record Framed {X : Type 0} (e : Endpoint S) (x : X) (octets : List ℕ) (o : Outcome X) (a : FrameAnswer)
      (e' : Endpoint S) (x' : X) (reply reply' : List ℕ) (j j' : Journal Line) : Type 0 where
    pub endpoint_is : e' ≡ concluded m e o
    pub own_is : x' ≡ kept x o
    pub state_is : a.state ≡ e'.state
    pub taken_is : a.taken ≡ is_taken o
    pub leaves : Leaves (width e) e.state (command_octet octets) (raised m e o) (Some (sends o)) a.line reply reply' j j'

  -- a tick that ends the watchdog time of a watchdog that runs is fault 5, answered by a Reset frame
  abbrev pub tick_fault : (runs : Bool) → Endpoint S → Option Fault
  tick_fault runs e = cond (expires runs e.link) (Some WatchdogExpired) None

  abbrev pub tick_reply : (runs : Bool) → Endpoint S → Option Message
  tick_reply runs e = cond (expires runs e.link) (Some (reset_message (number WatchdogExpired))) None

  abbrev pub Ticking : (runs : Bool) → Endpoint S → List ℕ → Journal Line → Result Answer Refusal → Endpoint S → List ℕ → Journal Line → Type 0
  Ticking runs e reply j (Ok a) e' reply' j' =
      (short (width e) reply ≡ None) × (e' ≡ ticked m runs e) × (a.state ≡ e'.state)
      × Leaves (width e) e.state 0 (tick_fault runs e) (tick_reply runs e) a.line reply reply' j j'
  Ticking runs e reply j (Err x) e' reply' j' = (short (width e) reply ≡ Some x) × Untouched e e' reply reply' j j'

  -- a reset writes a Reset frame with code 0, and gives no line
  abbrev pub Resetting : Endpoint S → List ℕ → Journal Line → Result Answer Refusal → Endpoint S → List ℕ → Journal Line → Type 0
  Resetting e reply j (Ok a) e' reply' j' =
      (short (width e) reply ≡ None) × (e' ≡ restarted m e) × (a.state ≡ e'.state)
      × Leaves (width e) e.state 0 None (Some (reset_message 0)) a.line reply reply' j j'
  Resetting e reply j (Err x) e' reply' j' = (short (width e) reply ≡ Some x) × Untouched e e' reply reply' j j'

-- how an end holds its endpoint: which one, and the end with another one and all else kept
pub record Holding (S E : Type 0) : Type 0 where
  pub endpoint : E → Endpoint S
  pub with_endpoint : E → Endpoint S → E

-- the calls that are the same at both ends
module _ {S E : Type 0} (h : Holding S E) where
  -- octets and a data command are set
  abbrev pub Sets : E → List ℕ → DataCommand → Result (Unit {0}) Refusal → E → Type 0
  Sets e octets c r e' =
      Setting (h.endpoint e).link octets c (h.endpoint e').link r
      × (e' ≡ h.with_endpoint e (with_link (h.endpoint e) (h.endpoint e').link))

  module _ (m : Ghosts S) where
    abbrev pub Ticks : (runs : Bool) → E → List ℕ → Journal Line → Result Answer Refusal → E → List ℕ → Journal Line → Type 0
    Ticks runs e reply j r e' reply' j' =
        Ticking m runs (h.endpoint e) reply j r (h.endpoint e') reply' j' × (e' ≡ h.with_endpoint e (h.endpoint e'))

    abbrev pub Resets : E → List ℕ → Journal Line → Result Answer Refusal → E → List ℕ → Journal Line → Type 0
    Resets e reply j r e' reply' j' =
        Resetting m (h.endpoint e) reply j r (h.endpoint e') reply' j' × (e' ≡ h.with_endpoint e (h.endpoint e'))

    -- a feedback is handed to the sink
    abbrev pub told : E → Bool → E
    told e working = h.with_endpoint e (with_sink (h.endpoint e) (m.told (h.endpoint e).sink working))
