-- The calls of an end, each with what it answered. Assumes nothing.
use Rattle.std.specs.Prelude.{◌≡◌, ℕ, Bool, true, false, List, Some, None, Ok, Err, Option, Result}
use Rattle.codes.specs.declared.refusal.Refusal.{Refusal}
use Rattle.faults.specs.declared.line.Line.{Line}
use Rattle.frame.specs.Commands.{command}
use Rattle.frame.specs.Reading.{command_octet}
use Rattle.frame.specs.declared.command.Command.{Command}
use Rattle.shared_end.specs.declared.answer.Answer.{Answer}
use Rattle.shared_end.specs.declared.answer.FrameAnswer.{FrameAnswer}
use Rattle.shared_end.specs.declared.data_command.DataCommand.{DataCommand}

pub data Event : Type 0 where
  frame : (octets : List ℕ) → (session : ℕ) → Result FrameAnswer Refusal → Event
  tick : Result Answer Refusal → Event
  reset : Result Answer Refusal → Event
  set : (octets : List ℕ) → DataCommand → Result (Unit {0}) Refusal → Event
  feedback : (working : Bool) → Event
  read_out : Option Line → Event

-- a frame of that kind with these octets was taken
abbrev pub Took : Command → List ℕ → Event → Type 0
Took k octets (frame o n (Ok a)) = (a.taken ≡ true) × (o ≡ octets) × (command (command_octet o) ≡ Some k)
Took k octets (frame o n (Err x)) = ⊥
Took k octets (tick r) = ⊥
Took k octets (reset r) = ⊥
Took k octets (set o c r) = ⊥
Took k octets (feedback w) = ⊥
Took k octets (read_out l) = ⊥

-- the line that a call gave: one for each fault
abbrev pub line : Event → Option Line
line (frame o n (Ok a)) = a.line
line (frame o n (Err x)) = None
line (tick (Ok a)) = a.line
line (tick (Err x)) = None
line (reset (Ok a)) = a.line
line (reset (Err x)) = None
line (set o c r) = None
line (feedback w) = None
line (read_out l) = None

-- no frame was taken, no fault came, and no reset call was accepted
abbrev pub Idle : Event → Type 0
Idle (frame o n (Ok a)) = (a.taken ≡ false) × (a.line ≡ None)
Idle (frame o n (Err x)) = Unit {0}
Idle (tick (Ok a)) = a.line ≡ None
Idle (tick (Err x)) = Unit {0}
Idle (reset (Ok a)) = ⊥
Idle (reset (Err x)) = Unit {0}
Idle (set o c r) = Unit {0}
Idle (feedback w) = Unit {0}
Idle (read_out l) = Unit {0}

-- the sink was not told that it is down
abbrev pub NotDown : Event → Type 0
NotDown (frame o n r) = Unit {0}
NotDown (tick r) = Unit {0}
NotDown (reset r) = Unit {0}
NotDown (set o c r) = Unit {0}
NotDown (feedback w) = w ≡ true
NotDown (read_out l) = Unit {0}

-- the accepted ticks
abbrev pub ticks : Event → ℕ
ticks (frame o n r) = 0
ticks (tick (Ok a)) = 1
ticks (tick (Err x)) = 0
ticks (reset r) = 0
ticks (set o c r) = 0
ticks (feedback w) = 0
ticks (read_out l) = 0
