-- What a taken data frame does to the sink, at either end. Assumes nothing.
use Rattle.std.proofs.Common.{◌≡◌, ℕ, ◌≤◌, List, ◌∷◌, Option}
use Rattle.faults.specs.declared.state.State.{State}
use Rattle.faults.specs.declared.state.State.TheVariants as s
use Rattle.frame.specs.Commands.{command}
use Rattle.frame.specs.Reading.{command_octet}
use Rattle.frame.specs.declared.command.Command.{Command}
use Rattle.frame.specs.declared.command.Command.TheVariants as c
use Rattle.chain.specs.declared.numbers.Numbers.{Numbers}
use Rattle.sink.specs.declared.Sink.{Ghosts}
use Rattle.sink.specs.Lawful.{Lawful}
use Rattle.shared_end.specs.declared.data_command.DataCommand.{DataCommand}
use Rattle.shared_end.specs.declared.answer.FrameAnswer.{FrameAnswer}
use Rattle.shared_end.specs.declared.endpoint.Endpoint.{Endpoint}
use Rattle.shared_end.specs.declared.link.Link.{Link}
use Rattle.shared_end.specs.declared.step.Act.{Act}
use Rattle.shared_end.specs.declared.step.Act.TheVariants as a
use Rattle.shared_end.specs.Outcomes.{Outcome, is_taken}
use Rattle.shared_end.specs.Endpoints.{acted, missed, raised}
use Rattle.shared_end.specs.Calls.{line_of}
use Rattle.history.specs.Events.{Event, Took, line}
use Rattle.history.specs.Live as live
use Rattle.history.specs.Live.{data_octets, Since}
use Rattle.history.proofs.Shining.{Glows, released_glows, cleared_glows}

-- a link for frames of the same data length
abbrev pub relinked : Link → Numbers → List ℕ → DataCommand → (watchdog left : ℕ) → Link
relinked l numbers outputs command w left =
    record { size = l.size; numbers = numbers; outputs = outputs; command = command; watchdog = w; left = left }

-- a ProcessData frame is released, a FailSafeData frame clears the sink
pub data Tells (piece : List ℕ) : Command → Act → Type 0 where
  process_data : Tells piece c.ProcessData (a.Release piece)
  fail_safe_data : Tells piece c.FailSafeData a.Clear

module _ {S : Type 0} (m : Ghosts S) (law : Lawful m) (es : List Event) (event : Event) (l : Link) (sink : S)
    (time : l.left ≡ l.watchdog) (some : 1 ≤ l.left) (octets : List ℕ) (before : State) (command : ℕ) where
  pub told_glows : {k : Command} {act : Act} → Tells (data_octets l.size.octets octets) k act → Took k octets event →
      line event ≡ line_of before command (missed m act sink) →
      Glows m (event ∷ es) (record { state = s.Data; link = l; sink = acted m act sink })
  told_glows process_data took noted = released_glows m law es event l sink time some octets before command took noted
  told_glows fail_safe_data took noted = cleared_glows m law es event l sink time some

pub data_since : {piece octets : List ℕ} {es : List Event} {event : Event} {k : Command} {act : Act} {ds ps cs : List (List ℕ)} →
    Tells piece k act → Took k octets event → Since es ds ps cs → Since (event ∷ es) (octets ∷ ds) ps cs
data_since process_data took since = live.process_data took since
data_since fail_safe_data took since = live.fail_safe_data took since

-- what the answer says of a frame of a kind and its outcome
pub record Says {S X : Type 0} (m : Ghosts S) (e : Endpoint S) (octets : List ℕ) (r : FrameAnswer) (k : Option Command) (o : Outcome X) : Type 0 where
  pub kind_is : command (command_octet octets) ≡ k
  pub taken_is : r.taken ≡ is_taken o
  pub line_is : r.line ≡ line_of e.state (command_octet octets) (raised m e o)
