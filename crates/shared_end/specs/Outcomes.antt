-- What a frame comes to at an end that keeps an X of its own beside its link. Assumes nothing.
use Rattle.std.specs.Prelude.{◌≡◌, ℕ, Bool, true, false, List, Some, None, Ok, Err, Option, Result}
use Rattle.faults.specs.Faults.{number}
use Rattle.faults.specs.declared.fault.Fault.{Fault}
use Rattle.faults.specs.declared.state.State.{State}
use Rattle.length.specs.declared.DataLength.{DataLength}
use Rattle.frame.specs.Commands.{octet, command}
use Rattle.frame.specs.Reading.{command_octet, body}
use Rattle.frame.specs.Received.{Is}
use Rattle.frame.specs.declared.received.Frame.{Frame}
use Rattle.frame.specs.declared.command.Command.{Command}
use Rattle.frame.specs.declared.command.Command.TheVariants.{Reset}
use Rattle.frame.specs.declared.outgoing.Outgoing.{Outgoing}
use Rattle.chain.specs.declared.numbers.Numbers.{Numbers}
use Rattle.chain.specs.Numbers.{fresh}
use Rattle.chain.specs.Written.{Written}
use Rattle.shared_end.specs.declared.link.Link.{Link}
use Rattle.shared_end.specs.declared.step.Act.{Act}
use Rattle.shared_end.specs.declared.step.Step.{Step}
use Rattle.shared_end.specs.Link.{coded}

-- the frame is what the octets read as
abbrev pub Reads : Link → List ℕ → Frame → Type 0
Reads l octets f = Is f (command (command_octet octets)) (body l.size.octets octets)

-- a frame that goes out: from which numbers, with which connection ID, command and octets
pub record Message : Type 0 where
  pub from : Numbers
  pub id : ℕ
  pub command : Command
  pub octets : List ℕ

abbrev pub Sends : DataLength → Message → Outgoing → Type 0
Sends size m f = Written m.from size m.id (octet m.command) m.octets f

-- a Reset frame with a code
abbrev pub reset_message : (code : ℕ) → Message
reset_message code = record { from = fresh; id = 0; command = Reset; octets = coded code }

-- a frame is taken, with the state after it, what the sink is told, the frame that goes out, and the link and the X after
-- it; or it is a fault
pub data Outcome (X : Type 0) : Type 0 where
  taken : State → Act → Message → Link → X → Outcome X
  fault : Fault → Outcome X

module _ {X : Type 0} where
  -- the answer, the link and the X are those of the outcome, and the data length stays; at a fault the two are as they were
  abbrev pub Comes : Outcome X → Link → X → Result Step Fault → Link → X → Type 0
  Comes (taken s act m l x) link own (Ok r) link' own' =
      (r.state ≡ s) × (r.act ≡ act) × Sends l.size m r.reply × (link' ≡ l) × (own' ≡ x) × (l.size ≡ link.size)
  Comes (taken s act m l x) link own (Err e) link' own' = ⊥
  Comes (fault f) link own (Ok r) link' own' = ⊥
  Comes (fault f) link own (Err e) link' own' = (e ≡ f) × (link' ≡ link) × (own' ≡ own)

  abbrev pub is_taken : Outcome X → Bool
  is_taken (taken s act m l x) = true
  is_taken (fault f) = false

  -- the frame that goes out
  abbrev pub sends : Outcome X → Message
  sends (taken s act m l x) = m
  sends (fault f) = reset_message (number f)

  -- a frame with a fault is not taken
  abbrev pub unless : Option Fault → Outcome X → Outcome X
  unless None o = o
  unless (Some f) o = fault f

  -- the X afterwards
  abbrev pub kept : X → Outcome X → X
  kept own (taken s act m l x) = x
  kept own (fault f) = own
