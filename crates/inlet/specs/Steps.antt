-- What a slave makes of a frame, by its kind and the slave's state. Assumes nothing.
use Rattle.std.specs.Prelude.{◌≡◌, ℕ, ◌+◌, true, false, cond, not, ◌&&◌, List, Some, Ok, Err, Option, Result, ◌==◌, nat_le, nat_lt}
use Rattle.faults.specs.declared.fault.Fault.{Fault}
use Rattle.faults.specs.declared.fault.Fault.TheVariants.{InvalidCommand, InvalidConnectionId, InvalidCrc, InvalidAddress, InvalidParameterLength, InvalidWatchdog, InvalidUserLength}
use Rattle.faults.specs.declared.state.State.{State}
use Rattle.faults.specs.declared.state.State.TheVariants as s
use Rattle.frame.specs.Reading.{id}
use Rattle.frame.specs.declared.command.Command.{Command}
use Rattle.frame.specs.declared.command.Command.TheVariants as c
use Rattle.chain.specs.Numbers.{fresh, is_right}
use Rattle.shared_end.specs.Link.{numbered, freshened, after_writing, after_reading}
use Rattle.shared_end.specs.Data.{frame_command, carried, after_data}
use Rattle.shared_end.specs.Outcomes.{Outcome, taken, fault, unless, Sends, reset_message}
use Rattle.shared_end.specs.declared.link.Link.{Link}
use Rattle.shared_end.specs.declared.step.Act.{Act}
use Rattle.shared_end.specs.declared.step.Act.TheVariants as a
use Rattle.shared_end.specs.declared.step.Step.{Step}
use Rattle.inlet.specs.declared.Inlet.{Inlet}
use Rattle.inlet.specs.declared.Limits.{Limits}
use Rattle.inlet.specs.Storing.{word, with_piece}

-- a piece was stored from there on, and answered by its own octets
pub record Answered (l : Link) (x : Inlet) (s : State) (k : Command) (at : ℕ) (piece : List ℕ) (r : Step) (l' : Link) (x' : Inlet) : Type 0 where
  pub state_is : r.state ≡ s
  pub act_is : r.act ≡ a.Keep
  pub reply_is : Sends l.size (record { from = l.numbers; id = x.id; command = k; octets = piece }) r.reply
  pub link_is : l' ≡ after_writing l x.id k piece
  pub inlet_is : x' ≡ with_piece x l.size.octets x.id at piece

-- the link after a frame that is right by fresh numbers
abbrev pub opened : Link → List ℕ → Link
opened l octets = after_reading (freshened l) octets

abbrev pub Opens : Link → List ℕ → Result Link Fault → Type 0
Opens l octets (Ok o) = (is_right fresh l.size.octets octets ≡ true) × (o ≡ opened l octets)
Opens l octets (Err f) = (is_right fresh l.size.octets octets ≡ false) × (f ≡ InvalidCrc)

module _ (l : Link) (x : Inlet) (octets : List ℕ) where
  abbrev d : ℕ
  d = l.size.octets

  -- the link after the frame was taken
  abbrev read : Link
  read = after_reading l octets

  abbrev pub if_right : Outcome Inlet → Outcome Inlet
  if_right o = cond (is_right l.numbers d octets) o (fault InvalidCrc)

  -- a piece of a block is stored from there on, and answered by its own octets
  abbrev pub echoed : State → Command → (kept at : ℕ) → List ℕ → Outcome Inlet
  echoed s k kept at piece =
      taken s a.Keep (record { from = read.numbers; id = kept; command = k; octets = piece })
      (after_writing read kept k piece) (with_piece x d kept at piece)

  abbrev pub answered : State → Command → (kept at : ℕ) → List ℕ → Outcome Inlet
  answered s k kept at piece = if_right (echoed s k kept at piece)

  -- the first piece of the connection block: its ID is not 0, and is the ID of the frame
  abbrev pub first_connection : List ℕ → Outcome Inlet
  first_connection piece =
      cond (not (id d octets == 0) && id d octets == word piece 0)
      (answered s.Connection c.Connection (id d octets) 0 piece) (fault InvalidConnectionId)

  -- the next piece of a block of so many octets
  abbrev pub next_piece : State → Command → (total : ℕ) → List ℕ → Outcome Inlet
  next_piece s k total piece =
      cond (nat_lt x.stored total)
      (cond (id d octets == x.id) (answered s k x.id x.stored piece) (fault InvalidConnectionId))
      (fault InvalidCommand)

  -- the first piece of the parameter block
  abbrev pub first_parameter : List ℕ → Outcome Inlet
  first_parameter piece =
      cond (nat_lt x.stored 4) (fault InvalidCommand)
      (cond (id d octets == x.id)
      (cond (word x.block 2 == x.address) (answered s.Parameter c.Parameter x.id 0 piece) (fault InvalidAddress))
      (fault InvalidConnectionId))

  -- Reset and Session frames are judged by fresh numbers
  abbrev pub if_first : Outcome Inlet → Outcome Inlet
  if_first o = cond (is_right fresh d octets) o (fault InvalidCrc)

  abbrev pub reset_answered : Outcome Inlet
  reset_answered = taken s.Reset a.Clear (reset_message 0) (freshened l) x

  abbrev pub reset_taken : Outcome Inlet
  reset_taken = if_first reset_answered

  abbrev pub session_answered : (session : ℕ) → Outcome Inlet
  session_answered session =
      taken s.Session a.Clear (record { from = (opened l octets).numbers; id = 0; command = c.Session; octets = numbered session })
      (after_writing (opened l octets) 0 c.Session (numbered session)) x

  abbrev pub session_taken : (session : ℕ) → Outcome Inlet
  session_taken session = if_first (session_answered session)

  -- the watchdog time is w from now on
  abbrev pub timed : (w : ℕ) → Link → Link
  timed w k =
      record { size = k.size; numbers = k.numbers; outputs = k.outputs; command = k.command; watchdog = w; left = k.left }

  -- a data frame is answered by a data frame, which starts the watchdog time
  abbrev pub data_answered : Act → (w : ℕ) → Outcome Inlet
  data_answered act w =
      taken s.Data act
      (record { from = read.numbers; id = x.id; command = frame_command l.command; octets = carried l.command l.outputs })
      (after_data (timed w read) x.id) x

  abbrev pub data_taken : Act → (w : ℕ) → Outcome Inlet
  data_taken act w = if_right (data_answered act w)

  -- in state Data
  abbrev pub next_data : Act → Outcome Inlet
  next_data act = cond (id d octets == x.id) (data_taken act l.watchdog) (fault InvalidConnectionId)

  -- what is wrong with the parameter block, for a profile with these numbers and this verdict on the user octets
  abbrev pub parameter_fault : Limits → Option Fault → Option Fault
  parameter_fault p verdict =
      cond (nat_lt x.stored (6 + p.user_octets)) (Some InvalidCommand)
      (cond (not (id d octets == x.id)) (Some InvalidConnectionId)
      (cond (not (word x.block 0 == 2)) (Some InvalidParameterLength)
      (cond (not (nat_le p.lowest (word x.block 2) && nat_le (word x.block 2) p.highest)) (Some InvalidWatchdog)
      (cond (not (word x.block 4 == p.user_octets)) (Some InvalidUserLength) verdict))))

  -- the first data frame, in state Parameter
  abbrev pub first_data : Limits → Option Fault → Act → Outcome Inlet
  first_data p verdict act = unless (parameter_fault p verdict) (data_taken act (word x.block 2))
