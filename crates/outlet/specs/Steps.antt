-- What a master makes of a frame, step by step. Assumes nothing.
use Rattle.std.specs.Prelude.{◌≡◌, ℕ, ◌+◌, cond, List, Some, None, Ok, Err, Option, Result, ◌==◌, nat_lt}
use Rattle.std.specs.Str.{bytes_eq}
use Rattle.faults.specs.declared.fault.Fault.{Fault}
use Rattle.faults.specs.declared.fault.Fault.TheVariants.{InvalidConnectionId, InvalidCrc, InvalidData}
use Rattle.faults.specs.declared.state.State.TheVariants as s
use Rattle.frame.specs.Reading.{id}
use Rattle.frame.specs.declared.command.Command.TheVariants as c
use Rattle.chain.specs.Numbers.{fresh, is_right}
use Rattle.plan.specs.declared.sealed_plan.SealedPlan.{SealedPlan}
use Rattle.shared_end.specs.Link.{numbered, freshened, after_writing, after_reading}
use Rattle.shared_end.specs.Data.{frame_command, carried, after_data}
use Rattle.shared_end.specs.Outcomes.{Outcome, taken, unless}
use Rattle.shared_end.specs.declared.link.Link.{Link}
use Rattle.shared_end.specs.declared.step.Act.{Act}
use Rattle.shared_end.specs.declared.step.Act.TheVariants as a
use Rattle.outlet.specs.declared.Outlet.{Outlet}
use Rattle.outlet.specs.declared.blocks.Block.{Block}
use Rattle.outlet.specs.declared.blocks.Block.TheVariants.{Connection, Parameter}
use Rattle.outlet.specs.Blocks.{piece, state_of, command_of, count_of, contents}

abbrev pub with_at : Outlet → (at : ℕ) → Outlet
with_at o at = record { user = o.user; at = at }

-- what goes out from a link
module _ (l : Link) (o : Outlet) (p : SealedPlan) where
  -- the piece of a block that begins there
  abbrev pub piece_at : Block → (at : ℕ) → List ℕ
  piece_at b at = piece l.size.octets at (contents p o.user b)

  abbrev pub piece_out : Block → (at : ℕ) → Outcome Outlet
  piece_out b at =
      taken (state_of b) a.Keep
      (record { from = l.numbers; id = p.draft.id; command = command_of b; octets = piece_at b at })
      (after_writing l p.draft.id (command_of b) (piece_at b at)) (with_at o at)

  abbrev pub data_out : Act → Outcome Outlet
  data_out act =
      taken s.Data act
      (record { from = l.numbers; id = p.draft.id; command = frame_command l.command; octets = carried l.command l.outputs })
      (after_data l p.draft.id) o

  -- behind the last piece of a block: the first piece of the next one, or a data frame
  abbrev pub behind : Block → Outcome Outlet
  behind Connection = piece_out Parameter 0
  behind Parameter = data_out a.Keep

  -- behind the piece that was out
  abbrev pub next_out : Block → Outcome Outlet
  next_out b =
      cond (nat_lt (o.at + l.size.octets) (count_of p b)) (piece_out b (o.at + l.size.octets)) (behind b)

-- fresh, and a Session frame with the session number
abbrev pub reset_taken : Link → Outlet → (session : ℕ) → Outcome Outlet
reset_taken l o x =
    taken s.Session a.Clear (record { from = fresh; id = 0; command = c.Session; octets = numbered x })
    (after_writing (freshened l) 0 c.Session (numbered x)) o

module _ (l : Link) (o : Outlet) (p : SealedPlan) (octets : List ℕ) where
  -- the link after the frame was taken
  abbrev pub read : Link
  read = after_reading l octets

  -- what is wrong with a frame: its connection ID, then an answer that differs from the piece that is out, then its CRCs
  abbrev pub crc_fault : Option Fault
  crc_fault = cond (is_right l.numbers l.size.octets octets) None (Some InvalidCrc)

  abbrev pub id_fault : Option Fault → Option Fault
  id_fault other = cond (id l.size.octets octets == p.draft.id) other (Some InvalidConnectionId)

  abbrev pub answer_fault : Block → (answer : List ℕ) → Option Fault
  answer_fault b answer = id_fault (cond (bytes_eq answer (piece_at l o p b o.at)) crc_fault (Some InvalidData))

  -- the link after a check: it is as it was where there is a fault
  abbrev pub Checked : Option Fault → Result (Unit {0}) Fault → Link → Type 0
  Checked f (Ok r) l' = (f ≡ None) × (l' ≡ read)
  Checked f (Err e) l' = (f ≡ Some e) × (l' ≡ l)

  abbrev pub session_taken : Outcome Outlet
  session_taken = unless crc_fault (piece_out read o p Connection 0)

  abbrev pub piece_taken : Block → (answer : List ℕ) → Outcome Outlet
  piece_taken b answer = unless (answer_fault b answer) (next_out read o p b)

  abbrev pub data_taken : Act → Outcome Outlet
  data_taken act = unless (id_fault crc_fault) (data_out read o p act)
