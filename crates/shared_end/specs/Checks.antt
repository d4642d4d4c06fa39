-- What the checks of an end find wrong. Assumes nothing.
use Rattle.std.specs.Prelude.{ℕ, cond, List, length, Some, None, Option, ◌==◌, nat_lt}
use Rattle.codes.specs.declared.refusal.Refusal.{Refusal}
use Rattle.codes.specs.declared.refusal.Refusal.TheVariants.{ShortReplyBuffer}
use Rattle.faults.specs.declared.fault.Fault.{Fault}
use Rattle.faults.specs.declared.fault.Fault.TheVariants.{InvalidConnectionId, InvalidCrc}
use Rattle.length.specs.Lawful.{frame_octets}
use Rattle.frame.specs.Reading.{id}
use Rattle.chain.specs.Numbers.{is_right}
use Rattle.chain.specs.declared.numbers.Numbers.{Numbers}

-- a reply buffer that is shorter than a frame is refused
abbrev pub short : (d : ℕ) → (reply : List ℕ) → Option Refusal
short d reply = cond (nat_lt (length reply) (frame_octets d)) (Some ShortReplyBuffer) None

-- a frame that is not right by these numbers has a wrong CRC
abbrev pub crc_fault : Numbers → (d : ℕ) → (octets : List ℕ) → Option Fault
crc_fault ns d octets = cond (is_right ns d octets) None (Some InvalidCrc)

-- a frame with another connection ID than i
abbrev pub id_fault : (d : ℕ) → (octets : List ℕ) → (i : ℕ) → Option Fault
id_fault d octets i = cond (id d octets == i) None (Some InvalidConnectionId)
