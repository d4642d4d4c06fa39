-- What is written is what is read. Assumes nothing.
use Rattle.std.specs.Prelude.{◌≡◌, ℕ, ◌-◌, true, List, ◌++◌, take, replicate}
use Rattle.length.specs.declared.DataLength.{DataLength}
use Rattle.crc.specs.declared.part.Shared.{Shared}
use Rattle.frame.specs.Layout.{frame}
use Rattle.frame.specs.Reading.{whole, command_octet, body, id, padded, right}

-- a written frame is whole and right, and its command, connection ID and data octets are those that were given
pub record ReadsBack (d command i register : ℕ) (given written : List ℕ) : Type 0 where
  pub is_whole : whole d written ≡ true
  pub command_is : command_octet written ≡ command
  pub id_is : id d written ≡ i
  pub octets_are : padded (body d written) ≡ take d given ++ replicate (32 - d) 0
  pub is_right : right d written register ≡ true

-- so is the frame that is written from what its parts share
abbrev pub Back : DataLength → Shared → List ℕ → Type 0
Back size s given =
    ReadsBack size.octets s.command s.id s.register.bits given
    (frame size.octets s.command s.id s.register.bits given)
