-- What is made of a number that was chosen for a frame. Assumes nothing.
use Rattle.std.specs.Prelude.{◌≡◌, ℕ, true, ◌≢◌}
use Rattle.crc.specs.Crc.{shared, crc}
use Rattle.chain.specs.declared.choice.Choice.{Choice}
use Rattle.chain.specs.declared.choice.Trial.{Trial}
use Rattle.chain.specs.Numbers.{passes, used}

-- that number, the CRC_0 that it gives, and what the parts of the frame share
pub record At (t : Trial) (n : ℕ) (c : Choice) : Type 0 where
  pub number : c.number ≡ n
  pub crc_0 : c.crc ≡ crc 0 t.last t.id n t.command t.first t.second
  pub command_is : c.shared.command ≡ t.command
  pub id_is : c.shared.id ≡ t.id
  pub register : c.shared.register.bits ≡ shared t.last t.id n t.command

-- the number that a trial ends with
abbrev pub chosen : Trial → ℕ
chosen t = used t.tried t.old t.last t.id t.command t.first t.second

-- where a number may be passed over, the CRC_0 is never the old one
abbrev pub Differs : Trial → Choice → Type 0
Differs t c = passes t.command ≡ true → c.crc ≢ t.old
