-- What an end keeps of its connection, and what is written from it. Assumes nothing.
use Rattle.std.specs.Prelude.{◌≡◌, ℕ, ◌-◌, Bool, cond, not, ◌&&◌, List, ◌∷◌, ◌++◌, length, replicate, Ok, Err, Result, ◌≢◌, nat_le}
use Rattle.crc.specs.Register.{low_high}
use Rattle.frame.specs.Commands.{octet}
use Rattle.frame.specs.declared.command.Command.{Command}
use Rattle.length.specs.declared.DataLength.{DataLength}
use Rattle.chain.specs.declared.numbers.Numbers.{Numbers}
use Rattle.chain.specs.Numbers.{fresh, after_sending, after_taking}
use Rattle.codes.specs.declared.refusal.Refusal.{Refusal}
use Rattle.codes.specs.declared.refusal.Refusal.TheVariants.{WrongDataCount}
use Rattle.shared_end.specs.declared.data_command.DataCommand.{DataCommand}
use Rattle.shared_end.specs.declared.data_command.DataCommand.TheVariants.{FailSafeData}
use Rattle.shared_end.specs.declared.link.Link.{Link}

-- the octets of a Reset frame: its code, and zeros
abbrev pub coded : ℕ → List ℕ
coded code = code ∷ replicate 31 0

-- the octets of a Session frame: the session number, and zeros
abbrev pub numbered : ℕ → List ℕ
numbered session = low_high session ++ replicate 30 0

-- a link of a connection that was not used yet
abbrev pub new_link : DataLength → (watchdog : ℕ) → Link
new_link size w =
    record { size = size; numbers = fresh; outputs = replicate 32 0; command = FailSafeData; watchdog = w; left = w }

module _ (l : Link) where
  -- with other numbers, data command and ticks left; the rest is kept
  abbrev pub with_numbers : Numbers → DataCommand → (left : ℕ) → Link
  with_numbers n c left =
      record { size = l.size; numbers = n; outputs = l.outputs; command = c; watchdog = l.watchdog; left = left }

  -- fresh numbers, and data frames for the safe state; the watchdog time starts anew
  abbrev pub freshened : Link
  freshened = with_numbers fresh FailSafeData l.watchdog

  -- after a frame was written: the watchdog time starts anew
  abbrev pub after_writing : (id : ℕ) → Command → List ℕ → Link
  after_writing id c octets = with_numbers (after_sending l.numbers id (octet c) octets) l.command l.watchdog

  -- after the octets were handed in: a frame that is not right changes nothing
  abbrev pub after_reading : List ℕ → Link
  after_reading octets = with_numbers (after_taking l.numbers l.size.octets octets) l.command l.left

  -- after octets and a data command were set
  abbrev pub with_outputs : List ℕ → DataCommand → Link
  with_outputs octets c =
      record {
        size = l.size;
        numbers = l.numbers;
        outputs = octets ++ replicate (32 - l.size.octets) 0;
        command = c;
        watchdog = l.watchdog;
        left = l.left;
      }

  -- octets are set if they are as many as the data length says; any other number is refused
  abbrev pub Setting : List ℕ → DataCommand → Link → Result (Unit {0}) Refusal → Type 0
  Setting octets c after (Ok r) = (length octets ≡ l.size.octets) × (after ≡ with_outputs octets c)
  Setting octets c after (Err e) = (length octets ≢ l.size.octets) × (e ≡ WrongDataCount) × (after ≡ l)

-- the tick is the last of the watchdog time, of a watchdog that runs
abbrev pub expires : (runs : Bool) → Link → Bool
expires runs l = runs && nat_le l.left 1

-- any other tick of it leaves one less
abbrev pub counted : (runs : Bool) → Link → Link
counted runs l = with_numbers l l.numbers l.command (cond (runs && not (expires runs l)) (l.left - 1) l.left)
