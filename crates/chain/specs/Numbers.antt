-- The numbers that chain frames: which one a frame goes with, and what is kept of it. Assumes nothing.
use Rattle.std.specs.Prelude.{ℕ, ◌+◌, Bool, cond, not, ◌&&◌, ◌||◌, List, Some, None, Option, ◌==◌, slice_index}
use Rattle.crc.specs.Crc.{shared, crc}
use Rattle.frame.specs.Commands.{octet}
use Rattle.frame.specs.declared.command.Command.TheVariants.{Reset, Session}
use Rattle.frame.specs.Layout.{frame}
use Rattle.frame.specs.Reading.{command_octet, first_octet, second_octet, id, right}
use Rattle.chain.specs.declared.numbers.Numbers.{Numbers}

-- the number after n: after 65,535 comes 1
abbrev pub next : ℕ → ℕ
next n = cond (n == 65535) 1 (n + 1)

-- Reset and Session frames pass over no number
abbrev pub passes : ℕ → Bool
passes command = not (command == octet Reset || command == octet Session)

-- the number tried, or the one after it if CRC_0 would then be the old one
unfoldable pub used : (tried old last id command first second : ℕ) → ℕ
used tried old last id command first second =
    cond (passes command && crc 0 last id tried command first second == old) (next tried) tried

-- both ends start with these
abbrev pub fresh : Numbers
fresh = record { own = 1; peer = 1; last = 0; old_own = 0; old_peer = 0 }

module _ (n : Numbers) where
  -- writing: the number of the frame, its CRC_0, its octets, and the numbers afterwards
  abbrev pub sent_number : (id command : ℕ) → List ℕ → ℕ
  sent_number id command octets = used n.own n.old_own n.last id command (slice_index octets 0) (slice_index octets 1)

  abbrev pub sent_crc : (id command : ℕ) → List ℕ → ℕ
  sent_crc id command octets = crc 0 n.last id (sent_number id command octets) command (slice_index octets 0) (slice_index octets 1)

  abbrev pub sent : (d id command : ℕ) → List ℕ → List ℕ
  sent d id command octets = frame d command id (shared n.last id (sent_number id command octets) command) octets

  abbrev pub after_sending : (id command : ℕ) → List ℕ → Numbers
  after_sending id command octets =
      record {
        own = next (sent_number id command octets);
        peer = n.peer;
        last = sent_crc id command octets;
        old_own = sent_crc id command octets;
        old_peer = n.old_peer;
      }

  -- reading: the number that the frame must have, its CRC_0 with that number, whether its CRCs are right
  abbrev pub read_number : ℕ → List ℕ → ℕ
  read_number d octets =
      used n.peer n.old_peer n.last (id d octets) (command_octet octets) (first_octet octets) (second_octet octets)

  abbrev pub read_crc : ℕ → List ℕ → ℕ
  read_crc d octets =
      crc 0 n.last (id d octets) (read_number d octets) (command_octet octets) (first_octet octets) (second_octet octets)

  abbrev pub is_right : ℕ → List ℕ → Bool
  is_right d octets = right d octets (shared n.last (id d octets) (read_number d octets) (command_octet octets))

  -- the number of a frame that is taken, and the numbers afterwards; a frame that is not right changes nothing
  abbrev pub taken : ℕ → List ℕ → Option ℕ
  taken d octets = cond (is_right d octets) (Some (read_number d octets)) None

  abbrev pub after_taking : ℕ → List ℕ → Numbers
  after_taking d octets =
      cond (is_right d octets)
      (record {
        own = n.own;
        peer = next (read_number d octets);
        last = read_crc d octets;
        old_own = n.old_own;
        old_peer = read_crc d octets;
      })
      n
