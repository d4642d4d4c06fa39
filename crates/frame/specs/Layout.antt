-- What stands in a frame, octet by octet. Assumes nothing.
use Rattle.std.specs.Prelude.{ℕ, zero, suc, ◌+◌, ◌-◌, ◌*◌, ◌/◌, List, [], ◌∷◌, ◌++◌, replicate, slice_index}
use Rattle.length.specs.Lawful.{frame_octets}
use Rattle.crc.specs.Register.{low_high}
use Rattle.crc.specs.Crc.{part_crc}

-- part i: two data octets and their CRC, from the register that all parts share
abbrev pub part : (register i first second : ℕ) → List ℕ
part register i first second = first ∷ second ∷ low_high (part_crc register i first second)

-- the first so many parts; data octets that are not given are 0
abbrev pub parts : ℕ → List ℕ → ℕ → List ℕ
parts register octets zero = []
parts register octets (suc i) = parts register octets i ++ part register i (slice_index octets (2 * i)) (slice_index octets (2 * i + 1))

-- the frame of d data octets: the command, the parts, the connection ID
unfoldable pub frame : (d command id register : ℕ) → List ℕ → List ℕ
frame d command id register octets = command ∷ (parts register octets (d / 2) ++ low_high id)

-- the frame at the front of room for the longest one
abbrev pub filled : (d command id register : ℕ) → List ℕ → List ℕ
filled d command id register octets = frame d command id register octets ++ replicate (67 - frame_octets d) 0
