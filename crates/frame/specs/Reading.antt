-- What is read from the octets of a frame of d data octets. Assumes nothing.
use Rattle.std.specs.Prelude.{ℕ, zero, suc, ◌+◌, ◌-◌, ◌*◌, ◌/◌, min, Bool, true, ◌&&◌, List, [], ◌∷◌, ◌++◌, length, take, drop, replicate, ◌==◌, slice_index}
use Rattle.crc.specs.Crc.{part_crc}
use Rattle.length.specs.Lawful.{frame_octets}

-- it has as many octets as the connection's frames
abbrev pub whole : ℕ → List ℕ → Bool
whole d octets = length octets == frame_octets d

abbrev pub command_octet : List ℕ → ℕ
command_octet octets = slice_index octets 0

-- the first two data octets stand behind the command
abbrev pub first_octet : List ℕ → ℕ
first_octet octets = slice_index octets 1

abbrev pub second_octet : List ℕ → ℕ
second_octet octets = slice_index octets 2

-- what stands between the command and the connection ID
abbrev pub body : ℕ → List ℕ → List ℕ
body d octets = take (2 * d) (drop 1 octets)

abbrev pub id : ℕ → List ℕ → ℕ
id d octets = slice_index octets (2 * d + 1) + 256 * slice_index octets (2 * d + 2)

-- part i of a body: its first data octet, its second, its CRC
abbrev pub first : List ℕ → ℕ → ℕ
first body i = slice_index body (4 * i)

abbrev pub second : List ℕ → ℕ → ℕ
second body i = slice_index body (4 * i + 1)

abbrev pub crc_in : List ℕ → ℕ → ℕ
crc_in body i = slice_index body (4 * i + 2) + 256 * slice_index body (4 * i + 3)

-- the data octets of the first so many parts
abbrev pub pairs : List ℕ → ℕ → List ℕ
pairs body zero = []
pairs body (suc i) = pairs body i ++ (first body i ∷ second body i ∷ [])

-- the CRC that stands in part i is the one that follows from its data octets and the shared register
abbrev pub part_right : ℕ → List ℕ → ℕ → Bool
part_right register body i = crc_in body i == part_crc register i (first body i) (second body i)

-- so it is in each of the first so many parts
abbrev pub parts_right : ℕ → List ℕ → ℕ → Bool
parts_right register body zero = true
parts_right register body (suc i) = parts_right register body i && part_right register body i

-- a whole frame whose CRCs are all right
unfoldable pub right : ℕ → List ℕ → ℕ → Bool
right d octets register = whole d octets && parts_right register (body d octets) (d / 2)

-- the data octets of a body, up to 32, with zeros behind them
abbrev pub padded : List ℕ → List ℕ
padded body = pairs body (min (length body / 4) 16) ++ replicate (32 - 2 * min (length body / 4) 16) 0
