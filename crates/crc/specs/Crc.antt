-- The CRC of each part of a frame. Assumes nothing.
use Rattle.std.specs.Prelude.{◌≡◌, ℕ, ◌<◌, cond, List, [], ◌∷◌, ◌++◌, ◌==◌}
use Rattle.crc.specs.Register.{fed, low_high}

-- what all parts of a frame share: the CRC_0 before it, the connection ID, the sequence number, the command
unfoldable pub shared : (last id number command : ℕ) → ℕ
shared last id number command = fed 0 (low_high last ++ low_high id ++ low_high number ++ (command ∷ []))

-- the index of a part is fed if it is above 0
abbrev pub index : ℕ → List ℕ
index i = cond (i == 0) [] (low_high i)

-- the CRC of part i, over its two data octets and three zeros, from the register that the parts share
unfoldable pub part_crc : (register i first second : ℕ) → ℕ
part_crc register i first second = fed register (index i ++ (first ∷ second ∷ 0 ∷ 0 ∷ 0 ∷ []))

-- the CRC of part i of a frame
abbrev pub crc : (i last id number command first second : ℕ) → ℕ
crc i last id number command first second = part_crc (shared last id number command) i first second

-- with all else fixed, no other sequence number gives this CRC
abbrev pub OnlyNumber : (i last id number command first second : ℕ) → Type 0
OnlyNumber i last id number command first second =
    (other : ℕ) → other < 65536 → crc i last id other command first second ≡ crc i last id number command first second → other ≡ number
