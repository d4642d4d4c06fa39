-- Points of the format that are known beforehand. Assumes nothing.
use Rattle.std.specs.Prelude.{◌≡◌, ℕ, false, List, [], ◌∷◌}
use Rattle.std.specs.List.{AllByRecursion}
use Rattle.length.specs.Lawful.{lawful, frame_octets, exchanges}
use Rattle.crc.specs.Register.{feed, low_high}
use Rattle.profile.specs.Verdicts.{number}
use Rattle.profiles.specs.BankRules.{bank_verdict}

pub data Point : Type 0 where
  -- a frame of d data octets has so many octets
  frame_has : (d octets : ℕ) → Point
  -- a data length of d is refused
  refused : (d : ℕ) → Point
  -- a zero register that is fed one octet gives this
  gives : (octet register : ℕ) → Point
  -- so many exchanges bring a connection back, with data length d and n user octets
  returns_after : (d n count : ℕ) → Point
  -- the bank profile's verdict on its number has this number
  bank_says : (n verdict : ℕ) → Point

abbrev pub Holds : Point → Type 0
Holds (frame_has d octets) = frame_octets d ≡ octets
Holds (refused d) = lawful d ≡ false
Holds (gives octet register) = feed 0 octet ≡ register
Holds (returns_after d n count) = exchanges d n ≡ count
Holds (bank_says n verdict) = number (bank_verdict (low_high n)) ≡ verdict

abbrev pub table : List Point
table =
    frame_has 2 7 ∷ frame_has 32 67
    ∷ refused 0 ∷ refused 3 ∷ refused 34
    ∷ gives 1 0x39B7 ∷ gives 8 0xF40F
    ∷ returns_after 4 2 6 ∷ returns_after 2 0 8 ∷ returns_after 32 16 5
    ∷ bank_says 9 11 ∷ bank_says 10 0 ∷ bank_says 3000 0 ∷ bank_says 3001 11
    ∷ []

abbrev pub Stands : Type 0
Stands = AllByRecursion Holds table
