-- The CRC register, 16 bits: how it takes octets. Assumes nothing.
use Rattle.std.specs.Prelude.{ℕ, zero, suc, ◌*◌, ◌/◌, ◌%◌, cond, List, [], ◌∷◌, bit_xor, nat_le}

-- shifted left by one place, and XORed with the polynomial if a one fell out
unfoldable pub shift : ℕ → ℕ
shift r = cond (nat_le 0x8000 r) (bit_xor (r * 2 % 65536) 0x39B7) (r * 2 % 65536)

-- shifted so many times
abbrev pub shifts : ℕ → ℕ → ℕ
shifts zero r = r
shifts (suc k) r = shift (shifts k r)

-- an octet is XORed into the high half, and the register shifted eight times
unfoldable pub feed : ℕ → ℕ → ℕ
feed r octet = shifts 8 (bit_xor r (octet * 256))

-- octets are fed one after another
abbrev pub fed : ℕ → List ℕ → ℕ
fed r [] = r
fed r (octet ∷ octets) = fed (feed r octet) octets

-- the two octets of a number, the low one first
abbrev pub low_high : ℕ → List ℕ
low_high n = n % 256 ∷ n / 256 ∷ []
