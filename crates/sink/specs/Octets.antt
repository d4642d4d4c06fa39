-- The octets that a sink is handed and shows, and the bits set in them. Assumes nothing.
use Rattle.std.specs.Prelude.{◌≡◌, ℕ, ◌/◌, ◌%◌, ◌^◌, List, replicate, slice_index}

abbrev pub zeros : List ℕ
zeros = replicate 32 0

-- bit k of a number is set
abbrev pub Bit : ℕ → ℕ → Type 0
Bit n k = (n / 2 ^ k) % 2 ≡ 1

-- bit k of octet i is set
abbrev pub Lit : List ℕ → ℕ → ℕ → Type 0
Lit octets i k = Bit (slice_index octets i) k

-- each bit set in the one is set in the other
abbrev pub Within : List ℕ → List ℕ → Type 0
Within inner outer = (i k : ℕ) → Lit inner i k → Lit outer i k
