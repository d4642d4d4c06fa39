-- Numbers in the user octets, and their ranges. Assumes nothing.
use Rattle.std.specs.Prelude.{Bool, ◌&&◌, List, ℕ, ◌+◌, ◌*◌, nat_le, slice_index}

-- two octets, the low one first
abbrev pub word : ℕ → ℕ → ℕ
word low high = low + 256 * high

-- the number that begins at octet i
abbrev pub word_at : List ℕ → ℕ → ℕ
word_at octets i = word (slice_index octets i) (slice_index octets (i + 1))

-- both ends included
abbrev pub between : ℕ → ℕ → ℕ → Bool
between lowest highest n = nat_le lowest n && nat_le n highest
