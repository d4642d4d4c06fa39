-- Octets ANDed with the octets of a mask. Assumes nothing.
use Rattle.std.specs.Prelude.{List, [], ◌∷◌, ℕ}
use Rattle.std.specs.Int.Bits.{bit_and}

-- one by one, as far as both lists go
abbrev pub masked : List ℕ → List ℕ → List ℕ
masked [] ms = []
masked (o ∷ os) [] = []
masked (o ∷ os) (m ∷ ms) = bit_and o m ∷ masked os ms
