-- Lemmas of the law of the mask: each octet that it lets through, and that no bit is added. Assumes nothing.
use Rattle.std.specs.Prelude.{◌≡◌, refl, List, [], ◌∷◌, ℕ, zero, suc, get_or}
use Rattle.std.proofs.Common.{sym}
use Rattle.std.specs.Int.Bits.{bit_and, and_zero_r}
use Rattle.sink.specs.Octets.{Within}
use Rattle.sink.proofs.Lits.{lit_and_left, same_bit}
use Rattle.layers.specs.Masked.{masked}

pub get_or_masked : (os ms : List ℕ) (i : ℕ) → get_or (masked os ms) i 0 ≡ bit_and (get_or os i 0) (get_or ms i 0)
get_or_masked [] ms i = refl
get_or_masked (o ∷ os) [] zero = sym (and_zero_r o)
get_or_masked (o ∷ os) [] (suc i) = sym (and_zero_r (get_or os i 0))
get_or_masked (o ∷ os) (m ∷ ms) zero = refl
get_or_masked (o ∷ os) (m ∷ ms) (suc i) = get_or_masked os ms i

pub masked_within : (os ms : List ℕ) → Within (masked os ms) os
masked_within os ms i k h = lit_and_left (get_or os i 0) (get_or ms i 0) k (same_bit (get_or_masked os ms i) k h)
