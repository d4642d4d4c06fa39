-- Octets made one by one from an index, and octets ANDed with a mask.
use Rattle.std.specs.Prelude.{◌≡◌, refl, List, [], ◌∷◌, ℕ, zero, suc, ◌+◌, ◌<◌, get_or, length}
use Rattle.std.proofs.Common.{sym, ap, ◌∙◌, subst, arith, ext_get_or}
use Rattle.std.specs.Int.Bits.{bit_and}
use Rattle.std.specs.Array.{IsFromFnResultFrom}
use denote.Param.Members.{Mut, Called}
use Rattle.layers.specs.Masked.{masked}
use Rattle.layers.specs.Masking.{get_or_masked}

-- what `array::from_fn` made by a closure that stays as it is
module _ {F : Type 0} (g : Mut F (ℕ × Unit {0}) ℕ) (f : F) (h : ℕ → ℕ) (calls : (i y : ℕ) (q : F) → Called g f (i, tt) y q → (y ≡ h i) × (q ≡ f)) (ys : List ℕ) where
  pub made_by : (n i : ℕ) (p : F) → p ≡ f → IsFromFnResultFrom g p ys i n → (k j : ℕ) → k < n → i + k ≡ j → get_or ys j 0 ≡ h j
  made_by zero i p e made k j l s = absurd (omega arith)
  made_by (suc n) i p e (q, y, element, called, rest) zero j l s =
      let one = calls i y q (subst (λ r. Called g r (i, tt) y q) e called) in
      let at : i ≡ j = omega arith in
      subst (λ m. get_or ys m 0 ≡ h m) at (element.1 0 ∙ one.0)
  made_by (suc n) i p e (q, y, element, called, rest) (suc k) j l s =
      let one = calls i y q (subst (λ r. Called g r (i, tt) y q) e called) in
      made_by n (i + 1) q one.1 rest k j (omega arith) (omega arith)

pub length_masked : (os ms : List ℕ) → length os ≡ length ms → length (masked os ms) ≡ length os
length_masked [] ms e = refl
length_masked (o ∷ os) [] e = omega arith
length_masked (o ∷ os) (m ∷ ms) e = ap suc (length_masked os ms (omega arith))

-- a list of that length that has each such octet
pub masked_all : (n : ℕ) (xs os ms : List ℕ) → length xs ≡ n → length os ≡ n → length ms ≡ n
    → ((i : ℕ) → i < n → get_or xs i 0 ≡ bit_and (get_or os i 0) (get_or ms i 0)) → xs ≡ masked os ms
masked_all n xs os ms e p q each =
    ext_get_or 0 xs (masked os ms) (omega (arith, length_masked os ms (p ∙ sym q)))
    (λ i h. each i (omega arith) ∙ sym (get_or_masked os ms i))
