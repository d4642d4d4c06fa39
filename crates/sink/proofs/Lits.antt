-- Lemmas on the bits that a sink shows, for the proof of its law and for code over any sink.
use Rattle.std.proofs.Common.{◌≡◌, ℕ, zero, suc, Bool, true, false, cond, List, ◌∷◌, get_or, replicate, refl, subst, arith}
use Rattle.std.proofs.lemmas.Nat.Bits.{bit_at-zero, bit_at_and, bit_at-lt}
use Rattle.std.specs.Prelude.{bit_and}
use Rattle.sink.specs.Octets.{zeros, Bit, Lit, Within}
use Rattle.sink.specs.Lawful.{Lawful}
use Rattle.sink.specs.declared.Sink.{Ghosts}

pub get_or_zeros : (n i : ℕ) → ◌≡◌ {A = ℕ} (get_or (replicate n 0) i 0) 0
get_or_zeros zero i = refl
get_or_zeros (suc n) zero = refl
get_or_zeros (suc n) (suc i) = get_or_zeros n i

-- equal numbers have the same bits
pub same_bit : {a b : ℕ} → a ≡ b → (k : ℕ) → Bit a k → Bit b k
same_bit e k = subst (λ (x : ℕ). Bit x k) e

-- no bit of zero is set
pub no_bit : (k : ℕ) → Bit 0 k → ⊥
no_bit k h = omega (arith, bit_at-zero k)

pub none_lit : (i k : ℕ) → Lit zeros i k → ⊥
none_lit i k h = no_bit k (same_bit (get_or_zeros 32 i) k h)

-- a bit of the conjunction is a bit of each part
pub lit_and_right : (a b k : ℕ) → Bit (bit_and a b) k → Bit b k
lit_and_right a b k h = omega (arith, bit_at_and a b k, bit_at-lt b k)

pub lit_and_left : (a b k : ℕ) → Bit (bit_and a b) k → Bit a k
lit_and_left a b k h = omega (arith, bit_at_and a b k, bit_at-lt a k)

-- octet 0 alone is shown, and its bits are set in the released octet 0
pub first_within : (x : ℕ) (o : List ℕ) → ((k : ℕ) → Bit x k → Lit o 0 k) → Within (x ∷ replicate 31 0) o
first_within x o bits zero k h = bits k h
first_within x o bits (suc i) k h = absurd (no_bit k (same_bit (get_or_zeros 31 i) k h))

-- what a sink shows after a release is within the released octets
pub shown_within : {S : Type 0} (m : Ghosts S) → Lawful m → (s : S) (o : List ℕ) → Within (m.shown (m.released s o)) o
shown_within m law s o i k h =
    by_up (m.up s) (subst (λ (x : List ℕ). Lit x i k) (law.effects.shown_released s o) h)
  where
    by_up : (u : Bool) → Lit (cond u (m.would s o) zeros) i k → Lit o i k
    by_up true l = law.within s o i k l
    by_up false l = absurd (none_lit i k l)
