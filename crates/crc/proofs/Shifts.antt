-- The shift is one to one on 16 bits, and carries a low part along. Assumes nothing.
use Rattle.std.proofs.Common.{◌≡◌, ℕ, zero, suc, ◌*◌, ◌/◌, ◌%◌, ◌^◌, ◌<◌, ◌≤◌, ◌⊎◌, bit_xor, sym, ap, ◌∙◌, inl, inr, mul_assoc, pow-suc, mul-one, add-zero, arith}
use Rattle.std.specs.Int.Bits.{xor_assoc, xor_self, xor_zero_r}
use Rattle.std.proofs.lemmas.Nat.{xor_comm, xor_lt, xor_mod, xor_shr, xor_block}
use Rattle.std.proofs.lemmas.Bool.{cases_lt}
use Rattle.std.proofs.lemmas.Bool.Decides.{nat_tests}
use Rattle.crc.specs.Register.{shift, shifts}

-- what is XORed on both sides cancels
xor_twice : (a c : ℕ) → bit_xor (bit_xor a c) c ≡ a
xor_twice a c = simp (xor_assoc, xor_self, xor_zero_r)

pub xor_cancel : (a b c : ℕ) → bit_xor a c ≡ bit_xor b c → a ≡ b
xor_cancel a b c e = cc (xor_twice a c, xor_twice b c)

xor_swap : (a b c : ℕ) → bit_xor (bit_xor a b) c ≡ bit_xor (bit_xor a c) b
xor_swap a b c = cc (xor_assoc a b c, xor_comm b c, xor_assoc a c b)

-- a number below half the register's range loses no one
shift_low : (r : ℕ) → r < 0x8000 → shift r ≡ r * 2
unfolding shift
shift_low r h = grind (arith, nat_tests)

shift_high : (r : ℕ) → 0x8000 ≤ r → shift r ≡ bit_xor (r * 2 % 65536) 0x39B7
unfolding shift
shift_high r h = grind (arith, nat_tests)

-- the lowest bit tells whether a one fell out
odd_high : (r : ℕ) → 0x8000 ≤ r → shift r % 2 ≡ 1
odd_high r h =
    let even : r * 2 % 65536 % 2 ≡ 0 = omega arith in
    cc (shift_high r h, xor_mod (r * 2 % 65536) 0x39B7 1)

even_low : (r : ℕ) → r < 0x8000 → shift r % 2 ≡ 0
even_low r h = omega (arith, shift_low r h)

pub shift_lt : (r : ℕ) → r < 65536 → shift r < 65536
unfolding shift
shift_lt r h = grind (arith, nat_tests, xor_lt 16 (r * 2 % 65536) 0x39B7 (omega arith) (omega arith))

pub shift_one : (x y : ℕ) → x < 65536 → y < 65536 → shift x ≡ shift y → x ≡ y
shift_one x y hx hy e = go (cases_lt x 0x8000) (cases_lt y 0x8000)
  where
    go : (x < 0x8000) ⊎ (0x8000 ≤ x) → (y < 0x8000) ⊎ (0x8000 ≤ y) → x ≡ y
    go (inl lx) (inl ly) = omega (arith, shift_low x lx, shift_low y ly)
    go (inl lx) (inr gy) = omega (arith, even_low x lx, odd_high y gy)
    go (inr gx) (inl ly) = omega (arith, odd_high x gx, even_low y ly)
    go (inr gx) (inr gy) =
        let p : x * 2 % 65536 ≡ y * 2 % 65536 = xor_cancel _ _ 0x39B7 (sym (shift_high x gx) ∙ e ∙ shift_high y gy) in
        omega arith

-- a part that loses no one is shifted beside the rest
twice_xor : (x y : ℕ) → bit_xor x y * 2 ≡ bit_xor (x * 2) (y * 2)
twice_xor x y = sym (simp add-zero at (xor_block 1 x y 0 0 (omega arith) (omega arith)))

pub shift_beside : (x y : ℕ) → x < 65536 → y < 0x8000 → shift (bit_xor x y) ≡ bit_xor (shift x) (y * 2)
shift_beside x y hx hy = go (cases_lt x 0x8000)
  where
    top : bit_xor x y / 0x8000 ≡ x / 0x8000
    top =
        let none : y / 0x8000 ≡ 0 = omega arith in
        cc (xor_shr x y 15, xor_zero_r (x / 0x8000))

    doubled : bit_xor x y * 2 % 65536 ≡ bit_xor (x * 2 % 65536) (y * 2)
    doubled =
        let whole : y * 2 % 65536 ≡ y * 2 = omega arith in
        cc (twice_xor x y, xor_mod (x * 2) (y * 2) 16)

    go : (x < 0x8000) ⊎ (0x8000 ≤ x) → shift (bit_xor x y) ≡ bit_xor (shift x) (y * 2)
    go (inl low) = cc (shift_low (bit_xor x y) (omega (arith, top)), twice_xor x y, shift_low x low)
    go (inr high) =
        cc (shift_high (bit_xor x y) (omega (arith, top, xor_lt 16 x y hx (omega arith))), doubled, xor_swap (x * 2 % 65536) (y * 2) 0x39B7, shift_high x high)

pub shifts_lt : (k r : ℕ) → r < 65536 → shifts k r < 65536
shifts_lt zero r h = h
shifts_lt (suc k) r h = shift_lt (shifts k r) (shifts_lt k r h)

pub shifts_one : (k x y : ℕ) → x < 65536 → y < 65536 → shifts k x ≡ shifts k y → x ≡ y
shifts_one zero x y hx hy e = e
shifts_one (suc k) x y hx hy e =
    shifts_one k x y hx hy (shift_one _ _ (shifts_lt k x hx) (shifts_lt k y hy) e)

pub shifts_beside : (k x y : ℕ) → x < 65536 → y * 2 ^ k < 65536 → shifts k (bit_xor x y) ≡ bit_xor (shifts k x) (y * 2 ^ k)
shifts_beside zero x y hx hy = ap (bit_xor x) (sym (mul-one y))
shifts_beside (suc k) x y hx hy =
    let twice : y * 2 ^ suc k ≡ y * 2 ^ k * 2 = ap (λ n. y * n) (pow-suc 2 k) ∙ sym (mul_assoc y (2 ^ k) 2) in
    cc (shifts_beside k x y hx (omega arith), shift_beside (shifts k x) (y * 2 ^ k) (shifts_lt k x hx) (omega arith))
