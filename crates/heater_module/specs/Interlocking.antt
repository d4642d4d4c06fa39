-- Lemma of the law of the heater stage: with the interlock and without it, no bit is added. Assumes nothing.
use Rattle.std.specs.Prelude.{Bool, true, false, cond, ℕ}
use Rattle.std.specs.Int.Bits.{bit_and}
use Rattle.sink.specs.Octets.{Bit}
use Rattle.sink.proofs.Lits.{no_bit, lit_and_left}

-- with the interlock and without it
pub within_octet : (b : Bool) (n k : ℕ) → Bit (cond b (bit_and n 131) 0) k → Bit n k
within_octet true n k h = lit_and_left n 131 k h
within_octet false n k h = absurd (no_bit k h)
