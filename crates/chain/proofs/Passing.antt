-- The number after one gives another CRC_0. Assumes nothing.
use Rattle.std.proofs.Common.{◌≢◌, ℕ, ◌<◌, arith}
use Rattle.std.proofs.lemmas.Bool.Decides.{nat_tests}
use Rattle.crc.specs.Crc.{crc}
use Rattle.crc.proofs.OneToOne.{only_number}
use Rattle.chain.specs.Numbers.{next}

next_lt : (n : ℕ) → n < 65536 → next n < 65536
next_lt n h = grind (arith, nat_tests)

next_other : (n : ℕ) → next n ≢ n
next_other n h = grind (arith, nat_tests)

pub next_apart : (last id number command first second : ℕ) → last < 65536 → id < 65536 → number < 65536 → command < 256 → first < 256 → second < 256 → crc 0 last id (next number) command first second ≢ crc 0 last id number command first second
next_apart last id number command first second hl hi hn hc ha hb e =
    next_other number
    (only_number 0 last id number command first second (omega arith) hl hi hn hc ha hb (next number) (next_lt number hn) e)
