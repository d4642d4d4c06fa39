-- Lemmas of the law of the drive: what it shows is octet 0 ANDed with 15. Assumes nothing.
use Rattle.std.specs.Prelude.{◌≡◌, ℕ, ◌/◌, ◌%◌, ◌==◌, bit_and}
use Rattle.std.proofs.Common.{sym, ◌∙◌, arith, rules}
use Rattle.std.proofs.lemmas.Nat.{mod-pow-add, and_mask}
use Rattle.sinks.specs.Drives.{bit, octet_of, switches_of}

-- a binary digit, as a switch and as a number again
pub bit_back : (n : ℕ) → bit (n % 2 == 1) ≡ n % 2
bit_back n = search rules

pub low_bits : (n : ℕ) → octet_of (switches_of n) ≡ n % 16
low_bits n =
    omega
    (arith, bit_back n, bit_back (n / 2), bit_back (n / 4), bit_back (n / 8), mod-pow-add n 1 1, mod-pow-add n 1 2, mod-pow-add n 1 3)

pub masked : (n : ℕ) → octet_of (switches_of n) ≡ bit_and n 15
masked n = low_bits n ∙ sym (and_mask n 4)
