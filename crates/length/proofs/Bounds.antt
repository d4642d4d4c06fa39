-- A lawful length as facts about numbers. Assumes nothing.
use Rattle.std.proofs.Common.{◌≡◌, ℕ, ◌%◌, ◌≤◌, true, arith}
use Rattle.std.proofs.lemmas.Bool.Decides.{nat_tests}
use Rattle.length.specs.Lawful.{lawful}

pub record Bounds (d : ℕ) : Type 0 where
  pub low : 2 ≤ d
  pub high : d ≤ 32
  pub even : d % 2 ≡ 0

pub bounds : (d : ℕ) → lawful d ≡ true → Bounds d
bounds d h = record { low = grind (arith, nat_tests); high = grind (arith, nat_tests); even = grind (arith, nat_tests) }
