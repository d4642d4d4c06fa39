-- A quotient rounded up, as std states it and as the specs do. Assumes nothing.
use Rattle.std.proofs.Common.{◌≡◌, ℕ, ◌+◌, ◌-◌, ◌/◌, ◌%◌, ◌<◌, ◌≤◌, min, arith}
use Rattle.std.proofs.lemmas.Nat.{div_below, le-div}
use Rattle.std.proofs.lemmas.Grind.{div_ceil_times}

pub rounded_up : (n d : ℕ) → 0 < d → n / d + min 1 (n % d) ≡ (n + d - 1) / d
rounded_up n d h =
    let c = n / d + min 1 (n % d) in
    let times = div_ceil_times n d h in
    let low : c ≤ (n + d - 1) / d = le-div c (n + d - 1) d h (omega arith) in
    let high : (n + d - 1) / d < c + 1 = div_below (n + d - 1) d (c + 1) h (grind arith) in
    omega arith
