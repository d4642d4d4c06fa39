-- The code that is built is that of the definition: a range has only one proof.
use Rattle.std.proofs.Common.{◌≡◌, ℕ, Bool, true, false, nat_le, Some, refl, ap}
use Rattle.std.proofs.Math.Bool.{Bool-set}
use Rattle.faults.specs.DeviceCodes.{code_by}
use Rattle.faults.proofs.device_code.DeviceCode.new.Goals as goal

built : (n : ℕ) (b : Bool) (e : nat_le 128 n ≡ b) (own : nat_le 128 n ≡ true) → Some (record { number = n; own = own }) ≡ code_by n b e
built n true e own = ap (λ p. Some (record { number = n; own = p })) (Bool-set (nat_le 128 n) true own e)
built n false e own = cc

pub returns-then-number-ge-FIRST : goal.returns-then-number-ge-FIRST
returns-then-number-ge-FIRST c = let n = c.args.number in built n (nat_le 128 n) refl _
