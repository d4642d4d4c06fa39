-- Which numbers are device codes. Assumes nothing.
use Rattle.std.specs.Prelude.{◌≡◌, ℕ, Bool, true, false, Some, None, Option, nat_le, refl}
use Rattle.faults.specs.declared.device_code.DeviceCode.{DeviceCode}

abbrev pub code_by : (n : ℕ) (b : Bool) → nat_le 128 n ≡ b → Option DeviceCode
code_by n true e = Some (record { number = n; own = e })
code_by n false e = None

-- the numbers from 128 on
abbrev pub code : ℕ → Option DeviceCode
code n = code_by n (nat_le 128 n) refl
