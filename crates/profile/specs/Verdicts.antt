-- The fault and the number of each verdict, and the verdict by a device code. Assumes nothing.
use Rattle.std.specs.Prelude.{◌≡◌, ℕ, ◌≤◌, ◌⊎◌, Some, None, Option}
use Rattle.faults.specs.DeviceCodes.{code}
use Rattle.faults.specs.declared.device_code.DeviceCode.{DeviceCode}
use Rattle.faults.specs.Faults as faults
use Rattle.faults.specs.declared.fault.Fault.{Fault}
use Rattle.faults.specs.declared.fault.Fault.TheVariants as f
use Rattle.profile.specs.declared.verdict.Verdict.{Verdict}
use Rattle.profile.specs.declared.verdict.Verdict.TheVariants.{Accepted, Invalid, Device}

-- the fault that a verdict is
abbrev pub fault : Verdict → Option Fault
fault Accepted = None
fault Invalid = Some f.InvalidUserParameters
fault (Device c) = Some (f.Device c)

-- the number of that fault, or 0
abbrev pub number : Verdict → ℕ
number Accepted = 0
number Invalid = faults.number f.InvalidUserParameters
number (Device c) = faults.number (f.Device c)

-- 0, 11, or 128 to 255
abbrev pub Listed : ℕ → Type 0
Listed n = (n ≡ 0) ⊎ (n ≡ 11) ⊎ ((128 ≤ n) × (n ≤ 255))

abbrev pub device_or : Option DeviceCode → Verdict
device_or (Some c) = Device c
device_or None = Invalid

-- by the device code of that number; invalid where there is none
abbrev pub device : ℕ → Verdict
device n = device_or (code n)
