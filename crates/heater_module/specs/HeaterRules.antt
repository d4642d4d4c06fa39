-- The heater profile's verdict. Assumes nothing.
use Rattle.std.specs.Prelude.{cond, ◌||◌, List, ℕ, ◌+◌, ◌*◌, ◌==◌, nat_lt, length, slice_index}
use Rattle.profile.specs.Verdicts.{device}
use Rattle.profile.specs.declared.verdict.Verdict.{Verdict}
use Rattle.profile.specs.declared.verdict.Verdict.TheVariants.{Accepted, Invalid}

-- the target is from 30 to 350 degrees, and then the step from 1 to 4
abbrev pub settings : ℕ → ℕ → Verdict
settings target step =
    cond (nat_lt target 30 || nat_lt 350 target) (device 130) (cond (nat_lt step 1 || nat_lt 4 step) (device 131) Accepted)

abbrev pub heater_verdict : List ℕ → Verdict
heater_verdict octets =
    cond (length octets == 3) (settings (slice_index octets 0 + 256 * slice_index octets 1) (slice_index octets 2)) Invalid
