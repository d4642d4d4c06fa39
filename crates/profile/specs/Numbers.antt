-- The ranges of a profile's three numbers, which are those of a sealed plan. Assumes nothing.
use Rattle.std.specs.Prelude.{ℕ, ◌≤◌}

-- The count of user octets, and the lowest and the highest watchdog time.
-- Where the lowest time is above the highest, no time is allowed.
pub record Ranges (octets lowest highest : ℕ) : Type 0 where
  pub octets_high : octets ≤ 16
  pub lowest_low : 1 ≤ lowest
  pub lowest_high : lowest ≤ 65535
  pub highest_low : 1 ≤ highest
  pub highest_high : highest ≤ 65535
