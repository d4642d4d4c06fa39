-- A new hold-off layer, what it passes down, and the layer that each call leaves. Assumes nothing.
use Rattle.std.specs.Prelude.{Bool, cond, List, ℕ, ◌-◌, ◌==◌}
use Rattle.sink.specs.Octets.{zeros}
use Rattle.sink.specs.declared.Sink.{Ghosts}
use Rattle.layers.specs.declared.hold_off.HoldOff.{HoldOff}

abbrev pub hold_off_over : {S : Type 0} → ℕ → S → HoldOff S
hold_off_over k below = record { k = k; count = k; below = below }

-- zeros while the count is above 0
abbrev pub passed : ℕ → List ℕ → List ℕ
passed count o = cond (count == 0) o zeros

module _ {S : Type 0} (m : Ghosts S) where
  -- an accepted release lowers the count by one; a count of 0 stays
  abbrev pub lowered : HoldOff S → ℕ
  lowered s = cond (m.up s.below) (s.count - 1) s.count

  abbrev pub hold_off_released : HoldOff S → List ℕ → HoldOff S
  hold_off_released s o = record { k = s.k; count = lowered s; below = m.released s.below (passed s.count o) }

  abbrev pub hold_off_cleared : HoldOff S → HoldOff S
  hold_off_cleared s = hold_off_over s.k (m.cleared s.below)

  -- a down feedback starts the count anew
  abbrev pub hold_off_told : HoldOff S → Bool → HoldOff S
  hold_off_told s working = record { k = s.k; count = cond working s.count s.k; below = m.told s.below working }
