-- A new output stage, and the stage that each call leaves. Assumes nothing.
use Rattle.std.specs.Prelude.{ℕ, Bool, true, cond, List}
use Rattle.sink.specs.Octets.{zeros}
use Rattle.sinks.specs.declared.outputs.Outputs.{Ghosts}
use Rattle.sinks.specs.declared.stage.Stage.{Stage}

module _ {O : Type 0} (m : Ghosts O) where
  -- a stage whose outputs are set by these octets
  abbrev pub stage : List ℕ → Bool → Stage O
  stage octets up = record { outputs = m.set_by octets; up = up }

  abbrev pub new_stage : Stage O
  new_stage = stage zeros true

  -- the octets set the outputs, or zeros where the stage is down
  abbrev pub stage_released : Stage O → List ℕ → Stage O
  stage_released s o = stage (cond s.up o zeros) s.up

  abbrev pub stage_cleared : Stage O → Stage O
  stage_cleared s = stage zeros s.up

  -- told up, the outputs stay
  abbrev pub stage_told : Stage O → Bool → Stage O
  stage_told s working = record { outputs = cond working s.outputs (m.set_by zeros); up = working }
