-- What the heater stage shows, and the stage that each call leaves. Assumes nothing.
use Rattle.std.specs.Prelude.{Bool, true, cond, List, ◌∷◌, ℕ, nat_le, slice_index, replicate}
use Rattle.std.specs.Int.Bits.{bit_and}
use Rattle.heater_module.specs.declared.heater_stage.HeaterStage.{HeaterStage}

-- bits 0, 1 and 7 of octet 0 where the last is set, else none
abbrev pub interlocked : ℕ → ℕ
interlocked n = cond (nat_le 128 n) (bit_and n 131) 0

abbrev pub octets_of : ℕ → List ℕ
octets_of contacts = contacts ∷ replicate 31 0

abbrev pub stage : ℕ → Bool → HeaterStage
stage contacts up = record { contacts = contacts; up = up }

abbrev pub new_stage : HeaterStage
new_stage = stage 0 true

abbrev pub stage_released : HeaterStage → List ℕ → HeaterStage
stage_released s o = stage (cond s.up (interlocked (slice_index o 0)) 0) s.up

abbrev pub stage_cleared : HeaterStage → HeaterStage
stage_cleared s = stage 0 s.up

abbrev pub stage_told : HeaterStage → Bool → HeaterStage
stage_told s working = stage (cond working s.contacts 0) working
