-- A new mask layer, and the layer that each call leaves. Assumes nothing.
use Rattle.std.specs.Prelude.{Bool, List, ℕ}
use Rattle.sink.specs.declared.Sink.{Ghosts}
use Rattle.layers.specs.Masked.{masked}
use Rattle.layers.specs.declared.mask.Mask.{Mask}

abbrev pub mask_over : {S : Type 0} → List ℕ → S → Mask S
mask_over octets below = record { mask = record { octets = octets }; below = below }

-- every call is passed down, and the mask stays
module _ {S : Type 0} (m : Ghosts S) where
  abbrev pub mask_released : Mask S → List ℕ → Mask S
  mask_released s o = mask_over s.mask.octets (m.released s.below (masked o s.mask.octets))

  abbrev pub mask_cleared : Mask S → Mask S
  mask_cleared s = mask_over s.mask.octets (m.cleared s.below)

  abbrev pub mask_told : Mask S → Bool → Mask S
  mask_told s working = mask_over s.mask.octets (m.told s.below working)
