-- What a release answers, and what each call does to the octets shown and to up. Assumes nothing.
use Rattle.std.specs.Prelude.{◌≡◌, ℕ, Bool, cond, List, Ok, Err, Result}
use Rattle.codes.specs.declared.refusal.Refusal.{Refusal}
use Rattle.codes.specs.declared.refusal.Refusal.TheVariants.{SinkDown}
use Rattle.sink.specs.Octets.{zeros}

-- accepted where the sink is up
abbrev pub answer : Bool → Result (Unit {0}) Refusal
answer up = cond up (Ok tt) (Err SinkDown)

pub record Effects {S : Type 0} (shown : S → List ℕ) (up : S → Bool) (would : S → List ℕ → List ℕ)
    (released : S → List ℕ → S) (cleared : S → S) (told : S → Bool → S) : Type 0 where
  pub shown_released : (s : S) (o : List ℕ) → shown (released s o) ≡ cond (up s) (would s o) zeros
  pub up_released : (s : S) (o : List ℕ) → up (released s o) ≡ up s
  pub shown_cleared : (s : S) → shown (cleared s) ≡ zeros
  pub up_cleared : (s : S) → up (cleared s) ≡ up s
  pub shown_told : (s : S) (u : Bool) → shown (told s u) ≡ cond u (shown s) zeros
  pub up_told : (s : S) (u : Bool) → up (told s u) ≡ u
