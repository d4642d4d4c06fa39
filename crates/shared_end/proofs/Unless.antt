-- What holds of each outcome that a check leaves open holds of the outcome. Assumes nothing.
use Rattle.std.proofs.Common.{◌≡◌, Some, None, Option, refl}
use Rattle.faults.specs.declared.fault.Fault.{Fault}
use Rattle.shared_end.specs.Outcomes.{unless, Outcome, fault}

pub unless_both : {X : Type 0} (P : Outcome X → Type 0) (q : Option Fault) (o : Outcome X) → ((f : Fault) → P (fault f)) → (q ≡ None → P o) → P (unless q o)
unless_both P (Some f) o broken h = broken f
unless_both P None o broken h = h refl
