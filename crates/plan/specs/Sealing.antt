-- When a draft is sealed, and what is answered. Assumes nothing.
use Rattle.std.specs.Prelude.{◌≡◌, if◌then◌else◌, Some, None, Ok, Err, Option, Result, ◌==◌, nat_lt}
use Rattle.codes.specs.declared.refusal.Refusal.{Refusal}
use Rattle.codes.specs.declared.refusal.Refusal.TheVariants.{ZeroConnectionId, ZeroWatchdog, TooManyUserOctets}
use Rattle.plan.specs.declared.draft.Draft.{Draft}
use Rattle.plan.specs.declared.sealed_plan.SealedPlan.{SealedPlan}
use Rattle.plan.specs.declared.sealed_plan.Unsealed.{Unsealed}

-- the first refusal that a draft meets
abbrev pub refused : Draft → Option Refusal
refused d =
    if d.id == 0 then Some ZeroConnectionId
    else (if d.watchdog == 0 then Some ZeroWatchdog
    else (if nat_lt 16 d.user_octets then Some TooManyUserOctets
    else None))

-- a sealed plan holds the draft's values; a refused draft comes back as it was
abbrev pub Sealed : Draft → Result SealedPlan Unsealed → Type 0
Sealed d (Ok p) = (refused d ≡ None) × (p.draft ≡ d)
Sealed d (Err u) = (refused d ≡ Some u.refusal) × (u.draft ≡ d)
