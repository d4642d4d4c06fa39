-- What frames come to where nothing of a block is pending and no watchdog runs. Assumes nothing.
use Rattle.std.specs.Prelude.{◌≡◌, ℕ, List}
use Rattle.shared_end.specs.Link.{with_numbers}
use Rattle.shared_end.specs.Outcomes.{Outcome, taken, fault}
use Rattle.shared_end.specs.declared.link.Link.{Link}
use Rattle.inlet.specs.declared.Inlet.{Inlet}
use Rattle.inlet.specs.Steps.{first_connection}

abbrev pub with_stored : (stored : ℕ) → Inlet → Inlet
with_stored n x = record { address = x.address; id = x.id; block = x.block; stored = n }

abbrev pub with_left : (left : ℕ) → Link → Link
with_left t l = with_numbers l l.numbers l.command t

-- the first Connection frame comes to the same, however many octets were stored before
abbrev pub StartsAnew : Link → Inlet → List ℕ → List ℕ → Type 0
StartsAnew l x octets piece = (n : ℕ) → first_connection l (with_stored n x) octets piece ≡ first_connection l x octets piece

-- the outcome with this inlet kept
abbrev pub keeping : Inlet → Outcome Inlet → Outcome Inlet
keeping x (taken s act m l y) = taken s act m l x
keeping x (fault f) = fault f

-- however many octets are stored, a frame comes to the same but for the inlet, which is kept
abbrev pub KeepsStored : (Inlet → Outcome Inlet) → Inlet → Type 0
KeepsStored comes x = (n : ℕ) → comes (with_stored n x) ≡ keeping (with_stored n x) (comes x)

-- however many ticks are left, a frame comes to the same
abbrev pub PassesTicks : (Link → Outcome Inlet) → Link → Type 0
PassesTicks comes l = (t : ℕ) → comes (with_left t l) ≡ comes l
