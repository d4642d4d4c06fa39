-- No frame changes the data length of an end. Assumes nothing.
use Rattle.std.proofs.Common.{◌≡◌, ℕ, List, Option, refl}
use Rattle.faults.specs.declared.state.State.{State}
use Rattle.frame.specs.declared.command.Command.{Command}
use Rattle.plan.specs.declared.sealed_plan.SealedPlan.{SealedPlan}
use Rattle.sink.specs.declared.Sink as sink
use Rattle.profile.specs.declared.profile.Profile as profile
use Rattle.shared_end.specs.declared.endpoint.Endpoint.{Endpoint}
use Rattle.shared_end.specs.declared.link.Link.{Link}
use Rattle.shared_end.specs.Outcomes.{Outcome, taken, fault}
use Rattle.shared_end.specs.Endpoints.{width, concluded}
use Rattle.outlet.specs.declared.Outlet.{Outlet}
use Rattle.outlet.specs.Outcomes as outlet
use Rattle.outlet.proofs.Moves as outlets
use Rattle.inlet.specs.declared.Inlet.{Inlet}
use Rattle.inlet.specs.Outcomes as inlet
use Rattle.inlet.proofs.Moves as inlets

-- the link after an outcome is for frames of d data octets
abbrev pub Sized : {X : Type 0} → ℕ → Outcome X → Type 0
Sized d (taken st act msg l x) = l.size.octets ≡ d
Sized d (fault f) = Unit {0}

pub sized_after : {S X : Type 0} (m : sink.Ghosts S) (e : Endpoint S) (o : Outcome X) → Sized (width e) o → width (concluded m e o) ≡ width e
sized_after m e (taken st act msg l x) h = h
sized_after m e (fault f) h = refl

-- at a slave
slave_moved : {P : Type 0} (p : profile.Ghosts P) (l : Link) (x : Inlet) (octets piece : List ℕ) {st : State} {k : Option Command} {o : Outcome Inlet} →
    inlets.Move p l x octets piece st k o → Sized l.size.octets o
slave_moved p l x octets piece (inlets.broken f) = tt
slave_moved p l x octets piece (inlets.reset msg ns os cm w t) = refl
slave_moved p l x octets piece (inlets.session msg ns os cm w t) = refl
slave_moved p l x octets piece (inlets.first_connection msg ns os cm w t id) = refl
slave_moved p l x octets piece (inlets.next_connection msg ns os cm w t id more) = refl
slave_moved p l x octets piece (inlets.first_parameter msg ns os cm w t id done) = refl
slave_moved p l x octets piece (inlets.next_parameter msg ns os cm w t id more) = refl
slave_moved p l x octets piece (inlets.first_data msg ns os cm tells done lowest) = refl
slave_moved p l x octets piece (inlets.next_data msg ns os cm tells) = refl

pub slave_sized : {P : Type 0} (p : profile.Ghosts P) (l : Link) (x : Inlet) (octets piece : List ℕ) (st : State) (n : ℕ) (k : Option Command) →
    Sized l.size.octets (inlet.outcome p l x octets piece st n k)
slave_sized p l x octets piece st n k = slave_moved p l x octets piece (inlets.move p l x octets piece st n k)

-- at a master
master_moved : (l : Link) (x : Outlet) (p : SealedPlan) (octets piece : List ℕ) {st : State} {k : Option Command} {o : Outcome Outlet} →
    outlets.Move l x p octets piece st k o → Sized l.size.octets o
master_moved l x p octets piece (outlets.broken f) = tt
master_moved l x p octets piece (outlets.reset msg ns os cm) = refl
master_moved l x p octets piece (outlets.session msg ns os cm) = refl
master_moved l x p octets piece (outlets.next_connection msg ns os cm more) = refl
master_moved l x p octets piece (outlets.first_parameter msg ns os cm done) = refl
master_moved l x p octets piece (outlets.next_parameter msg ns os cm more) = refl
master_moved l x p octets piece (outlets.first_data msg ns os cm done) = refl
master_moved l x p octets piece (outlets.next_data msg ns os cm tells) = refl

pub master_sized : (l : Link) (x : Outlet) (p : SealedPlan) (octets piece : List ℕ) (st : State) (n : ℕ) (k : Option Command) →
    Sized l.size.octets (outlet.outcome l x p octets piece st n k)
master_sized l x p octets piece st n k = master_moved l x p octets piece (outlets.move l x p octets piece st n k)
