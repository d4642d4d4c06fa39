-- Which step a slave makes, by its state and the kind of the frame. Assumes nothing.
use Rattle.std.specs.Prelude.{ℕ, List, Result}
use Rattle.faults.specs.declared.fault.Fault.{Fault}
use Rattle.frame.specs.Commands.{command}
use Rattle.frame.specs.Reading.{command_octet, body, padded}
use Rattle.profile.specs.declared.profile.Profile.{Ghosts}
use Rattle.shared_end.specs.Outcomes.{Outcome, Comes}
use Rattle.shared_end.specs.Endpoints.{width, with_link}
use Rattle.shared_end.specs.declared.link.Link.{Link}
use Rattle.shared_end.specs.declared.step.Step.{Step}
use Rattle.inlet.specs.declared.Inlet.{Inlet}
use Rattle.inlet.specs.Outcomes.{outcome}
use Rattle.slave_end.specs.declared.slave.Slave.{Slave}

module _ {S P : Type 0} where
  abbrev pub with_inlet : Slave S P → Link → Inlet → Slave S P
  with_inlet e l x = record { endpoint = with_link e.endpoint l; inlet = x; profile = e.profile }

  -- what the octets come to
  module _ (m : Ghosts P) where
    abbrev pub asked : Slave S P → List ℕ → (session : ℕ) → Outcome Inlet
    asked e octets n =
        outcome m e.endpoint.link e.inlet octets (padded (body (width e.endpoint) octets)) e.endpoint.state n
        (command (command_octet octets))

    abbrev pub Steps : Slave S P → List ℕ → (session : ℕ) → Result Step Fault → Slave S P → Type 0
    Steps e octets n r e' = Comes (asked e octets n) e.endpoint.link e.inlet r e'.endpoint.link e'.inlet
