-- Which step a master makes, by its state and the kind of the frame. Assumes nothing.
use Rattle.std.specs.Prelude.{ℕ, List}
use Rattle.frame.specs.Commands.{command}
use Rattle.frame.specs.Reading.{command_octet, body, padded}
use Rattle.shared_end.specs.Outcomes.{Outcome}
use Rattle.shared_end.specs.Endpoints.{with_link}
use Rattle.shared_end.specs.declared.link.Link.{Link}
use Rattle.outlet.specs.declared.Outlet.{Outlet}
use Rattle.outlet.specs.Outcomes.{outcome}
use Rattle.master_end.specs.declared.master.Master.{Master}

module _ {S : Type 0} (m : Master S) where
  abbrev pub with_own : Link → Outlet → Master S
  with_own l o = record { endpoint = with_link m.endpoint l; outlet = o; plan = m.plan }

  -- the step that the octets ask for
  abbrev pub asked : List ℕ → (session : ℕ) → Outcome Outlet
  asked octets x =
      outcome m.endpoint.link m.outlet m.plan octets (padded (body m.endpoint.link.size.octets octets))
      m.endpoint.state x (command (command_octet octets))
