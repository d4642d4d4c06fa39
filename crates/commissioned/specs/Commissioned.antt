-- The master that is commissioned. Assumes nothing.
use Rattle.std.specs.Prelude.{◌≡◌, ◌∷◌, replicate}
use Rattle.faults.specs.declared.state.State.TheVariants.{Reset}
use Rattle.sinks.specs.declared.bank.Whole.{Whole}
use Rattle.sinks.specs.declared.stage.Stage.{Stage}
use Rattle.sinks.specs.Banks.{new_bank}
use Rattle.shared_end.specs.Link.{new_link}
use Rattle.master_end.specs.declared.master.Master.{Master}
use Rattle.commissioning.specs.Planned.{Planned}

-- not used yet, with a bank that is up and dark for the inputs; the first user octets are the number 500
pub record Unused (e : Master (Stage Whole)) : Type 0 where
  pub user_is : e.outlet.user.octets ≡ 244 ∷ 1 ∷ replicate 14 0
  pub at_is : e.outlet.at ≡ 0
  pub state_is : e.endpoint.state ≡ Reset
  pub link_is : e.endpoint.link ≡ new_link e.plan.draft.length e.plan.draft.watchdog
  pub sink_is : e.endpoint.sink ≡ new_bank

-- the master of the plan that was drafted
pub record Commissioned (e : Master (Stage Whole)) : Type 0 where
  pub planned : Planned e.plan
  pub unused : Unused e
