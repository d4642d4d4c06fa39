-- When a master and a slave fit. Assumes nothing.
use Rattle.std.specs.Prelude.{◌≡◌, ◌≤◌, take}
use Rattle.profile.specs.declared.profile.Profile.{Ghosts}
use Rattle.profile.specs.declared.verdict.Verdict.TheVariants.{Accepted}
use Rattle.shared_end.specs.Endpoints.{width}
use Rattle.master_end.specs.declared.master.Master.{Master}
use Rattle.slave_end.specs.declared.slave.Slave.{Slave}

-- the data length, the address and the count of user octets agree, and the slave's profile allows the plan's watchdog time
-- and the user octets that count
module _ {S T P : Type 0} (p : Ghosts P) where
  pub record Fits (e : Master S) (f : Slave T P) : Type 0 where
    pub length_agrees : width f.endpoint ≡ width e.endpoint
    pub address_agrees : f.inlet.address ≡ e.plan.draft.address
    pub count_agrees : p.USER_OCTETS ≡ e.plan.draft.user_octets
    pub watchdog_low : p.LOWEST_WATCHDOG ≤ e.plan.draft.watchdog
    pub watchdog_high : e.plan.draft.watchdog ≤ p.HIGHEST_WATCHDOG
    pub user_accepted : p.judged (take e.plan.draft.user_octets e.outlet.user.octets) ≡ Accepted
