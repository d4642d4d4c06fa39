-- The plan that is drafted. Assumes nothing.
use Rattle.std.specs.Prelude.{◌≡◌}
use Rattle.plan.specs.declared.draft.Draft.{Draft}
use Rattle.plan.specs.declared.sealed_plan.SealedPlan.{SealedPlan}

-- of connection 4660 to the slave at address 85, with a watchdog time of 100 ms, 4 data octets and 2 user octets
pub record Drafted (d : Draft) : Type 0 where
  pub id_is : d.id ≡ 4660
  pub address_is : d.address ≡ 85
  pub watchdog_is : d.watchdog ≡ 100
  pub length_is : d.length.octets ≡ 4
  pub count_is : d.user_octets ≡ 2

abbrev pub Planned : SealedPlan → Type 0
Planned p = Drafted p.draft
