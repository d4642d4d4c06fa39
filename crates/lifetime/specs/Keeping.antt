-- What each part of a life leaves. Assumes nothing.
use Rattle.std.specs.Prelude.{◌≡◌}
use Rattle.lifetime.specs.declared.ends.Ends.{Ends}

-- the same master is held, with the plan that it had
pub record KeepsPlan (a b : Ends) : Type 0 where
  pub same_reference : b.master.ghost_name ≡ a.master.ghost_name
  pub plan_is : b.master.now.plan ≡ a.master.now.plan
