-- Bringing the connection back leaves the plan.
use Rattle.std.proofs.Common.{refl}
use Rattle.connection.proofs.Keeping.{keeps_plan}
use Rattle.lifetime.proofs.ends.Ends.recover.Goals as goal

pub returns-in_err-println-2 : goal.returns-in_err-println-2
returns-in_err-println-2 c = record { same_reference = refl; plan_is = search (keeps_plan, c.bring_back.ensures) }

pub returns : goal.returns
returns c = record { same_reference = refl; plan_is = search (keeps_plan, c.bring_back.ensures) }
