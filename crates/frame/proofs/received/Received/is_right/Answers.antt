-- The closure tells of each part whether it is right.
use Rattle.std.proofs.Common.{refl, sym, ◌∙◌, arith, rules, tests}
use Rattle.std.proofs.lemmas.Iterator.{YieldsList-from_range}
use Rattle.std.proofs.lemmas.Iterator.Search.{all_from_yields_List}
use Rattle.frame.specs.Reading.{part_right}
use Rattle.frame.proofs.Checking.{all_right}
use Rattle.frame.proofs.received.Received.is_right.Goals as goal

pub returns : goal.returns
returns c =
    all_right _ c.args.shared.register.bits c.parts.result _ c.body-body.result.now c.all.result
    (all_from_yields_List (part_right c.args.shared.register.bits c.body-body.result.now) _ _ c.all.result c.all.ensures.ran (YieldsList-from_range 0 c.parts.result c.parts.result refl (omega arith)) (λ x b q k. search (rules, tests)))
    (sym c.whole.ensures ∙ c.if-not-whole.false) c.body-body.ensures c.parts.ensures.value
