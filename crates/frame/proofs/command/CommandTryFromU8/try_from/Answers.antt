-- The command that is found is the one that the definition names.
use Rattle.std.proofs.Common.{◌≡◌, ℕ, ◌==◌, [], ◌∷◌, Some, None, Option, option_map, ok_or, sym, refl, rules, tests}
use Rattle.std.proofs.lemmas.Iterator.{YieldsList-from_slice}
use Rattle.std.proofs.lemmas.Iterator.Consumers.{YieldsList-from_copied}
use Rattle.std.proofs.lemmas.Iterator.Search.{find_from_yields_List}
use Rattle.frame.specs.Commands.{octet, command, Decodes}
use Rattle.frame.specs.declared.command.Command.{Command}
use Rattle.frame.specs.declared.command.Command.TheVariants.{Reset, Session, Connection, Parameter, ProcessData, FailSafeData}
use Rattle.frame.proofs.command.CommandTryFromU8.try_from.Goals as goal

decodes : (n : ℕ) (found : Option Command) → option_map (λ k. k) found ≡ command n → Decodes n (ok_or found (record { 0 = n }))
decodes n None e = (sym e, refl)
decodes n (Some k) e = sym e

pub returns : goal.returns
returns c =
    let all = Reset ∷ Session ∷ Connection ∷ Parameter ∷ ProcessData ∷ FailSafeData ∷ [] in
    rw c.ok_or.ensures.value
    (decodes c.args.octet c.find.result
    (find_from_yields_List (λ k. c.args.octet == octet k) _ _ c.find.result c.find.ensures.ran (YieldsList-from_copied (YieldsList-from_slice all cc)) (λ x b q k. search (rules, tests))))
