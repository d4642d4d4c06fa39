use Rattle.std.proofs.Common.{◌++◌, length, ap, ◌∙◌}
use Rattle.std.proofs.lemmas.List.{drop-replicate}
use Rattle.frame.proofs.outgoing.with_zeros.Goals as goal

pub returns : goal.returns
returns c = let octets = c.args.octets.now in c.copy_to_front.ensures ∙ ap (λ back. octets ++ back) (drop-replicate (length octets) 32 0)
