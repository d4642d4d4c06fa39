use Rattle.std.proofs.Common.{rules, refl, get_or, arith}
use Rattle.std.specs.Int.Bits.{bit_and}
use Rattle.layers.proofs.Masking.{made_by, masked_all}
use Rattle.layers.proofs.mask.MaskOctets.masked.Goals as goal

pub returns : goal.returns
returns c =
    let os = c.args.octets.now in
    let ms = c.args.self.now.octets in
    masked_all 32 c.from_fn.result os ms (search rules) (search rules) (search rules)
    (λ i l.
    made_by _ (c.args.octets, c.args.self) (λ k. bit_and (get_or os k 0) (get_or ms k 0))
    (λ j y q called. (search rules, search rules)) _ 32 0 _ refl c.from_fn.ensures.items.each i i l (omega arith))
