-- Each turn copies the data octets of one part, and the turns end with the parts or with the room.
use Rattle.std.proofs.Common.{◌≡◌, ◌*◌, ◌/◌, min, length, sym, ap, ◌∙◌, ⊎_elim, arith, rules, length-drop}
use Rattle.std.specs.Iterator.Adapters.{zip_first}
use Rattle.frame.proofs.Filling.{after_chunk, two_of}
use Rattle.frame.proofs.Padding.{part_within, pairs_more, all_pairs}
use Rattle.frame.proofs.received.data_of.Goals as goal

pub loop-i-preserved : goal.loop-i-preserved
loop-i-preserved c =
    let inv = c.loop-i.invariant in
    let turn = c.in-Some.ensures.steps.0.1 in
    let pair = c.in-Some.ensures.steps.1.1 in
    let here = sym inv.rest ∙ pair.0 in
    let long = pair.1 ∙ inv.size in
    record {
      can = search rules;
      finite = search rules;
      end = search rules;
      count = search rules;
      size = search rules;
      within = part_within _ _ _ _ _ here long turn.2;
      rest = after_chunk c.args.body.now _ _ 4 _ _ here long turn.2;
      written = pairs_more _ _ _ _ _ _ _ _ turn.1 turn.2 (omega arith) inv.written here long (cc (two_of c.in-Some.part.now (omega arith), c.copy_from_slice.ensures.after));
    }

pub returns : goal.returns
returns c =
    let inv = c.loop-i.invariant in
    let body = c.args.body.now in
    let i = (zip_first c.loop-i.i-iterator).start in
    let all : i ≡ min (length body / 4) 16 =
    ⊎_elim (λ none. omega (arith, none.1)) (λ none. omega (arith, none.1, ap length inv.rest, length-drop (4 * i) body)) c.in-None.ensures.steps in
    all_pairs body _ i all inv.written
