-- Each turn copies one part behind the front, and the connection ID goes last.
use Rattle.std.proofs.Common.{◌≡◌, ◌*◌, ◌/◌, length, sym, refl, ap, ◌∙◌, ⊎_elim, arith, rules, length-drop}
use Rattle.std.specs.Iterator.Adapters.{zip_first}
use Rattle.crc.specs.Register.{low_high}
use Rattle.frame.proofs.Filling.{after_chunk, both_of, split, parts_more, id_last}
use Rattle.frame.proofs.RoundTrip.{reads_back}
use Rattle.frame.proofs.outgoing.Outgoing.new.Goals as goal

pub loop-i-preserved : goal.loop-i-preserved
loop-i-preserved c =
    let inv = c.loop-i.invariant in
    let turn = c.in-Some.ensures.steps.0.1 in
    let pair = c.in-Some.ensures.steps.1.1 in
    let here = sym inv.rest ∙ pair.0 in
    let long = pair.1 ∙ inv.size in
    record {
      can = search rules;
      finite = search rules;
      end = search rules;
      count = search rules;
      size = search rules;
      rest = after_chunk c.args.given.now _ _ 2 _ _ here long turn.2;
      written =
          parts_more _ _ _ _ _ _ _ _ _ _ _ turn.1 turn.2 (omega arith) inv.written here long
          (cc (both_of c.in-Some.pair.now long, c.copy_from_slice.ensures.after))
          (cc (both_of c.to_le_bytes.result (ap length c.to_le_bytes.ensures), c.copy_from_slice-in-loop-i.ensures.after, split _ _ c.part-crc.type_inv c.to_le_bytes.ensures, c.part-crc.ensures));
    }

pub returns : goal.returns
returns c =
    let inv = c.loop-i.invariant in
    let all : (zip_first c.loop-i.i-iterator).start ≡ c.args.size.octets / 2 =
    ⊎_elim (λ none. omega (arith, none.1)) (λ none. omega (arith, none.1, ap length inv.rest, length-drop (2 * (zip_first c.loop-i.i-iterator).start) c.args.given.now)) c.in-None.ensures.steps in
    record {
      octets =
          id_last _ _ _ _ _ _ _ _ _ c.octets.ensures.value (omega arith) (omega arith) all inv.written
          (c.copy_from_slice-2.ensures.after ∙ split _ _ c.id.type_inv c.to_le_bytes-2.ensures ∙ ap low_high c.id.ensures);
      size = refl;
      reads_back =
          reads_back c.args.size.octets c.args.shared.command c.args.shared.id c.args.shared.register.bits
          c.args.given.now (omega arith) (omega arith) (omega arith) (search rules);
    }
