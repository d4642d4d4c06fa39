use Rattle.std.proofs.Common.{◌≡◌, ◌-◌, ◌*◌, ◌/◌, ◌≤◌, ◌∷◌, ◌++◌, drop, replicate}
use Rattle.std.specs.Iterator.Adapters.{zip_first, zip_second}
use Rattle.std.specs.Slice.Iter.{chunks_exact_rest, chunks_exact_size}
use Rattle.frame.specs.Layout.{parts}
use Rattle.frame.proofs.outgoing.Outgoing.new.Given as goal

-- the command and the parts so far stand at the front, and zeros after them
abbrev pub invariant-loop-i : goal.invariant-loop-i
invariant-loop-i l =
    let i = (zip_first l.i-iterator).start in
    record {
      can : (goal.iterator-loop-i).can_next l.i-iterator;
      finite : (goal.iterator-loop-i).is_finite l.i-iterator;
      end : (zip_first l.i-iterator).end ≡ l.size.octets / 2;
      count : i ≤ (zip_first l.i-iterator).end;
      size : chunks_exact_size (zip_second l.i-iterator) ≡ 2;
      rest : chunks_exact_rest (zip_second l.i-iterator) ≡ drop (2 * i) l.given;
      written : l.octets ≡ (l.shared.command ∷ parts l.shared.register.bits l.given i) ++ replicate (66 - 4 * i) 0;
    }
