use Rattle.std.proofs.Common.{◌≡◌, ◌-◌, ◌*◌, ◌≤◌, ◌++◌, length, drop, replicate}
use Rattle.std.specs.Iterator.Adapters.{zip_first, zip_second}
use Rattle.std.specs.Slice.Iter.{chunks_exact_rest, chunks_exact_size}
use Rattle.frame.specs.Reading.{pairs}
use Rattle.frame.proofs.received.data_of.Given as goal

-- the pairs so far stand at the front, and zeros after them
abbrev pub invariant-loop-i : goal.invariant-loop-i
invariant-loop-i l =
    let i = (zip_first l.i-iterator).start in
    record {
      can : (goal.iterator-loop-i).can_next l.i-iterator;
      finite : (goal.iterator-loop-i).is_finite l.i-iterator;
      end : (zip_first l.i-iterator).end ≡ 16;
      count : i ≤ 16;
      size : chunks_exact_size (zip_second l.i-iterator) ≡ 4;
      within : 4 * i ≤ length l.body;
      rest : chunks_exact_rest (zip_second l.i-iterator) ≡ drop (4 * i) l.body;
      written : l.octets ≡ pairs l.body i ++ replicate (32 - 2 * i) 0;
    }
