-- Two ends in step stay in step. Assumes nothing.
use Rattle.std.proofs.Common.{◌≡◌, ℕ, ◌%◌, ◌≤◌, true, List, sym}
use Rattle.crc.specs.Crc.{shared}
use Rattle.frame.proofs.RoundTrip.{frame_command, frame_id, frame_first, frame_second, frame_right}
use Rattle.chain.specs.declared.numbers.Numbers.{Numbers}
use Rattle.chain.specs.Numbers.{sent_number, sent_crc, sent, read_number, read_crc, is_right}
use Rattle.chain.specs.Chain.{InStep, Follows}

module _ (x y : Numbers) (s : InStep x y) (d i command : ℕ) (o : List ℕ) (low : 2 ≤ d) (even : d % 2 ≡ 0) where
  abbrev f : List ℕ
  f = sent x d i command o

  abbrev register : ℕ
  register = shared x.last i (sent_number x i command o) command

  -- the reader sees the octets of the writer
  same_number : read_number y d f ≡ sent_number x i command o
  same_number =
      cc
      (s.own_peer, s.old_own, s.last, frame_command d command i register o low even, frame_id d command i register o low even, frame_first d command i register o low even, frame_second d command i register o low even)

  same_crc : read_crc y d f ≡ sent_crc x i command o
  same_crc =
      cc
      (same_number, s.last, frame_command d command i register o low even, frame_id d command i register o low even, frame_first d command i register o low even, frame_second d command i register o low even)

  finds_right : is_right y d f ≡ true
  finds_right =
      cc
      (same_number, s.last, frame_command d command i register o low even, frame_id d command i register o low even, frame_right d command i register o low even)

  pub follows : Follows x y d i command o
  follows =
      record {
        right = rw finds_right (cc same_number);
        in_step =
            rw finds_right
            (record {
              own_peer = cc same_number;
              peer_own = s.peer_own;
              old_own = sym same_crc;
              old_peer = s.old_peer;
              last = sym same_crc;
            });
      }
