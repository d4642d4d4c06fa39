-- A written frame reads back. Assumes nothing.
use Rattle.std.proofs.Common.{◌≡◌, ℕ, zero, suc, ◌+◌, ◌-◌, ◌*◌, ◌/◌, ◌%◌, ◌<◌, ◌≤◌, min, true, List, [], ◌∷◌, ◌++◌, length, get_or, take, replicate, refl, ⊎_elim, append_assoc, arith, length-append, take_at, eq-eqb}
use Rattle.std.proofs.lemmas.List.{get_or_append_left, get_or-append_right, take_more}
use Rattle.std.proofs.lemmas.Bool.{cases_lt}
use Rattle.crc.specs.Register.{low_high}
use Rattle.crc.specs.Crc.{part_crc}
use Rattle.frame.specs.Layout.{part, parts, frame}
use Rattle.frame.specs.Reading.{whole, command_octet, first_octet, second_octet, body, id, first, second, crc_in, pairs, part_right, parts_right, padded, right}
use Rattle.frame.specs.ReadsBack.{ReadsBack}
use Rattle.frame.proofs.Filling.{length_parts}

module _ (r : ℕ) (o : List ℕ) where
  -- part i of the parts, as it was written
  abbrev this : ℕ → List ℕ
  this i = part r i (get_or o (2 * i) 0) (get_or o (2 * i + 1) 0)

  pub part_at : (n i j : ℕ) → i < n → j < 4 → get_or (parts r o n) (4 * i + j) 0 ≡ get_or (this i) j 0
  part_at zero i j h k = absurd (omega arith)
  part_at (suc n) i j h k =
      let long : length (parts r o n) ≡ 4 * n = length_parts r o n in
      ⊎_elim
      (λ (before : i < n). cc (get_or_append_left (parts r o n) (this n) 0 (4 * i + j) (omega arith), part_at n i j before k))
      (λ (last : n ≤ i).
      let same : i ≡ n = omega arith in
      let place : 4 * i + j - 4 * n ≡ j = omega arith in
      cc (get_or-append_right (parts r o n) (this n) (4 * n) (4 * i + j) 0 long (omega arith)))
      (cases_lt i n)

  crc_at : (n i : ℕ) → i < n → crc_in (parts r o n) i ≡ part_crc r i (get_or o (2 * i) 0) (get_or o (2 * i + 1) 0)
  crc_at n i h = omega (arith, part_at n i 2 h (omega arith), part_at n i 3 h (omega arith))

  pub first_at : (n i : ℕ) → i < n → first (parts r o n) i ≡ get_or o (2 * i) 0
  first_at n i h =
      let place : 4 * i + 0 ≡ 4 * i = omega arith in
      cc (part_at n i 0 h (omega arith))

  pub second_at : (n i : ℕ) → i < n → second (parts r o n) i ≡ get_or o (2 * i + 1) 0
  second_at n i h = part_at n i 1 h (omega arith)

  part_is_right : (n i : ℕ) → i < n → part_right r (parts r o n) i ≡ true
  part_is_right n i h = eq-eqb _ _ (cc (crc_at n i h, first_at n i h, second_at n i h))

  parts_are_right : (n k : ℕ) → k ≤ n → parts_right r (parts r o n) k ≡ true
  parts_are_right n zero h = refl
  parts_are_right n (suc k) h = cc (parts_are_right n k (omega arith), part_is_right n k (omega arith))

module _ (d command i r : ℕ) (o : List ℕ) (low : 2 ≤ d) (even : d % 2 ≡ 0) where
  length_is : length (parts r o (d / 2)) ≡ 2 * d
  length_is = omega (arith, length_parts r o (d / 2))

  pub frame_whole : whole d (frame d command i r o) ≡ true
  unfolding frame
  frame_whole = eq-eqb _ _ (omega (arith, length_is, length-append (parts r o (d / 2)) (low_high i)))

  pub frame_command : command_octet (frame d command i r o) ≡ command
  unfolding frame
  frame_command = refl

  pub frame_body : body d (frame d command i r o) ≡ parts r o (d / 2)
  unfolding frame
  frame_body = take_at (parts r o (d / 2)) (low_high i) (2 * d) length_is

  pub frame_id : id d (frame d command i r o) ≡ i
  unfolding frame
  frame_id =
      let before : List ℕ = command ∷ parts r o (d / 2) in
      let long : length before ≡ 2 * d + 1 = omega (arith, length_is) in
      let zeroth : 2 * d + 1 - (2 * d + 1) ≡ 0 = omega arith in
      let oneth : 2 * d + 2 - (2 * d + 1) ≡ 1 = omega arith in
      let x : get_or (before ++ low_high i) (2 * d + 1) 0 ≡ i % 256 =
      cc (get_or-append_right before (low_high i) (2 * d + 1) (2 * d + 1) 0 long (omega arith)) in
      let y : get_or (before ++ low_high i) (2 * d + 2) 0 ≡ i / 256 =
      cc (get_or-append_right before (low_high i) (2 * d + 1) (2 * d + 2) 0 long (omega arith)) in
      omega arith

  -- the first two data octets
  pub frame_first : first_octet (frame d command i r o) ≡ get_or o 0 0
  unfolding frame
  frame_first = cc (get_or_append_left (parts r o (d / 2)) (low_high i) 0 0 (omega (arith, length_is)), first_at r o (d / 2) 0 (omega arith))

  pub frame_second : second_octet (frame d command i r o) ≡ get_or o 1 0
  unfolding frame
  frame_second = cc (get_or_append_left (parts r o (d / 2)) (low_high i) 0 1 (omega (arith, length_is)), second_at r o (d / 2) 0 (omega arith))

  pub frame_right : right d (frame d command i r o) r ≡ true
  unfolding right
  frame_right = cc (frame_whole, frame_body, parts_are_right r o (d / 2) (d / 2) (omega arith))

pairs_of : (r : ℕ) (o : List ℕ) (n k : ℕ) → 2 * n ≤ length o → k ≤ n → pairs (parts r o n) k ≡ take (2 * k) o
pairs_of r o n zero room h = refl
pairs_of r o n (suc k) room h =
    let count : 2 * k + 1 + 1 ≡ 2 * suc k = omega arith in
    let one = take_more o (2 * k) 0 (omega arith) in
    let two = take_more o (2 * k + 1) 0 (omega arith) in
    let joined = append_assoc (take (2 * k) o) (get_or o (2 * k) 0 ∷ []) (get_or o (2 * k + 1) 0 ∷ []) in
    cc (pairs_of r o n k room (omega arith), first_at r o n k (omega arith), second_at r o n k (omega arith))

pub frame_octets_are : (d command i r : ℕ) (o : List ℕ) → 2 ≤ d → d ≤ 32 → d % 2 ≡ 0 → length o ≡ 32 → padded (body d (frame d command i r o)) ≡ take d o ++ replicate (32 - d) 0
frame_octets_are d command i r o low high even room =
    let count : min (length (parts r o (d / 2)) / 4) 16 ≡ d / 2 = omega (arith, length_parts r o (d / 2)) in
    let all : 2 * (d / 2) ≡ d = omega arith in
    cc (frame_body d command i r o low even, pairs_of r o (d / 2) (d / 2) (omega arith) (omega arith))

pub reads_back : (d command i r : ℕ) (o : List ℕ) → 2 ≤ d → d ≤ 32 → d % 2 ≡ 0 → length o ≡ 32 → ReadsBack d command i r o (frame d command i r o)
reads_back d command i r o low high even room =
    record {
      is_whole = frame_whole d command i r o low even;
      command_is = frame_command d command i r o low even;
      id_is = frame_id d command i r o low even;
      octets_are = frame_octets_are d command i r o low high even room;
      is_right = frame_right d command i r o low even;
    }
