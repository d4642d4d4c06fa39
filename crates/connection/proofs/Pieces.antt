-- The pieces of the master's blocks, and what stands in them. Assumes nothing.
use Rattle.std.proofs.Common.{◌≡◌, ℕ, ◌+◌, ◌-◌, ◌<◌, ◌≤◌, List, ◌++◌, length, take, drop, replicate, sym, refl, ap, ◌∙◌, arith, length-append, length-drop, length-take, length-take-le, take-take, take_at, take-add}
use Rattle.std.proofs.lemmas.List.{length-replicate}
use Rattle.std.proofs.lemmas.List.{drop-take}
use Rattle.plan.specs.declared.sealed_plan.SealedPlan.{SealedPlan}
use Rattle.outlet.specs.declared.blocks.Block.{Block}
use Rattle.outlet.specs.declared.blocks.Block.TheVariants.{Connection, Parameter}
use Rattle.outlet.specs.Blocks.{connection_block, parameter_block, piece, count_of}
use Rattle.outlet.proofs.Lengths.{length_piece, piece_within}
use Rattle.inlet.specs.Storing.{placed, word}
use Rattle.inlet.proofs.Pieces.{take_placed, word_take}

-- d octets with zeros behind them
module _ (d : ℕ) (high : d ≤ 32) (q : List ℕ) (count : length q ≡ d) where
  pub filled_length : length (q ++ replicate (32 - d) 0) ≡ 32
  filled_length = length-append q (replicate (32 - d) 0) ∙ (λ i. count i + length-replicate {A = ℕ} (32 - d) 0 i) ∙ omega arith

  pub filled_front : take d (q ++ replicate (32 - d) 0) ≡ q
  filled_front = take_at q (replicate (32 - d) 0) d count

  pub filled_again : take d (q ++ replicate (32 - d) 0) ++ replicate (32 - d) 0 ≡ q ++ replicate (32 - d) 0
  filled_again = ap (λ l. l ++ replicate (32 - d) 0) filled_front

-- the piece that begins at a place of a block of 64 octets
module _ (d at : ℕ) (high : d ≤ 32) (within : at ≤ 32) (block : List ℕ) (all : length block ≡ 64) where
  count : length (take d (drop at block)) ≡ d
  count = simp (length-take, length-drop) (omega arith)

  pub piece_front : take d (piece d at block) ≡ take d (drop at block)
  piece_front = ap (take d) (piece_within d at block within) ∙ filled_front d high (take d (drop at block)) count

  pub piece_again : take d (piece d at block) ++ replicate (32 - d) 0 ≡ piece d at block
  piece_again = ap (λ l. l ++ replicate (32 - d) 0) piece_front ∙ sym (piece_within d at block within)

  -- stored behind what came before it
  pub piece_stored : (mine : List ℕ) → take at mine ≡ take at block → take (at + d) (placed d at mine (piece d at block)) ≡ take (at + d) block
  piece_stored mine same =
      let front : length (take at block) ≡ at = length-take-le at block (omega arith) in
      take_placed d at mine (piece d at block) (ap length same ∙ front) (ap length piece_front ∙ count)
      ∙ (λ i. same i ++ piece_front i)
      ∙ sym (take-add at d block)

-- the first number of a block stands in its first piece
pub first_word : (d : ℕ) → 2 ≤ d → d ≤ 32 → (block : List ℕ) → length block ≡ 64 → word (piece d 0 block) 0 ≡ word block 0
first_word d low high block all =
    let room : length (piece d 0 block) ≡ 32 = length_piece d 0 block all high in
    sym (word_take d 0 (piece d 0 block) (omega arith))
    ∙ ap (λ l. word l 0) (piece_front d 0 high (omega arith) block all)
    ∙ word_take d 0 block (omega arith)

-- what stands in the connection block
pub connection_id : (id address : ℕ) → word (connection_block id address) 0 ≡ id
unfolding connection_block
connection_id id address = omega arith

pub connection_address : (id address : ℕ) → word (connection_block id address) 2 ≡ address
unfolding connection_block
connection_address id address = omega arith

-- and in the parameter block
module _ (w n : ℕ) (user : List ℕ) where
  pub parameter_two : word (parameter_block w n user) 0 ≡ 2
  unfolding parameter_block
  parameter_two = refl

  pub parameter_watchdog : word (parameter_block w n user) 2 ≡ w
  unfolding parameter_block
  parameter_watchdog = omega arith

  pub parameter_count : word (parameter_block w n user) 4 ≡ n
  unfolding parameter_block
  parameter_count = omega arith

  pub parameter_user : length user ≡ 16 → n ≤ 16 → take n (drop 6 (parameter_block w n user)) ≡ take n user
  unfolding parameter_block
  parameter_user sixteen few = take_at (take n user) (replicate (58 - n) 0) n (length-take-le n user (omega arith))

-- numbers and octets of a block of which enough is stored
module _ (stored : ℕ) (mine block : List ℕ) (same : take stored mine ≡ take stored block) where
  pub stored_word : (at : ℕ) → at + 1 < stored → word mine at ≡ word block at
  stored_word at h = sym (word_take stored at mine h) ∙ ap (λ l. word l at) same ∙ word_take stored at block h

  pub stored_octets : (k n : ℕ) → k + n ≤ stored → take n (drop k mine) ≡ take n (drop k block)
  stored_octets k n h =
      sym (drop-take k n mine)
      ∙ ap (drop k) (sym (take-take (k + n) stored mine h) ∙ ap (take (k + n)) same ∙ take-take (k + n) stored block h)
      ∙ drop-take k n block

-- how many octets of a block are sent
pub few : (p : SealedPlan) (b : Block) → count_of p b ≤ 22
few p Connection = omega arith
few p Parameter = omega (arith, p.user_octets_range)
