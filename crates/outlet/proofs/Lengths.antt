-- How long blocks and their pieces are. Assumes nothing.
use Rattle.std.proofs.Common.{◌≡◌, ℕ, ◌-◌, ◌≤◌, min, List, ◌++◌, length, take, drop, replicate, refl, ap, arith, length-append, length-drop, length-take}
use Rattle.std.proofs.lemmas.List.{length-replicate}
use Rattle.plan.specs.declared.sealed_plan.SealedPlan.{SealedPlan}
use Rattle.outlet.specs.declared.blocks.Block.{Block}
use Rattle.outlet.specs.declared.blocks.Block.TheVariants.{Connection, Parameter}
use Rattle.outlet.specs.declared.user.UserOctets.{UserOctets}
use Rattle.outlet.specs.Blocks.{connection_block, parameter_block, piece, contents}

pub length_connection : (id address : ℕ) → length (connection_block id address) ≡ 64
unfolding connection_block
length_connection id address = refl

pub length_parameter : (w n : ℕ) (user : List ℕ) → length user ≡ 16 → n ≤ 16 → length (parameter_block w n user) ≡ 64
unfolding parameter_block
length_parameter w n user h b = simp (length-append, length-take, length-replicate) (omega arith)

pub length_contents : (p : SealedPlan) (user : UserOctets) (b : Block) → length (contents p user b) ≡ 64
length_contents p user Connection = length_connection p.draft.id p.draft.address
length_contents p user Parameter =
    length_parameter p.draft.watchdog p.draft.user_octets user.octets user.sixteen p.user_octets_range

module _ (d at : ℕ) (block : List ℕ) where
  pub length_piece : length block ≡ 64 → d ≤ 32 → length (piece d at block) ≡ 32
  unfolding piece
  length_piece h b = simp (length-append, length-take, length-drop, length-replicate) (omega arith)

  -- where a piece of a block that is sent begins
  pub piece_within : at ≤ 32 → piece d at block ≡ take d (drop at block) ++ replicate (32 - d) 0
  unfolding piece
  piece_within h = let same : min at 32 ≡ at = omega arith in ap (λ n. take d (drop n block) ++ replicate (32 - d) 0) same
