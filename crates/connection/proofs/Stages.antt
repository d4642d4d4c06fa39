-- How far a connection is on its way back, and what the next exchange makes of it. Assumes nothing.
use Rattle.std.proofs.Common.{◌≡◌, ℕ, ◌+◌, ◌-◌, ◌<◌, ◌≤◌, List, ◌++◌, take, replicate, Some, sym, refl, ◌∙◌, arith}
use Rattle.faults.specs.declared.state.State.TheVariants as s
use Rattle.length.proofs.Bounds.{Bounds, bounds}
use Rattle.frame.specs.declared.command.Command.TheVariants as c
use Rattle.chain.specs.declared.numbers.Numbers.{Numbers}
use Rattle.sink.specs.declared.Sink as sink
use Rattle.profile.specs.declared.profile.Profile as profile
use Rattle.shared_end.specs.declared.link.Link.{Link}
use Rattle.shared_end.specs.declared.step.Act.TheVariants.{Keep}
use Rattle.shared_end.specs.Link.{after_writing}
use Rattle.shared_end.specs.Outcomes.{taken}
use Rattle.shared_end.specs.Endpoints.{width}
use Rattle.master_end.specs.declared.master.Master.{Master}
use Rattle.outlet.specs.declared.blocks.Block.{Block}
use Rattle.outlet.specs.declared.blocks.Block.TheVariants.{Connection, Parameter}
use Rattle.outlet.specs.Blocks.{piece, state_of, command_of, count_of, contents}
use Rattle.outlet.specs.Steps.{with_at, piece_out}
use Rattle.outlet.proofs.Lengths.{length_contents}
use Rattle.slave_end.specs.declared.slave.Slave.{Slave}
use Rattle.inlet.specs.Steps.{echoed}
use Rattle.slave_end.specs.Matching as slave
use Rattle.connection.specs.Exchanges.{Pair}
use Rattle.connection.proofs.Handing.{Handed}
use Rattle.connection.proofs.Pieces as pieces
use Rattle.connection.proofs.Answering as answering
use Rattle.connection.proofs.Carrying.{Kept, Out}

module _ {S : Type 0} (m₀ : Master S) where
  pub bounded : Bounds (width m₀.endpoint)
  bounded = bounds (width m₀.endpoint) m₀.endpoint.link.size.lawful

  -- the piece of a block that begins at a place
  abbrev pub piece_of : Block → (at : ℕ) → List ℕ
  piece_of b at = piece (width m₀.endpoint) at (contents m₀.plan m₀.outlet.user b)

  module _ {T P : Type 0} where
    -- a slave has stored a block up to a place
    pub record Stored (b : Block) (at : ℕ) (e : Slave T P) : Type 0 where
      pub state_is : e.endpoint.state ≡ state_of b
      pub stored_is : e.inlet.stored ≡ at
      pub id_is : e.inlet.id ≡ m₀.plan.draft.id
      pub block_is : take at e.inlet.block ≡ take at (contents m₀.plan m₀.outlet.user b)

    -- a slave awaits the piece of a block that begins at a place
    pub data Awaits : Block → ℕ → Slave T P → Type 0 where
      first_connection : {e : Slave T P} → e.endpoint.state ≡ s.Session → Awaits Connection 0 e
      first_parameter : {e : Slave T P} {at : ℕ} → 4 ≤ at → Stored Connection at e → Awaits Parameter 0 e
      next : {e : Slave T P} {b : Block} {at : ℕ} → Stored b at e → Awaits b at e

    -- so far its block is the master's
    pub stored_so_far : {b : Block} {at : ℕ} {e : Slave T P} → Awaits b at e →
        take at e.inlet.block ≡ take at (contents m₀.plan m₀.outlet.user b)
    stored_so_far (first_connection state) = refl
    stored_so_far (first_parameter enough had) = refl
    stored_so_far (next had) = had.block_is

    module _ (t : sink.Ghosts T) (octets : List ℕ) where
      -- a piece of a block is out
      pub record Sending (b : Block) (at : ℕ) (a : Pair S T P) : Type 0 where
        pub kept : Kept t m₀ octets a
        pub state_is : a.master.endpoint.state ≡ state_of b
        pub at_is : a.master.outlet.at ≡ at
        pub within : at < count_of m₀.plan b
        pub out : Out t m₀ octets a m₀.plan.draft.id (command_of b) (piece_of b at)
        pub awaits : Awaits b at a.slave

      -- the first data frame is out
      pub record Ready (a : Pair S T P) : Type 0 where
        pub kept : Kept t m₀ octets a
        pub out : Out t m₀ octets a m₀.plan.draft.id c.ProcessData (octets ++ replicate (32 - width m₀.endpoint) 0)
        pub at : ℕ
        pub enough : 6 + m₀.plan.draft.user_octets ≤ at
        pub stored : Stored Parameter at a.slave

      -- a piece of a block, from a link of the master
      pub piece_out_is : (a : Pair S T P) → Kept t m₀ octets a → (l : Link) → l.size.octets ≡ width m₀.endpoint → (k : Block) (at at' : ℕ) → at ≡ at' →
          piece_out l a.master.outlet a.master.plan k at
          ≡ taken (state_of k) Keep (record { from = l.numbers; id = m₀.plan.draft.id; command = command_of k; octets = piece_of k at' })
          (after_writing l m₀.plan.draft.id (command_of k) (piece_of k at')) (with_at a.master.outlet at')
      piece_out_is a kept l size k at at' e =
          (λ j. let o : List ℕ = piece (size j) (e j) (contents (kept.plan_is j) (kept.user_is j) k) in
          taken (state_of k) Keep (record { from = l.numbers; id = (kept.plan_is j).draft.id; command = command_of k; octets = o })
          (after_writing l (kept.plan_is j).draft.id (command_of k) o) (with_at a.master.outlet (e j)))

module _ {S T P : Type 0} (p : profile.Ghosts P) (m₀ : Master S) (same_count : p.USER_OCTETS ≡ m₀.plan.draft.user_octets) where
  -- a piece that is awaited is stored and echoed
  pub echoes : (b : Block) (at : ℕ) (e : Slave T P) (f : List ℕ) (n : ℕ) (x : Numbers) → Awaits m₀ b at e → at < count_of m₀.plan b →
      e.inlet.address ≡ m₀.plan.draft.address →
      Handed x e.endpoint.link.numbers (width e.endpoint) m₀.plan.draft.id (command_of b) (piece_of m₀ b at) (piece_of m₀ b at) f →
      slave.asked p e f n ≡ echoed e.endpoint.link e.inlet f (state_of b) (command_of b) m₀.plan.draft.id at (piece_of m₀ b at)
  echoes b at e f n x (first_connection state) within address h =
      answering.asked_is p e f n s.Session (Some c.Connection) (piece_of m₀ b at) state h.kind_is h.piece_is
      ∙ answering.on_first_connection p e.endpoint.link e.inlet f (piece_of m₀ b at) n h.right m₀.plan.draft.id m₀.plan.id_range h.id_is
      (pieces.first_word (width m₀.endpoint) (bounded m₀).low (bounded m₀).high (contents m₀.plan m₀.outlet.user b) (length_contents m₀.plan m₀.outlet.user b)
      ∙ pieces.connection_id m₀.plan.draft.id m₀.plan.draft.address)
  echoes b at e f n x (first_parameter {at = before} enough had) within address h =
      answering.asked_is p e f n s.Connection (Some c.Parameter) (piece_of m₀ b at) had.state_is h.kind_is h.piece_is
      ∙ answering.on_first_parameter p e.endpoint.link e.inlet f (piece_of m₀ b at) n h.right m₀.plan.draft.id
      (omega (arith, had.stored_is)) had.id_is h.id_is
      (pieces.stored_word before e.inlet.block (contents m₀.plan m₀.outlet.user Connection) had.block_is 2 (omega arith)
      ∙ pieces.connection_address m₀.plan.draft.id m₀.plan.draft.address ∙ sym address)
  echoes Connection at e f n x (next had) within address h =
      answering.asked_is p e f n s.Connection (Some c.Connection) (piece_of m₀ Connection at) had.state_is h.kind_is h.piece_is
      ∙ answering.on_next_connection p e.endpoint.link e.inlet f (piece_of m₀ Connection at) n h.right m₀.plan.draft.id at
      within had.stored_is had.id_is h.id_is
  echoes Parameter at e f n x (next had) within address h =
      answering.asked_is p e f n s.Parameter (Some c.Parameter) (piece_of m₀ Parameter at) had.state_is h.kind_is h.piece_is
      ∙ answering.on_next_parameter p e.endpoint.link e.inlet f (piece_of m₀ Parameter at) n h.right m₀.plan.draft.id at
      (omega (arith, within, same_count)) had.stored_is had.id_is h.id_is
