-- An exchange while a piece of a block is out. Assumes nothing.
use Rattle.std.proofs.Common.{◌≡◌, ℕ, ◌+◌, ◌-◌, ◌<◌, ◌≤◌, List, ◌++◌, length, take, replicate, Some, sym, refl, ap, ◌∙◌, subst, arith}
use Rattle.frame.specs.declared.command.Command.TheVariants as c
use Rattle.chain.specs.Chain.{InStep}
use Rattle.faults.specs.declared.state.State.TheVariants as s
use Rattle.sink.specs.declared.Sink as sink
use Rattle.profile.specs.declared.profile.Profile as profile
use Rattle.shared_end.specs.declared.data_command.DataCommand.{DataCommand}
use Rattle.shared_end.specs.declared.link.Link.{Link}
use Rattle.shared_end.specs.declared.step.Act.TheVariants.{Keep}
use Rattle.shared_end.specs.Data.{frame_command, carried}
use Rattle.shared_end.specs.Link.{after_writing, after_reading}
use Rattle.shared_end.specs.Outcomes.{taken}
use Rattle.shared_end.specs.Endpoints.{width}
use Rattle.master_end.specs.declared.master.Master.{Master}
use Rattle.outlet.specs.declared.Outlet.{Outlet}
use Rattle.outlet.specs.declared.blocks.Block.{Block}
use Rattle.outlet.specs.declared.blocks.Block.TheVariants.{Connection, Parameter}
use Rattle.outlet.specs.Blocks.{piece, state_of, command_of, count_of, contents}
use Rattle.outlet.specs.Steps.{with_at, next_out}
use Rattle.master_end.specs.Matching as master
use Rattle.outlet.proofs.Lengths.{length_contents, length_piece}
use Rattle.inlet.specs.declared.Inlet.{Inlet}
use Rattle.inlet.specs.Storing.{placed, with_piece}
use Rattle.slave_end.specs.Matching as slave
use Rattle.connection.specs.Exchanges.{Pair, Exchanged}
use Rattle.connection.proofs.Handing.{turned, Handed, handed}
use Rattle.connection.proofs.Pieces as pieces
use Rattle.connection.proofs.Sending as sending
use Rattle.connection.proofs.Carrying as carrying
use Rattle.connection.proofs.Carrying.{Carried}
use Rattle.connection.proofs.Stages.{bounded, piece_of, Stored, stored_so_far, Sending, Ready, piece_out_is, echoes, next, first_parameter}

module _ {S T P : Type 0} (m : sink.Ghosts S) (t : sink.Ghosts T) (p : profile.Ghosts P) (m₀ : Master S) (octets : List ℕ)
    (same_count : p.USER_OCTETS ≡ m₀.plan.draft.user_octets) (a b : Pair S T P) (ex : Exchanged m t p a b)
    (k : Block) (at : ℕ) (h : Sending m₀ t octets k at a) where
  abbrev d : ℕ
  d = width m₀.endpoint

  abbrev i : ℕ
  i = m₀.plan.draft.id

  abbrev block : List ℕ
  block = contents m₀.plan m₀.outlet.user k

  abbrev out_now : List ℕ
  out_now = piece_of m₀ k at

  all : length block ≡ 64
  all = length_contents m₀.plan m₀.outlet.user k

  place : at ≤ 32
  place = omega (arith, h.within, pieces.few m₀.plan k)

  room : length out_now ≡ 32
  room = length_piece d at block all (bounded m₀).high

  again : take d out_now ++ replicate (32 - d) 0 ≡ out_now
  again = pieces.piece_again d at (bounded m₀).high place block all

  -- the piece at the slave
  there : Handed h.out.from a.slave.endpoint.link.numbers (width a.slave.endpoint) i (command_of k) out_now out_now a.latest
  there =
      subst (λ q. Handed h.out.from a.slave.endpoint.link.numbers (width a.slave.endpoint) i (command_of k) out_now q a.latest) again
      (handed h.out.from a.slave.endpoint.link.numbers h.out.in_step d i (command_of k) out_now (bounded m₀) room
      (width a.slave.endpoint) a.latest h.kept.slave_width h.out.latest_is)

  abbrev slave_read : Link
  slave_read = after_reading a.slave.endpoint.link a.latest

  abbrev slave_link : Link
  slave_link = after_writing slave_read i (command_of k) out_now

  abbrev inlet : Inlet
  inlet = with_piece a.slave.inlet (width a.slave.endpoint) i at out_now

  does : slave.asked p a.slave a.latest ex.slave_session
      ≡ taken (state_of k) Keep (record { from = slave_read.numbers; id = i; command = command_of k; octets = out_now }) slave_link inlet
  does = echoes p m₀ same_count k at a.slave a.latest ex.slave_session h.out.from h.awaits h.within h.kept.address_is there

  meets : InStep slave_read.numbers a.master.endpoint.link.numbers
  meets = turned _ _ (subst (λ n. InStep n slave_read.numbers) (sym h.out.numbers_are) there.again)

  abbrev answer : List ℕ
  answer = carrying.reply m t p m₀ octets a b ex h.kept (state_of k) Keep slave_read.numbers i (command_of k) out_now slave_link inlet does room meets

  abbrev master_read : Link
  master_read = after_reading a.master.endpoint.link answer

  -- its echo at the master
  back : Handed slave_read.numbers a.master.endpoint.link.numbers (width a.master.endpoint) i (command_of k) out_now out_now answer
  back =
      subst (λ q. Handed slave_read.numbers a.master.endpoint.link.numbers (width a.master.endpoint) i (command_of k) out_now q answer) again
      (carrying.reply_handed m t p m₀ octets a b ex h.kept (state_of k) Keep slave_read.numbers i (command_of k) out_now slave_link inlet does room meets)

  goes_on : master.asked a.master answer ex.master_session ≡ next_out master_read a.master.outlet a.master.plan k
  goes_on =
      sending.asked_is a.master answer ex.master_session (state_of k) (Some (command_of k)) out_now h.state_is back.kind_is back.piece_is
      ∙ sending.on_answer a.master.endpoint.link a.master.outlet a.master.plan answer out_now ex.master_session back.right k
      (back.id_is ∙ sym (λ j. (h.kept.plan_is j).draft.id))
      (sym (λ j. piece (h.kept.master_width j) (h.at_is j) (contents (h.kept.plan_is j) (h.kept.user_is j) k)))

  -- then another frame of the master is out
  sends : (st : _) (c₂ : _) (o₂ : List ℕ) (out₂ : Outlet) → out₂.user ≡ a.master.outlet.user →
      ((l : Link) → l.size.octets ≡ d → l.outputs ≡ a.master.endpoint.link.outputs → l.command ≡ a.master.endpoint.link.command → next_out l a.master.outlet a.master.plan k
      ≡ taken st Keep (record { from = l.numbers; id = i; command = c₂; octets = o₂ }) (after_writing l i c₂ o₂) out₂) →
      Carried t m₀ octets b (state_of k) inlet st out₂ i c₂ o₂
  sends st c₂ o₂ out₂ user is =
      carrying.carried m t p m₀ octets a b ex h.kept (state_of k) Keep slave_read.numbers i (command_of k) out_now slave_link inlet does room meets
      st i c₂ o₂ out₂ (goes_on ∙ is master_read h.kept.master_width refl refl) refl refl refl user h.kept.up_is h.kept.dark_is

  -- the slave has stored the piece
  stores : b.slave.endpoint.state ≡ state_of k → b.slave.inlet ≡ inlet → Stored m₀ k (at + d) b.slave
  stores state is =
      record {
        state_is = state;
        stored_is = ap (λ (x : Inlet). x.stored) is ∙ ap (λ n. at + n) h.kept.slave_width;
        id_is = ap (λ (x : Inlet). x.id) is;
        block_is =
            ap (λ (x : Inlet). take (at + d) x.block) is
            ∙ ap (λ n. take (at + d) (placed n at a.slave.inlet.block out_now)) h.kept.slave_width
            ∙ pieces.piece_stored d at (bounded m₀).high place block all a.slave.inlet.block (stored_so_far m₀ h.awaits);
      }

  -- the next piece of the block
  pub on_to_next : at + d < count_of m₀.plan k → Sending m₀ t octets k (at + d) b
  on_to_next more =
      let same_total : count_of a.master.plan k ≡ count_of m₀.plan k = ap (λ q. count_of q k) h.kept.plan_is in
      let r = sends (state_of k) (command_of k) (piece_of m₀ k (at + d)) (with_at a.master.outlet (at + d)) refl
      (λ l size os cm. let next_at : a.master.outlet.at + l.size.octets ≡ at + d = (λ j. h.at_is j + size j) in
      sending.more l a.master.outlet a.master.plan k (omega (arith, next_at, same_total)) ∙ piece_out_is m₀ t octets a h.kept l size k _ (at + d) next_at) in
      record {
        kept = r.kept;
        state_is = r.master_state;
        at_is = ap (λ (o : Outlet). o.at) r.outlet_is;
        within = more;
        out = r.out;
        awaits = next (stores r.slave_state r.inlet_is);
      }

module _ {S T P : Type 0} (m : sink.Ghosts S) (t : sink.Ghosts T) (p : profile.Ghosts P) (m₀ : Master S) (octets : List ℕ)
    (same_count : p.USER_OCTETS ≡ m₀.plan.draft.user_octets) (a b : Pair S T P) (ex : Exchanged m t p a b) (at : ℕ) where
  -- behind the connection block, the first piece of the parameter block
  pub on_to_parameter : Sending m₀ t octets Connection at a → 4 ≤ at + width m₀.endpoint → Sending m₀ t octets Parameter 0 b
  on_to_parameter h full =
      let r = sends m t p m₀ octets same_count a b ex Connection at h s.Parameter c.Parameter (piece_of m₀ Parameter 0) (with_at a.master.outlet 0) refl
      (λ l size os cm. sending.done l a.master.outlet a.master.plan Connection (omega (arith, size, h.at_is))
      ∙ piece_out_is m₀ t octets a h.kept l size Parameter 0 0 refl) in
      record {
        kept = r.kept;
        state_is = r.master_state;
        at_is = ap (λ (o : Outlet). o.at) r.outlet_is;
        within = omega arith;
        out = r.out;
        awaits = first_parameter full (stores m t p m₀ octets same_count a b ex Connection at h r.slave_state r.inlet_is);
      }

  -- behind the parameter block, the first data frame
  pub on_to_data : Sending m₀ t octets Parameter at a → 6 + m₀.plan.draft.user_octets ≤ at + width m₀.endpoint → Ready m₀ t octets b
  on_to_data h full =
      let o : List ℕ = octets ++ replicate (32 - width m₀.endpoint) 0 in
      let same_total : count_of a.master.plan Parameter ≡ count_of m₀.plan Parameter = ap (λ q. count_of q Parameter) h.kept.plan_is in
      let r = sends m t p m₀ octets same_count a b ex Parameter at h s.Data c.ProcessData o a.master.outlet refl
      (λ l size os cm. sending.done l a.master.outlet a.master.plan Parameter (omega (arith, size, h.at_is, same_total))
      ∙ (λ j. let q : DataCommand = (cm ∙ h.kept.command_is) j in
      let w : List ℕ = (os ∙ h.kept.outputs_are) j in
      taken s.Data Keep (record { from = l.numbers; id = (h.kept.plan_is j).draft.id; command = frame_command q; octets = carried q w })
      (after_writing l (h.kept.plan_is j).draft.id (frame_command q) (carried q w)) a.master.outlet)) in
      record {
        kept = r.kept;
        out = r.out;
        at = at + width m₀.endpoint;
        enough = full;
        stored = stores m t p m₀ octets same_count a b ex Parameter at h r.slave_state r.inlet_is;
      }
