-- The exchange that sets the slave's outputs. Assumes nothing.
use Rattle.std.proofs.Common.{◌≡◌, ℕ, ◌+◌, ◌-◌, ◌<◌, List, ◌++◌, take, drop, replicate, Some, sym, ap, ◌∙◌, subst, arith}
use Rattle.std.proofs.lemmas.Bool.{cond-true}
use Rattle.faults.specs.declared.state.State.TheVariants as s
use Rattle.frame.specs.declared.command.Command.TheVariants as c
use Rattle.sink.specs.declared.Sink as sink
use Rattle.sink.specs.Lawful.{Lawful}
use Rattle.sink.specs.Octets.{zeros}
use Rattle.profile.specs.declared.profile.Profile as profile
use Rattle.shared_end.specs.declared.step.Act.TheVariants.{Release}
use Rattle.shared_end.specs.Endpoints.{width}
use Rattle.master_end.specs.declared.master.Master.{Master}
use Rattle.outlet.specs.Blocks.{parameter_block}
use Rattle.slave_end.specs.declared.slave.Slave.{Slave}
use Rattle.inlet.specs.Storing.{word}
use Rattle.inlet.specs.Steps.{data_answered}
use Rattle.slave_end.specs.Matching as slave
use Rattle.connection.specs.Fits.{Fits}
use Rattle.connection.specs.Exchanges.{Pair, Exchanged}
use Rattle.connection.proofs.Handing.{Handed, handed}
use Rattle.connection.proofs.Pieces as pieces
use Rattle.connection.proofs.Carrying.{slave_took}
use Rattle.connection.proofs.Answering as answering
use Rattle.connection.proofs.Stages.{bounded, Ready}

module _ {S T P : Type 0} (m : sink.Ghosts S) (t : sink.Ghosts T) (law : Lawful t) (p : profile.Ghosts P) (m₀ : Master S) (s₀ : Slave T P) (fits : Fits p m₀ s₀)
    (octets : List ℕ) (a b : Pair S T P) (ex : Exchanged m t p a b) (h : Ready m₀ t octets a) where
  abbrev d : ℕ
  d = width m₀.endpoint

  abbrev given : List ℕ
  given = octets ++ replicate (32 - d) 0

  there : Handed h.out.from a.slave.endpoint.link.numbers (width a.slave.endpoint) m₀.plan.draft.id c.ProcessData given given a.latest
  there =
      subst (λ q. Handed h.out.from a.slave.endpoint.link.numbers (width a.slave.endpoint) m₀.plan.draft.id c.ProcessData given q a.latest)
      (pieces.filled_again d (bounded m₀).high octets h.kept.count_is)
      (handed h.out.from a.slave.endpoint.link.numbers h.out.in_step d m₀.plan.draft.id c.ProcessData given (bounded m₀)
      (pieces.filled_length d (bounded m₀).high octets h.kept.count_is) (width a.slave.endpoint) a.latest h.kept.slave_width h.out.latest_is)

  -- the slave's block is the master's
  abbrev w : ℕ
  w = m₀.plan.draft.watchdog

  abbrev n : ℕ
  n = m₀.plan.draft.user_octets

  abbrev user : List ℕ
  user = m₀.outlet.user.octets

  abbrev block : List ℕ
  block = a.slave.inlet.block

  word_is : (at : ℕ) → at + 1 < h.at → word block at ≡ word (parameter_block w n user) at
  word_is = pieces.stored_word h.at block (parameter_block w n user) h.stored.block_is

  user_octets_are : take p.USER_OCTETS (drop 6 block) ≡ take n user
  user_octets_are =
      ap (λ k. take k (drop 6 block)) fits.count_agrees
      ∙ pieces.stored_octets h.at block (parameter_block w n user) h.stored.block_is 6 n h.enough
      ∙ pieces.parameter_user w n user m₀.outlet.user.sixteen m₀.plan.user_octets_range

  takes : slave.asked p a.slave a.latest ex.slave_session
      ≡ data_answered a.slave.endpoint.link a.slave.inlet a.latest (Release given) (word block 2)
  takes =
      answering.asked_is p a.slave a.latest ex.slave_session s.Parameter (Some c.ProcessData) given h.stored.state_is there.kind_is there.piece_is
      ∙ answering.on_first_data p a.slave.endpoint.link a.slave.inlet a.latest given ex.slave_session there.right w
      (omega (arith, h.enough, h.stored.stored_is, fits.count_agrees))
      (there.id_is ∙ sym h.stored.id_is)
      (word_is 0 (omega (arith, h.enough)) ∙ pieces.parameter_two w n user)
      (word_is 2 (omega (arith, h.enough)) ∙ pieces.parameter_watchdog w n user)
      fits.watchdog_low fits.watchdog_high
      (word_is 4 (omega (arith, h.enough)) ∙ pieces.parameter_count w n user ∙ sym fits.count_agrees)
      (ap p.judged user_octets_are ∙ fits.user_accepted)

  pub lights : t.shown b.slave.endpoint.sink ≡ t.would a.slave.endpoint.sink given
  lights =
      let r = slave_took m t p a b ex s.Data (Release given) _ _ a.slave.inlet takes in
      ap t.shown r.sink_is
      ∙ law.effects.shown_released a.slave.endpoint.sink given
      ∙ cond-true (t.up a.slave.endpoint.sink) (t.would a.slave.endpoint.sink given) zeros h.kept.up_is
