-- The calls that bring a connection back are undisturbed exchanges. Assumes nothing.
use Rattle.std.proofs.Common.{◌≡◌, ℕ, suc, ◌+◌, ◌≤◌, cond, eqb, true, List, replicate, Some, None, sym, ap, ◌∙◌, subst, arith, eq-eqb}
use Rattle.codes.specs.declared.refusal.Refusal.TheVariants.{WrongFrameLength, WrongDataCount}
use Rattle.faults.specs.declared.line.Line.{Line}
use Rattle.length.specs.declared.DataLength.{DataLength}
use Rattle.journal.specs.declared.queue.Journal.{Journal}
use Rattle.sink.specs.declared.Sink as sink
use Rattle.sink.specs.Lawful.{Lawful}
use Rattle.profile.specs.declared.profile.Profile as profile
use Rattle.shared_end.specs.declared.link.Link.{Link}
use Rattle.shared_end.specs.Endpoints.{width}
use Rattle.master_end.specs.declared.master.Master.{Master}
use Rattle.slave_end.specs.declared.slave.Slave.{Slave}
use Rattle.connection.specs.declared.exchanging.Sessions.{Sessions}
use Rattle.connection.specs.Exchanges.{Pair, Exchanged, Exchanges, none, more, Undisturbed, reset, set, next}
use Rattle.connection.specs.Returning.{needed}
use Rattle.connection.specs.Driving.{pair, ByCalls, Brought}
use Rattle.connection.proofs.Making.{exchanges_of}
use Rattle.connection.proofs.Returning.{comes_back}

-- where both lengths agree, nothing speaks against it
pub nothing_against : (octets d w : ℕ) (mine yours mine' yours' : DataLength) → octets ≡ d → w ≡ d → d ≡ mine'.octets → mine' ≡ mine → w ≡ yours'.octets → yours' ≡ yours →
    cond (eqb octets mine.octets) (cond (eqb yours.octets mine.octets) None (Some WrongFrameLength)) (Some WrongDataCount) ≡ None
nothing_against octets d w mine yours mine' yours' count same d-is mine-is w_is yours-is =
    let my : d ≡ mine.octets = d-is ∙ ap (λ s. s.octets) mine-is in
    let your : w ≡ yours.octets = w_is ∙ ap (λ s. s.octets) yours-is in
    let e₁ : eqb octets mine.octets ≡ true = eq-eqb _ _ (count ∙ my) in
    let e₂ : eqb yours.octets mine.octets ≡ true = eq-eqb _ _ (sym your ∙ same ∙ my) in
    (λ i. cond (e₁ i) (cond (e₂ i) None (Some WrongFrameLength)) (Some WrongDataCount))

module _ {S T P : Type 0} (m : sink.Ghosts S) (t : sink.Ghosts T) (p : profile.Ghosts P) (m₀ : Master S) (s₀ : Slave T P) (octets : List ℕ) where
  -- exchanges behind the setting
  go_on : {k : ℕ} {a b : Pair S T P} → Undisturbed m t p octets m₀ s₀ 1 a → Exchanges m t p k a b → Undisturbed m t p octets m₀ s₀ (suc k) b
  go_on u none = u
  go_on u (more es ex) = next (go_on u es) ex

  module _ (law : Lawful t) (sessions : Sessions) (e : Master S) (f : Slave T P) (latest shown : List ℕ) (j j' k k' : Journal Line)
      (calls : ByCalls m t p m₀ s₀ sessions octets e f j j' k k') (shown_is : shown ≡ t.shown f.endpoint.sink) where
    behind : {n : ℕ} {a : Pair S T P} → Undisturbed m t p octets m₀ s₀ 1 a → Exchanges m t p n a (record { master = e; slave = f; latest = latest }) → n + 1 ≡ needed m₀ →
        Brought m t p m₀ s₀ sessions octets shown e f j j' k k'
    behind u none is = let no : ⊥ = omega (arith, is) in absurd no
    behind u (more {k = n} {b = b} es ex) is =
        let count_is : suc n + 1 ≡ needed m₀ = is in
        record {
          calls = calls;
          count = suc n;
          before = b;
          latest = latest;
          count_is = count_is;
          undisturbed = go_on u es;
          last = ex;
          shown_is = shown_is;
          lit = λ fits up. shown_is ∙ (comes_back m t law p m₀ s₀ fits up octets).lit (suc n) b (record { master = e; slave = f; latest = latest }) (go_on u es) ex count_is;
        }

  pub brought : Lawful t → (sessions : Sessions) (shown : List ℕ) (e₄ : Master S) (s₄ : Slave T P) (j j' k k' : Journal Line) →
      ByCalls m t p m₀ s₀ sessions octets e₄ s₄ j j' k k' → shown ≡ t.shown s₄.endpoint.sink → Brought m t p m₀ s₀ sessions octets shown e₄ s₄ j j' k k'
  brought law sessions shown e₄ s₄ j j' k k' calls shown_is =
      let d : ℕ = width m₀.endpoint in
      let e₁ = calls.after_reset in
      let e₃ = calls.after_setting in
      let two = calls.second in
      let same₁ : width e₁.endpoint ≡ d = ap width calls.resets.0.1 in
      let same₃ : width e₃.endpoint ≡ d = ap (λ (l : Link). l.size.octets) calls.sets.0.1 ∙ calls.one.master_width ∙ same₁ in
      let first_exchange : Exchanged m t p (pair d e₁ s₀ calls.first) (pair d two.master two.slave two.buffer) =
      subst (λ n. Exchanged m t p (pair n e₁ s₀ calls.first) (pair n two.master two.slave two.buffer)) same₁ calls.one.exchanged in
      let some : 3 ≤ needed m₀ = omega arith in
      behind law sessions e₄ s₄ _ shown j j' k k' calls shown_is
      (set (reset (replicate 67 0) calls.first j calls.journal_after_reset calls.answer calls.resets) first_exchange calls.sets)
      (exchanges_of m t p sessions d same₃ calls.rest)
      (omega (arith, some))
