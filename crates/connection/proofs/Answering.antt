-- What a slave answers to the frames of a connection that is set up. Assumes nothing.
use Rattle.std.proofs.Common.{◌≡◌, ℕ, ◌+◌, ◌<◌, ◌≤◌, true, false, cond, not, ◌&&◌, eqb, ltb, leb, List, take, drop, Some, None, Option, sym, ap, ◌∙◌, arith}
use Rattle.std.proofs.lemmas.Bool.{cond-true, cond-false, and_from, lt-ltb, le-ltb, le-leb, eq-eqb, ne_eqb}
use Rattle.faults.specs.declared.fault.Fault.TheVariants.{InvalidCommand, InvalidConnectionId, InvalidCrc, InvalidAddress, InvalidParameterLength, InvalidWatchdog, InvalidUserLength}
use Rattle.faults.specs.declared.state.State.{State}
use Rattle.faults.specs.declared.state.State.TheVariants as s
use Rattle.frame.specs.Commands.{command}
use Rattle.frame.specs.Reading.{command_octet, body, padded, id}
use Rattle.frame.specs.declared.command.Command.{Command}
use Rattle.frame.specs.declared.command.Command.TheVariants as c
use Rattle.chain.specs.Numbers.{fresh, is_right}
use Rattle.profile.specs.declared.profile.Profile.{Ghosts}
use Rattle.profile.specs.declared.verdict.Verdict.TheVariants.{Accepted}
use Rattle.profile.specs.Verdicts as verdicts
use Rattle.shared_end.specs.declared.link.Link.{Link}
use Rattle.shared_end.specs.declared.step.Act.TheVariants as a
use Rattle.shared_end.specs.Endpoints.{width}
use Rattle.shared_end.specs.Outcomes.{unless, Outcome, fault}
use Rattle.inlet.specs.declared.Inlet.{Inlet}
use Rattle.slave_end.specs.declared.slave.Slave.{Slave}
use Rattle.inlet.specs.Storing.{word}
use Rattle.inlet.specs.Steps.{echoed, answered, reset_answered, session_answered, data_answered, data_taken}
use Rattle.inlet.specs.Outcomes.{judgement, outcome}
use Rattle.slave_end.specs.Matching.{asked}

-- the outcome, by the state, the kind of the frame and its data octets
pub asked_is : {T P : Type 0} (p : Ghosts P) (e : Slave T P) (f : List ℕ) (n : ℕ) (st : State) (k : Option Command) (piece : List ℕ) →
    e.endpoint.state ≡ st → command (command_octet f) ≡ k → padded (body (width e.endpoint) f) ≡ piece →
    asked p e f n ≡ outcome p e.endpoint.link e.inlet f piece st n k
asked_is p e f n st k piece is_state is-kind is-piece =
    (λ i. outcome p e.endpoint.link e.inlet f (is-piece i) (is_state i) n (is-kind i))

module _ {P : Type 0} (p : Ghosts P) (l : Link) (x : Inlet) (f piece : List ℕ) (n : ℕ) where
  abbrev d : ℕ
  d = l.size.octets

  -- Reset and Session frames by fresh numbers
  pub on_reset : (st : State) → is_right fresh d f ≡ true → outcome p l x f piece st n (Some c.Reset) ≡ reset_answered l x f
  on_reset st right = cond-true (is_right fresh d f) (reset_answered l x f) (fault InvalidCrc) right

  pub on_session : (st : State) → is_right fresh d f ≡ true → outcome p l x f piece st n (Some c.Session) ≡ session_answered l x f n
  on_session st right = cond-true (is_right fresh d f) (session_answered l x f n) (fault InvalidCrc) right

  module _ (right : is_right l.numbers d f ≡ true) where
    if_right : (o : Outcome Inlet) → cond (is_right l.numbers d f) o (fault InvalidCrc) ≡ o
    if_right o = cond-true (is_right l.numbers d f) o (fault InvalidCrc) right

    -- the first piece of the connection block
    pub on_first_connection : (i : ℕ) → 1 ≤ i → id d f ≡ i → word piece 0 ≡ i →
        outcome p l x f piece s.Session n (Some c.Connection) ≡ echoed l x f s.Connection c.Connection i 0 piece
    on_first_connection i some is same =
        let not_zero : not (eqb (id d f) 0) ≡ true = ap not (ne_eqb (id d f) 0 (λ z. omega (arith, z, is))) in
        let met : (not (eqb (id d f) 0) && eqb (id d f) (word piece 0)) ≡ true = and_from _ _ not_zero (eq-eqb _ _ (is ∙ sym same)) in
        cond-true _ (answered l x f s.Connection c.Connection (id d f) 0 piece) (fault InvalidConnectionId) met
        ∙ if_right (echoed l x f s.Connection c.Connection (id d f) 0 piece)
        ∙ ap (λ j. echoed l x f s.Connection c.Connection j 0 piece) is

    -- a further piece of a block of so many octets
    further : (st : State) (k : Command) (i total at : ℕ) → at < total → x.stored ≡ at → x.id ≡ i → id d f ≡ i →
        cond (ltb x.stored total) (cond (eqb (id d f) x.id) (answered l x f st k x.id x.stored piece) (fault InvalidConnectionId)) (fault InvalidCommand)
        ≡ echoed l x f st k i at piece
    further st k i total at more is-stored kept is =
        cond-true (ltb x.stored total) (cond (eqb (id d f) x.id) (answered l x f st k x.id x.stored piece) (fault InvalidConnectionId)) (fault InvalidCommand) (lt-ltb x.stored total (omega (arith, is-stored)))
        ∙ cond-true (eqb (id d f) x.id) (answered l x f st k x.id x.stored piece) (fault InvalidConnectionId) (eq-eqb _ _ (is ∙ sym kept))
        ∙ if_right (echoed l x f st k x.id x.stored piece)
        ∙ (λ j. echoed l x f st k (kept j) (is-stored j) piece)

    pub on_next_connection : (i at : ℕ) → at < 4 → x.stored ≡ at → x.id ≡ i → id d f ≡ i →
        outcome p l x f piece s.Connection n (Some c.Connection) ≡ echoed l x f s.Connection c.Connection i at piece
    on_next_connection i at = further s.Connection c.Connection i 4 at

    pub on_next_parameter : (i at : ℕ) → at < 6 + p.USER_OCTETS → x.stored ≡ at → x.id ≡ i → id d f ≡ i →
        outcome p l x f piece s.Parameter n (Some c.Parameter) ≡ echoed l x f s.Parameter c.Parameter i at piece
    on_next_parameter i at = further s.Parameter c.Parameter i (6 + p.USER_OCTETS) at

    -- the first piece of the parameter block
    pub on_first_parameter : (i : ℕ) → 4 ≤ x.stored → x.id ≡ i → id d f ≡ i → word x.block 2 ≡ x.address →
        outcome p l x f piece s.Connection n (Some c.Parameter) ≡ echoed l x f s.Parameter c.Parameter i 0 piece
    on_first_parameter i done kept is mine =
        let o : Outcome Inlet = answered l x f s.Parameter c.Parameter x.id 0 piece in
        let q : Outcome Inlet = cond (eqb (word x.block 2) x.address) o (fault InvalidAddress) in
        cond-false (ltb x.stored 4) (fault InvalidCommand) (cond (eqb (id d f) x.id) q (fault InvalidConnectionId)) (le-ltb x.stored 4 done)
        ∙ cond-true (eqb (id d f) x.id) q (fault InvalidConnectionId) (eq-eqb _ _ (is ∙ sym kept))
        ∙ cond-true (eqb (word x.block 2) x.address) o (fault InvalidAddress) (eq-eqb _ _ mine)
        ∙ if_right (echoed l x f s.Parameter c.Parameter x.id 0 piece)
        ∙ ap (λ j. echoed l x f s.Parameter c.Parameter j 0 piece) kept

    -- the first data frame, behind a parameter block in which nothing is wrong
    pub on_first_data : (w : ℕ) → 6 + p.USER_OCTETS ≤ x.stored → id d f ≡ x.id → word x.block 0 ≡ 2 → word x.block 2 ≡ w →
        p.LOWEST_WATCHDOG ≤ w → w ≤ p.HIGHEST_WATCHDOG → word x.block 4 ≡ p.USER_OCTETS →
        p.judged (take p.USER_OCTETS (drop 6 x.block)) ≡ Accepted →
        outcome p l x f piece s.Parameter n (Some c.ProcessData) ≡ data_answered l x f (a.Release piece) (word x.block 2)
    on_first_data w done is two time lowest highest count accepted =
        let low : leb p.LOWEST_WATCHDOG (word x.block 2) ≡ true = le-leb _ _ (omega (arith, time, lowest)) in
        let high : leb (word x.block 2) p.HIGHEST_WATCHDOG ≡ true = le-leb _ _ (omega (arith, time, highest)) in
        let e₁ : ltb x.stored (6 + p.USER_OCTETS) ≡ false = le-ltb _ _ done in
        let e₂ : not (eqb (id d f) x.id) ≡ false = ap not (eq-eqb _ _ is) in
        let e₃ : not (eqb (word x.block 0) 2) ≡ false = ap not (eq-eqb _ _ two) in
        let e₄ : not (leb p.LOWEST_WATCHDOG (word x.block 2) && leb (word x.block 2) p.HIGHEST_WATCHDOG) ≡ false = ap not (and_from _ _ low high) in
        let e₅ : not (eqb (word x.block 4) p.USER_OCTETS) ≡ false = ap not (eq-eqb _ _ count) in
        let e₆ : judgement p x ≡ None = ap verdicts.fault accepted in
        (λ i. unless
        (cond (e₁ i) (Some InvalidCommand) (cond (e₂ i) (Some InvalidConnectionId) (cond (e₃ i) (Some InvalidParameterLength)
        (cond (e₄ i) (Some InvalidWatchdog) (cond (e₅ i) (Some InvalidUserLength) (e₆ i))))))
        (data_taken l x f (a.Release piece) (word x.block 2)))
        ∙ if_right (data_answered l x f (a.Release piece) (word x.block 2))
