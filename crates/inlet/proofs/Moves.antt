-- What a frame can come to at a slave: every outcome is one of a few kinds. Assumes nothing.
use Rattle.std.proofs.Common.{◌≡◌, ℕ, ◌+◌, ◌≤◌, Bool, true, false, cond, not, ◌&&◌, eqb, ltb, leb, List, Some, None, Option, refl, rules, leb-true}
use Rattle.std.proofs.lemmas.Bool.{cond_both}
use Rattle.faults.specs.declared.fault.Fault.{Fault}
use Rattle.faults.specs.declared.fault.Fault.TheVariants.{InvalidCommand, UnknownCommand, InvalidConnectionId, InvalidCrc, InvalidAddress, InvalidParameterLength, InvalidWatchdog, InvalidUserLength}
use Rattle.faults.specs.declared.state.State.{State}
use Rattle.faults.specs.declared.state.State.TheVariants as s
use Rattle.frame.specs.Reading.{id}
use Rattle.frame.specs.declared.command.Command.{Command}
use Rattle.frame.specs.declared.command.Command.TheVariants as c
use Rattle.chain.specs.declared.numbers.Numbers.{Numbers}
use Rattle.chain.specs.Numbers.{fresh, is_right}
use Rattle.profile.specs.declared.profile.Profile.{Ghosts}
use Rattle.shared_end.specs.declared.data_command.DataCommand.{DataCommand}
use Rattle.shared_end.specs.declared.link.Link.{Link}
use Rattle.shared_end.specs.declared.step.Act.{Act}
use Rattle.shared_end.specs.declared.step.Act.TheVariants as a
use Rattle.shared_end.specs.Outcomes.{Outcome, taken, fault, Message}
use Rattle.shared_end.proofs.Unless.{unless_both}
use Rattle.history.proofs.Taking.{relinked, Tells, process_data, fail_safe_data}
use Rattle.inlet.specs.declared.Inlet.{Inlet}
use Rattle.inlet.specs.Storing.{word, with_piece}
use Rattle.inlet.specs.Steps.{if_right, if_first, echoed, answered, reset_answered, session_answered, data_answered, data_taken, parameter_fault}
use Rattle.inlet.specs.Outcomes.{limits, judgement, outcome}
use Rattle.inlet.specs.Outcomes as outcomes

module _ {P : Type 0} (p : Ghosts P) (l : Link) (x : Inlet) (octets piece : List ℕ) where
  abbrev total : ℕ
  total = 6 + p.USER_OCTETS

  pub data Move : State → Option Command → Outcome Inlet → Type 0 where
    broken : {st : State} {k : Option Command} (f : Fault) → Move st k (fault f)
    reset : {st : State} (msg : Message) (ns : Numbers) (os : List ℕ) (cm : DataCommand) (w t : ℕ) →
        Move st (Some c.Reset) (taken s.Reset a.Clear msg (relinked l ns os cm w t) x)
    session : {st : State} (msg : Message) (ns : Numbers) (os : List ℕ) (cm : DataCommand) (w t : ℕ) →
        Move st (Some c.Session) (taken s.Session a.Clear msg (relinked l ns os cm w t) x)
    first_connection : (msg : Message) (ns : Numbers) (os : List ℕ) (cm : DataCommand) (w t id : ℕ) →
        Move s.Session (Some c.Connection) (taken s.Connection a.Keep msg (relinked l ns os cm w t) (with_piece x l.size.octets id 0 piece))
    next_connection : (msg : Message) (ns : Numbers) (os : List ℕ) (cm : DataCommand) (w t id : ℕ) → ltb x.stored 4 ≡ true →
        Move s.Connection (Some c.Connection) (taken s.Connection a.Keep msg (relinked l ns os cm w t) (with_piece x l.size.octets id x.stored piece))
    first_parameter : (msg : Message) (ns : Numbers) (os : List ℕ) (cm : DataCommand) (w t id : ℕ) → ltb x.stored 4 ≡ false →
        Move s.Connection (Some c.Parameter) (taken s.Parameter a.Keep msg (relinked l ns os cm w t) (with_piece x l.size.octets id 0 piece))
    next_parameter : (msg : Message) (ns : Numbers) (os : List ℕ) (cm : DataCommand) (w t id : ℕ) → ltb x.stored total ≡ true →
        Move s.Parameter (Some c.Parameter) (taken s.Parameter a.Keep msg (relinked l ns os cm w t) (with_piece x l.size.octets id x.stored piece))
    first_data : {k : Command} {act : Act} (msg : Message) (ns : Numbers) (os : List ℕ) (cm : DataCommand) → Tells piece k act →
        ltb x.stored total ≡ false → p.LOWEST_WATCHDOG ≤ word x.block 2 →
        Move s.Parameter (Some k) (taken s.Data act msg (relinked l ns os cm (word x.block 2) (word x.block 2)) x)
    next_data : {k : Command} {act : Act} (msg : Message) (ns : Numbers) (os : List ℕ) (cm : DataCommand) → Tells piece k act →
        Move s.Data (Some k) (taken s.Data act msg (relinked l ns os cm l.watchdog l.watchdog) x)

-- where no check holds, the first does not
passed : (b : Bool) (f : Fault) (q : Option Fault) → cond b (Some f) q ≡ None → (b ≡ false) × (q ≡ None)
passed true f q h = absurd (search rules)
passed false f q h = (refl, h)

-- nor the fourth of five
passed_all : (b₁ b₂ b₃ b₄ b₅ : Bool) (f₁ f₂ f₃ f₄ f₅ : Fault) (q : Option Fault) →
    cond b₁ (Some f₁) (cond b₂ (Some f₂) (cond b₃ (Some f₃) (cond b₄ (Some f₄) (cond b₅ (Some f₅) q)))) ≡ None → (b₁ ≡ false) × (b₄ ≡ false)
passed_all b₁ b₂ b₃ b₄ b₅ f₁ f₂ f₃ f₄ f₅ q h =
    let one = passed b₁ f₁ _ h in
    let two = passed b₂ f₂ _ one.1 in
    let three = passed b₃ f₃ _ two.1 in
    (one.0, (passed b₄ f₄ _ three.1).0)

first_holds : (b d : Bool) → not (b && d) ≡ false → b ≡ true
first_holds true d h = refl
first_holds false d h = absurd (search rules)

module _ {P : Type 0} (p : Ghosts P) (l : Link) (x : Inlet) (octets piece : List ℕ) where
  abbrev At : State → Option Command → Outcome Inlet → Type 0
  At = Move p l x octets piece

  -- a check that fails is a fault
  checked : {st : State} {k : Option Command} (b : Bool) (o : Outcome Inlet) (f : Fault) → (b ≡ true → At st k o) → At st k (cond b o (fault f))
  checked {st} {k} b o f h = cond_both b o (fault f) (At st k) h (λ e. broken f)

  abbrev d : ℕ
  d = l.size.octets

  right_first : {st : State} {k : Option Command} (o : Outcome Inlet) → At st k o → At st k (if_first l x octets o)
  right_first o h = checked (is_right fresh d octets) o InvalidCrc (λ r. h)

  right : {st : State} {k : Option Command} (o : Outcome Inlet) → At st k o → At st k (if_right l x octets o)
  right o h = checked (is_right l.numbers d octets) o InvalidCrc (λ r. h)

  -- the ID of the frame is the one that was kept
  same_id : {st : State} {k : Option Command} (o : Outcome Inlet) → At st k o → At st k (cond (eqb (id d octets) x.id) o (fault InvalidConnectionId))
  same_id o h = checked (eqb (id d octets) x.id) o InvalidConnectionId (λ i. h)

  -- a parameter block in which nothing is wrong
  first_data_at : (k : Command) (act : Act) → Tells piece k act → parameter_fault l x octets (limits p) (judgement p x) ≡ None →
      At s.Parameter (Some k) (data_answered l x octets act (word x.block 2))
  first_data_at k act tells h =
      let all = passed_all (ltb x.stored (6 + p.USER_OCTETS)) (not (eqb (id d octets) x.id)) (not (eqb (word x.block 0) 2))
      (not (leb p.LOWEST_WATCHDOG (word x.block 2) && leb (word x.block 2) p.HIGHEST_WATCHDOG)) (not (eqb (word x.block 4) p.USER_OCTETS))
      InvalidCommand InvalidConnectionId InvalidParameterLength InvalidWatchdog InvalidUserLength (judgement p x) h in
      first_data _ _ _ _ tells all.0
      (leb-true p.LOWEST_WATCHDOG (word x.block 2) (first_holds (leb p.LOWEST_WATCHDOG (word x.block 2)) (leb (word x.block 2) p.HIGHEST_WATCHDOG) all.1))

  on_data : (st : State) (k : Command) (act : Act) → Tells piece k act → At st (Some k) (outcomes.on_data p l x octets piece st act)
  on_data s.Reset k act tells = broken InvalidCommand
  on_data s.Session k act tells = broken InvalidCommand
  on_data s.Connection k act tells = broken InvalidCommand
  on_data s.Parameter k act tells =
      unless_both (At s.Parameter (Some k)) (parameter_fault l x octets (limits p) (judgement p x)) (data_taken l x octets act (word x.block 2)) broken
      (λ h. right (data_answered l x octets act (word x.block 2)) (first_data_at k act tells h))
  on_data s.Data k act tells =
      same_id (data_taken l x octets act l.watchdog) (right (data_answered l x octets act l.watchdog) (next_data _ _ _ _ tells))

  on_connection : (st : State) → At st (Some c.Connection) (outcomes.on_connection p l x octets piece st)
  on_connection s.Reset = broken InvalidCommand
  on_connection s.Session =
      checked (not (eqb (id d octets) 0) && eqb (id d octets) (word piece 0)) (answered l x octets s.Connection c.Connection (id d octets) 0 piece) InvalidConnectionId
      (λ i. right (echoed l x octets s.Connection c.Connection (id d octets) 0 piece) (first_connection _ _ _ _ _ _ _))
  on_connection s.Connection =
      let o : Outcome Inlet = answered l x octets s.Connection c.Connection x.id x.stored piece in
      checked (ltb x.stored 4) (cond (eqb (id d octets) x.id) o (fault InvalidConnectionId)) InvalidCommand
      (λ h. same_id o (right (echoed l x octets s.Connection c.Connection x.id x.stored piece) (next_connection _ _ _ _ _ _ _ h)))
  on_connection s.Parameter = broken InvalidCommand
  on_connection s.Data = broken InvalidCommand

  on_parameter : (st : State) → At st (Some c.Parameter) (outcomes.on_parameter p l x octets piece st)
  on_parameter s.Reset = broken InvalidCommand
  on_parameter s.Session = broken InvalidCommand
  on_parameter s.Connection =
      let o : Outcome Inlet = answered l x octets s.Parameter c.Parameter x.id 0 piece in
      let q : Outcome Inlet = cond (eqb (word x.block 2) x.address) o (fault InvalidAddress) in
      cond_both (ltb x.stored 4) (fault InvalidCommand) (cond (eqb (id d octets) x.id) q (fault InvalidConnectionId)) (At s.Connection (Some c.Parameter))
      (λ h. broken InvalidCommand) (λ h. same_id q (checked (eqb (word x.block 2) x.address) o InvalidAddress
      (λ n. right (echoed l x octets s.Parameter c.Parameter x.id 0 piece) (first_parameter _ _ _ _ _ _ _ h))))
  on_parameter s.Parameter =
      let o : Outcome Inlet = answered l x octets s.Parameter c.Parameter x.id x.stored piece in
      checked (ltb x.stored (6 + p.USER_OCTETS)) (cond (eqb (id d octets) x.id) o (fault InvalidConnectionId)) InvalidCommand
      (λ h. same_id o (right (echoed l x octets s.Parameter c.Parameter x.id x.stored piece) (next_parameter _ _ _ _ _ _ _ h)))
  on_parameter s.Data = broken InvalidCommand

  pub move : (st : State) (session_number : ℕ) (k : Option Command) → At st k (outcome p l x octets piece st session_number k)
  move st n (Some c.Reset) = right_first (reset_answered l x octets) (reset _ _ _ _ _ _)
  move st n (Some c.Session) = right_first (session_answered l x octets n) (session _ _ _ _ _ _)
  move st n (Some c.Connection) = on_connection st
  move st n (Some c.Parameter) = on_parameter st
  move st n (Some c.ProcessData) = on_data st c.ProcessData (a.Release piece) process_data
  move st n (Some c.FailSafeData) = on_data st c.FailSafeData a.Clear fail_safe_data
  move st n None = broken UnknownCommand
