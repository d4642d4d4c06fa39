-- What a frame can come to at a master: every outcome is one of a few kinds. Assumes nothing.
use Rattle.std.proofs.Common.{◌≡◌, ℕ, ◌+◌, true, false, ltb, List, Some, None, Option}
use Rattle.std.proofs.lemmas.Bool.{cond_both}
use Rattle.faults.specs.declared.fault.Fault.{Fault}
use Rattle.faults.specs.declared.fault.Fault.TheVariants.{InvalidCommand, UnknownCommand}
use Rattle.faults.specs.declared.state.State.{State}
use Rattle.faults.specs.declared.state.State.TheVariants as s
use Rattle.frame.specs.declared.command.Command.{Command}
use Rattle.frame.specs.declared.command.Command.TheVariants as c
use Rattle.chain.specs.declared.numbers.Numbers.{Numbers}
use Rattle.plan.specs.declared.sealed_plan.SealedPlan.{SealedPlan}
use Rattle.shared_end.specs.declared.data_command.DataCommand.{DataCommand}
use Rattle.shared_end.specs.declared.link.Link.{Link}
use Rattle.shared_end.specs.declared.step.Act.{Act}
use Rattle.shared_end.specs.declared.step.Act.TheVariants as a
use Rattle.shared_end.specs.Outcomes.{unless, Outcome, taken, fault, Message}
use Rattle.shared_end.proofs.Unless.{unless_both}
use Rattle.history.proofs.Taking.{relinked, Tells, process_data, fail_safe_data}
use Rattle.outlet.specs.declared.Outlet.{Outlet}
use Rattle.outlet.specs.declared.blocks.Block.TheVariants as b
use Rattle.outlet.specs.Steps.{with_at, piece_out, data_out, behind, next_out, read, crc_fault, id_fault, answer_fault}
use Rattle.outlet.specs.Outcomes as outcomes
use Rattle.outlet.specs.Outcomes.{outcome}

module _ (l : Link) (o : Outlet) (p : SealedPlan) (octets piece : List ℕ) where
  abbrev d : ℕ
  d = l.size.octets

  abbrev total : ℕ
  total = 6 + p.draft.user_octets

  -- every frame that goes out starts the watchdog time anew
  abbrev again : Numbers → List ℕ → DataCommand → Link
  again ns os cm = relinked l ns os cm l.watchdog l.watchdog

  pub data Move : State → Option Command → Outcome Outlet → Type 0 where
    broken : {st : State} {k : Option Command} (f : Fault) → Move st k (fault f)
    reset : {st : State} (msg : Message) (ns : Numbers) (os : List ℕ) (cm : DataCommand) →
        Move st (Some c.Reset) (taken s.Session a.Clear msg (again ns os cm) o)
    session : (msg : Message) (ns : Numbers) (os : List ℕ) (cm : DataCommand) →
        Move s.Session (Some c.Session) (taken s.Connection a.Keep msg (again ns os cm) (with_at o 0))
    next_connection : (msg : Message) (ns : Numbers) (os : List ℕ) (cm : DataCommand) → ltb (o.at + d) 4 ≡ true →
        Move s.Connection (Some c.Connection) (taken s.Connection a.Keep msg (again ns os cm) (with_at o (o.at + d)))
    first_parameter : (msg : Message) (ns : Numbers) (os : List ℕ) (cm : DataCommand) → ltb (o.at + d) 4 ≡ false →
        Move s.Connection (Some c.Connection) (taken s.Parameter a.Keep msg (again ns os cm) (with_at o 0))
    next_parameter : (msg : Message) (ns : Numbers) (os : List ℕ) (cm : DataCommand) → ltb (o.at + d) total ≡ true →
        Move s.Parameter (Some c.Parameter) (taken s.Parameter a.Keep msg (again ns os cm) (with_at o (o.at + d)))
    first_data : (msg : Message) (ns : Numbers) (os : List ℕ) (cm : DataCommand) → ltb (o.at + d) total ≡ false →
        Move s.Parameter (Some c.Parameter) (taken s.Data a.Keep msg (again ns os cm) o)
    next_data : {k : Command} {act : Act} (msg : Message) (ns : Numbers) (os : List ℕ) (cm : DataCommand) → Tells piece k act →
        Move s.Data (Some k) (taken s.Data act msg (again ns os cm) o)

  unfaulted : {st : State} {k : Option Command} (q : Option Fault) (out : Outcome Outlet) → Move st k out → Move st k (unless q out)
  unfaulted {st} {k} q out h = unless_both (Move st k) q out broken (λ e. h)

  abbrev r : Link
  r = read l o p octets

  on_session : (st : State) → Move st (Some c.Session) (outcomes.on_session l o p octets piece st)
  on_session s.Reset = broken InvalidCommand
  on_session s.Session = unfaulted (crc_fault l o p octets) (piece_out r o p b.Connection 0) (session _ _ _ _)
  on_session s.Connection = broken InvalidCommand
  on_session s.Parameter = broken InvalidCommand
  on_session s.Data = broken InvalidCommand

  on_connection : (st : State) → Move st (Some c.Connection) (outcomes.on_connection l o p octets piece st)
  on_connection s.Reset = broken InvalidCommand
  on_connection s.Session = broken InvalidCommand
  on_connection s.Connection =
      unfaulted (answer_fault l o p octets b.Connection piece) (next_out r o p b.Connection)
      (cond_both (ltb (o.at + d) 4) (piece_out r o p b.Connection (o.at + d)) (behind r o p b.Connection) (Move s.Connection (Some c.Connection))
      (λ h. next_connection _ _ _ _ h) (λ h. first_parameter _ _ _ _ h))
  on_connection s.Parameter = broken InvalidCommand
  on_connection s.Data = broken InvalidCommand

  on_parameter : (st : State) → Move st (Some c.Parameter) (outcomes.on_parameter l o p octets piece st)
  on_parameter s.Reset = broken InvalidCommand
  on_parameter s.Session = broken InvalidCommand
  on_parameter s.Connection = broken InvalidCommand
  on_parameter s.Parameter =
      unfaulted (answer_fault l o p octets b.Parameter piece) (next_out r o p b.Parameter)
      (cond_both (ltb (o.at + d) total) (piece_out r o p b.Parameter (o.at + d)) (behind r o p b.Parameter) (Move s.Parameter (Some c.Parameter))
      (λ h. next_parameter _ _ _ _ h) (λ h. first_data _ _ _ _ h))
  on_parameter s.Data = broken InvalidCommand

  on_data : (st : State) (k : Command) (act : Act) → Tells piece k act → Move st (Some k) (outcomes.on_data l o p octets piece st act)
  on_data s.Reset k act tells = broken InvalidCommand
  on_data s.Session k act tells = broken InvalidCommand
  on_data s.Connection k act tells = broken InvalidCommand
  on_data s.Parameter k act tells = broken InvalidCommand
  on_data s.Data k act tells = unfaulted (id_fault l o p octets (crc_fault l o p octets)) (data_out r o p act) (next_data _ _ _ _ tells)

  pub move : (st : State) (session_number : ℕ) (k : Option Command) → Move st k (outcome l o p octets piece st session_number k)
  move st n (Some c.Reset) = reset _ _ _ _
  move st n (Some c.Session) = on_session st
  move st n (Some c.Connection) = on_connection st
  move st n (Some c.Parameter) = on_parameter st
  move st n (Some c.ProcessData) = on_data st c.ProcessData (a.Release piece) process_data
  move st n (Some c.FailSafeData) = on_data st c.FailSafeData a.Clear fail_safe_data
  move st n None = broken UnknownCommand
