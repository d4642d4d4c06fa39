-- What a frame comes to at a master, by its state and the kind of the frame. Assumes nothing.
use Rattle.std.specs.Prelude.{ℕ, List, Some, None, Option}
use Rattle.faults.specs.declared.fault.Fault.TheVariants.{InvalidCommand, UnknownCommand}
use Rattle.faults.specs.declared.state.State.{State}
use Rattle.faults.specs.declared.state.State.TheVariants as s
use Rattle.frame.specs.declared.command.Command.{Command}
use Rattle.frame.specs.declared.command.Command.TheVariants as c
use Rattle.plan.specs.declared.sealed_plan.SealedPlan.{SealedPlan}
use Rattle.shared_end.specs.Outcomes.{Outcome, fault}
use Rattle.shared_end.specs.declared.link.Link.{Link}
use Rattle.shared_end.specs.declared.step.Act.{Act}
use Rattle.shared_end.specs.declared.step.Act.TheVariants as a
use Rattle.outlet.specs.declared.Outlet.{Outlet}
use Rattle.outlet.specs.declared.blocks.Block.TheVariants as b
use Rattle.outlet.specs.Steps.{reset_taken, session_taken, piece_taken, data_taken}

module _ (l : Link) (o : Outlet) (p : SealedPlan) (octets piece : List ℕ) where
  abbrev pub on_session : State → Outcome Outlet
  on_session s.Reset = fault InvalidCommand
  on_session s.Session = session_taken l o p octets
  on_session s.Connection = fault InvalidCommand
  on_session s.Parameter = fault InvalidCommand
  on_session s.Data = fault InvalidCommand

  abbrev pub on_connection : State → Outcome Outlet
  on_connection s.Reset = fault InvalidCommand
  on_connection s.Session = fault InvalidCommand
  on_connection s.Connection = piece_taken l o p octets b.Connection piece
  on_connection s.Parameter = fault InvalidCommand
  on_connection s.Data = fault InvalidCommand

  abbrev pub on_parameter : State → Outcome Outlet
  on_parameter s.Reset = fault InvalidCommand
  on_parameter s.Session = fault InvalidCommand
  on_parameter s.Connection = fault InvalidCommand
  on_parameter s.Parameter = piece_taken l o p octets b.Parameter piece
  on_parameter s.Data = fault InvalidCommand

  abbrev pub on_data : State → Act → Outcome Outlet
  on_data s.Reset act = fault InvalidCommand
  on_data s.Session act = fault InvalidCommand
  on_data s.Connection act = fault InvalidCommand
  on_data s.Parameter act = fault InvalidCommand
  on_data s.Data act = data_taken l o p octets act

  -- by the kind of the frame, or none if it is unknown
  abbrev pub outcome : State → (session : ℕ) → Option Command → Outcome Outlet
  outcome s x (Some c.Reset) = reset_taken l o x
  outcome s x (Some c.Session) = on_session s
  outcome s x (Some c.Connection) = on_connection s
  outcome s x (Some c.Parameter) = on_parameter s
  outcome s x (Some c.ProcessData) = on_data s (a.Release piece)
  outcome s x (Some c.FailSafeData) = on_data s a.Clear
  outcome s x None = fault UnknownCommand
