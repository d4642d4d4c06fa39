-- What a frame comes to at a slave, by its state and the kind of the frame. Assumes nothing.
use Rattle.std.specs.Prelude.{ℕ, ◌+◌, List, take, drop, Some, None, Option}
use Rattle.faults.specs.declared.fault.Fault.{Fault}
use Rattle.faults.specs.declared.fault.Fault.TheVariants.{InvalidCommand, UnknownCommand}
use Rattle.faults.specs.declared.state.State.{State}
use Rattle.faults.specs.declared.state.State.TheVariants as s
use Rattle.frame.specs.declared.command.Command.{Command}
use Rattle.frame.specs.declared.command.Command.TheVariants as c
use Rattle.profile.specs.declared.profile.Profile.{Ghosts}
use Rattle.profile.specs.Verdicts as verdicts
use Rattle.shared_end.specs.Outcomes.{Outcome, fault}
use Rattle.shared_end.specs.declared.link.Link.{Link}
use Rattle.shared_end.specs.declared.step.Act.{Act}
use Rattle.shared_end.specs.declared.step.Act.TheVariants as a
use Rattle.inlet.specs.declared.Inlet.{Inlet}
use Rattle.inlet.specs.declared.Limits.{Limits}
use Rattle.inlet.specs.Steps.{first_connection, next_piece, first_parameter, reset_taken, session_taken, next_data, first_data}

module _ {P : Type 0} (m : Ghosts P) where
  -- the numbers of the profile
  abbrev pub limits : Limits
  limits = record { user_octets = m.USER_OCTETS; lowest = m.LOWEST_WATCHDOG; highest = m.HIGHEST_WATCHDOG }

  -- the fault that the profile's verdict on the stored user octets is
  abbrev pub judgement : Inlet → Option Fault
  judgement x = verdicts.fault (m.judged (take m.USER_OCTETS (drop 6 x.block)))

  module _ (l : Link) (x : Inlet) (octets piece : List ℕ) where
    abbrev pub on_connection : State → Outcome Inlet
    on_connection s.Reset = fault InvalidCommand
    on_connection s.Session = first_connection l x octets piece
    on_connection s.Connection = next_piece l x octets s.Connection c.Connection 4 piece
    on_connection s.Parameter = fault InvalidCommand
    on_connection s.Data = fault InvalidCommand

    -- the parameter block has 6 octets and the profile's user octets
    abbrev pub next_parameter : Outcome Inlet
    next_parameter = next_piece l x octets s.Parameter c.Parameter (6 + m.USER_OCTETS) piece

    abbrev pub on_parameter : State → Outcome Inlet
    on_parameter s.Reset = fault InvalidCommand
    on_parameter s.Session = fault InvalidCommand
    on_parameter s.Connection = first_parameter l x octets piece
    on_parameter s.Parameter = next_parameter
    on_parameter s.Data = fault InvalidCommand

    abbrev pub on_data : State → Act → Outcome Inlet
    on_data s.Reset act = fault InvalidCommand
    on_data s.Session act = fault InvalidCommand
    on_data s.Connection act = fault InvalidCommand
    on_data s.Parameter act = first_data l x octets limits (judgement x) act
    on_data s.Data act = next_data l x octets act

    -- by the kind of the frame, or none if it is unknown
    abbrev pub outcome : State → (session : ℕ) → Option Command → Outcome Inlet
    outcome s n (Some c.Reset) = reset_taken l x octets
    outcome s n (Some c.Session) = session_taken l x octets n
    outcome s n (Some c.Connection) = on_connection s
    outcome s n (Some c.Parameter) = on_parameter s
    outcome s n (Some c.ProcessData) = on_data s (a.Release piece)
    outcome s n (Some c.FailSafeData) = on_data s a.Clear
    outcome s n None = fault UnknownCommand
