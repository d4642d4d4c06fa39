-- The data frames of an end. Assumes nothing.
use Rattle.std.specs.Prelude.{ℕ, List, replicate}
use Rattle.frame.specs.Commands.{octet}
use Rattle.frame.specs.declared.outgoing.Outgoing.{Outgoing}
use Rattle.chain.specs.Written.{Written}
use Rattle.frame.specs.declared.command.Command.{Command}
use Rattle.frame.specs.declared.command.Command.TheVariants as c
use Rattle.shared_end.specs.declared.link.Link.{Link}
use Rattle.shared_end.specs.Link.{after-writing}
use Rattle.shared_end.specs.declared.data_command.DataCommand.{DataCommand}
use Rattle.shared_end.specs.declared.data_command.DataCommand.TheVariants.{ProcessData, FailSafeData}

abbrev pub frame-command : DataCommand → Command
frame-command ProcessData = c.ProcessData
frame-command FailSafeData = c.FailSafeData

-- what a data frame carries: the octets set, or zeros for the safe state
abbrev pub carried : DataCommand → List ℕ → List ℕ
carried ProcessData outputs = outputs
carried FailSafeData outputs = replicate 32 0

-- the data frame that a link writes next, and the link after it
abbrev pub DataWritten : Link → (id : ℕ) → Outgoing → Type 0
DataWritten l id = Written l.numbers l.size id (octet (frame-command l.command)) (carried l.command l.outputs)

abbrev pub after-data : Link → (id : ℕ) → Link
after-data l id = after-writing l id (frame-command l.command) (carried l.command l.outputs)
