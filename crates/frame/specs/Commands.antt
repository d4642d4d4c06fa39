-- The commands of the six kinds of frame. Assumes nothing.
use Rattle.std.specs.Prelude.{◌≡◌, ℕ, cond, List, Some, None, Option, Result, MatchResult, ◌==◌, codes}
use Rattle.frame.specs.declared.command.Command.{Command}
use Rattle.frame.specs.declared.command.Command.TheVariants.{Reset, Session, Connection, Parameter, ProcessData, FailSafeData}
use Rattle.frame.specs.declared.command.UnknownCommand.{UnknownCommand}

abbrev pub octet : Command → ℕ
octet Reset = 0x2A
octet Session = 0x4E
octet Connection = 0x64
octet Parameter = 0x52
octet ProcessData = 0x36
octet FailSafeData = 0x08

-- the command that an octet stands for, if it stands for one
abbrev pub command : ℕ → Option Command
command n =
    cond (n == octet Reset) (Some Reset)
    (cond (n == octet Session) (Some Session)
    (cond (n == octet Connection) (Some Connection)
    (cond (n == octet Parameter) (Some Parameter)
    (cond (n == octet ProcessData) (Some ProcessData)
    (cond (n == octet FailSafeData) (Some FailSafeData) None)))))

-- the result is the command that the octet stands for, or an error with an octet that stands for none
abbrev pub Decodes : ℕ → Result Command UnknownCommand → Type 0
Decodes n r = MatchResult r (λ c. command n ≡ Some c) (λ e. (command n ≡ None) × (e.0 ≡ n))

-- how a command is printed
abbrev pub name : Command → List ℕ
name Reset = codes "Reset"
name Session = codes "Session"
name Connection = codes "Connection"
name Parameter = codes "Parameter"
name ProcessData = codes "ProcessData"
name FailSafeData = codes "FailSafeData"
