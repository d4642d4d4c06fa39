-- The outputs of a bank, and a new bank. Assumes nothing.
use Rattle.std.specs.Prelude.{ℕ, true, List}
use Rattle.sink.specs.Octets.{zeros}
use Rattle.sinks.specs.declared.bank.Whole.{Whole}
use Rattle.sinks.specs.declared.stage.Stage.{Stage}

-- outputs that show these octets
abbrev pub whole : List ℕ → Whole
whole octets = record { octets = octets }

abbrev pub new_bank : Stage Whole
new_bank = record { outputs = whole zeros; up = true }
