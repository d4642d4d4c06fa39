-- The journal tells every fault. Assumes nothing.
use Rattle.std.specs.Prelude.{List, [], ◌∷◌, Some, None, Option}
use Rattle.faults.specs.declared.line.Line.{Line}
use Rattle.journal.specs.declared.calls.Call.{Call}
use Rattle.journal.specs.declared.calls.Call.TheVariants.{ReadOut, Put}
use Rattle.journal.specs.declared.queue.Journal.{Journal}
use Rattle.journal.specs.Runs.{Kept}
use Rattle.history.specs.Events.{Event, line, frame, tick, reset, set, feedback, read_out}

abbrev pub put : Option Line → List (Call Line) → List (Call Line)
put None calls = calls
put (Some l) calls = Put l ∷ calls

-- the lines of the faults and the read-outs of a history, as the journal met them, the latest first
abbrev pub met : List Event → List (Call Line)
met [] = []
met (frame o n r ∷ es) = put (line (frame o n r)) (met es)
met (tick r ∷ es) = put (line (tick r)) (met es)
met (reset r ∷ es) = put (line (reset r)) (met es)
met (set o c r ∷ es) = met es
met (feedback w ∷ es) = met es
met (read_out l ∷ es) = ReadOut l ∷ met es

-- the lines read out, then those held, are the lines of the faults in order, without those that met a full journal; the
-- missed count is the number of these, up to where it stops
abbrev pub Told : List Event → Journal Line → Type 0
Told es j = Kept (met es) j
