-- All that code over any sink may rest on, by the sink's ghost members. Assumes nothing.
use Rattle.std.specs.Prelude.{ℕ, List}
use Rattle.sink.specs.Octets.{Within}
use Rattle.sink.specs.Effects.{Effects}
use Rattle.sink.specs.declared.Sink.{Ghosts}

pub record Lawful {S : Type 0} (m : Ghosts S) : Type 0 where
  pub effects : Effects m.shown m.up m.would m.released m.cleared m.told
  pub within : (s : S) (o : List ℕ) → Within (m.would s o) o
