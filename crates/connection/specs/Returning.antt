-- A connection comes back after a reset of its master. Assumes nothing.
use Rattle.std.specs.Prelude.{◌≡◌, ℕ, ◌+◌, ◌-◌, ◌<◌, ◌≤◌, true, List, ◌++◌, replicate}
use Rattle.length.specs.Lawful.{exchanges}
use Rattle.sink.specs.declared.Sink as sink
use Rattle.sink.specs.Octets.{zeros}
use Rattle.profile.specs.declared.profile.Profile as profile
use Rattle.shared_end.specs.Endpoints.{width}
use Rattle.master_end.specs.declared.master.Master.{Master}
use Rattle.slave_end.specs.declared.slave.Slave.{Slave}
use Rattle.connection.specs.Fits.{Fits}
use Rattle.connection.specs.Exchanges.{Pair, Exchanged, Undisturbed}

-- how many exchanges it takes
abbrev pub needed : {S : Type 0} → Master S → ℕ
needed e = exchanges (width e.endpoint) e.plan.draft.user_octets

-- the octets set at a master, with zeros behind them
abbrev pub whole : {S : Type 0} → Master S → List ℕ → List ℕ
whole e octets = octets ++ replicate (32 - width e.endpoint) 0

module _ {S T P : Type 0} (m : sink.Ghosts S) (t : sink.Ghosts T) (p : profile.Ghosts P) (e : Master S) (f : Slave T P) where
  -- after each exchange but the last the slave's sink shows zeros; after the last it shows what it would show, judged before
  -- it, for the octets set at the master
  pub record Returns (octets : List ℕ) : Type 0 where
    pub dark : (k : ℕ) (a : Pair S T P) → Undisturbed m t p octets e f k a → 1 ≤ k → k < needed e → t.shown a.slave.endpoint.sink ≡ zeros
    pub lit : (k : ℕ) (a b : Pair S T P) → Undisturbed m t p octets e f k a → Exchanged m t p a b → k + 1 ≡ needed e →
        t.shown b.slave.endpoint.sink ≡ t.would a.slave.endpoint.sink (whole e octets)

  -- so it is for any two ends that fit, whatever they went through before, if the slave's sink is up
  abbrev pub ComesBack : Type 0
  ComesBack = Fits p e f → t.up f.endpoint.sink ≡ true → (octets : List ℕ) → Returns octets
