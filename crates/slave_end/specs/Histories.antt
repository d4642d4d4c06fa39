-- The histories of a slave, and where a bit that its sink shows comes from. Assumes nothing.
use Rattle.std.specs.Prelude.{◌≡◌, ℕ, List}
use Rattle.faults.specs.declared.line.Line.{Line}
use Rattle.length.specs.declared.DataLength.{DataLength}
use Rattle.journal.specs.declared.queue.Journal.{Journal}
use Rattle.journal.specs.Steps.{Made}
use Rattle.sink.specs.declared.Sink as sink
use Rattle.sink.specs.Octets.{Lit}
use Rattle.profile.specs.declared.profile.Profile as profile
use Rattle.shared_end.specs.Endpoints.{width}
use Rattle.history.specs.Events.{Event}
use Rattle.history.specs.Requests.{Leads}
use Rattle.history.specs.declared.call.Call.{Call}
use Rattle.history.specs.Histories as histories
use Rattle.history.specs.Live.{Live}
use Rattle.history.specs.Told.{Told}
use Rattle.slave_end.specs.declared.slave.Slave.{Slave}
use Rattle.inlet.specs.Storing.{watchdog_in}
use Rattle.slave_end.specs.Calls.{runs, holding, new_slave, Frames}

module _ {S P : Type 0} (m : sink.Ghosts S) (p : profile.Ghosts P) where
  -- a slave is made from a length, an address, a sink and a profile
  pub record Making (e : Slave S P) : Type 0 where
    pub size : DataLength
    pub address : ℕ
    pub sink_brought : S
    pub profile_brought : P
    pub slave_is : e ≡ new_slave m size address sink_brought profile_brought

  abbrev pub Did : Event → Slave S P → Journal Line → Slave S P → Journal Line → Type 0
  Did = histories.Did holding m (λ e. runs e.endpoint.state) (Frames m p)

  abbrev pub History : List Event → Slave S P → Journal Line → Type 0
  History = histories.History Making Did

  -- in every history, a bit that the sink shows comes from a live connection
  abbrev pub AlwaysLive : Slave S P → Type 0
  AlwaysLive e =
      (es : List Event) (j : Journal Line) → History es e j → (i k : ℕ) → Lit (m.shown e.endpoint.sink) i k →
      Live (width e.endpoint) p.USER_OCTETS (watchdog_in (width e.endpoint)) es i k

  -- in every history, the journal tells every fault
  abbrev pub AlwaysTold : Slave S P → Journal Line → Type 0
  AlwaysTold e j = (es : List Event) → History es e j → Told es j

  -- a slave was made and the calls were made, with a journal that was new; a bit that the slave shows then comes from a
  -- live connection of these events, and the journal tells every fault of them
  pub record Whole (size : DataLength) (address : ℕ) (s : S) (r : P) (calls : List Call) (j : Journal Line) (e : Slave S P) (j' : Journal Line) : Type 0 where
    pub events : List Event
    pub asked : Leads Did (new_slave m size address s r) j calls events e j'
    pub live : (i k : ℕ) → Lit (m.shown e.endpoint.sink) i k →
        Live (width e.endpoint) p.USER_OCTETS (watchdog_in (width e.endpoint)) events i k
    pub told : Told events j'

  abbrev pub Runs : DataLength → (address : ℕ) → S → P → List Call → Journal Line → Slave S P → Journal Line → Type 0
  Runs size address s r calls j e j' = (slice : List Line) → Made slice j → Whole size address s r calls j e j'
