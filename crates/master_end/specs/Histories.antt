-- The histories of a master, and where a bit that its sink shows comes from. Assumes nothing.
use Rattle.std.specs.Prelude.{ℕ, true, List}
use Rattle.faults.specs.declared.line.Line.{Line}
use Rattle.plan.specs.declared.sealed_plan.SealedPlan.{SealedPlan}
use Rattle.journal.specs.declared.queue.Journal.{Journal}
use Rattle.journal.specs.Steps as journal
use Rattle.sink.specs.declared.Sink.{Ghosts}
use Rattle.sink.specs.Octets.{Lit}
use Rattle.shared_end.specs.Endpoints.{width}
use Rattle.history.specs.Events.{Event}
use Rattle.history.specs.Requests.{Leads}
use Rattle.history.specs.declared.call.Call.{Call}
use Rattle.history.specs.Histories as histories
use Rattle.history.specs.Live.{Live}
use Rattle.history.specs.Told.{Told}
use Rattle.master_end.specs.declared.master.Master.{Master}
use Rattle.master_end.specs.Calls.{holding, Made, Frames}

module _ {S : Type 0} (m : Ghosts S) where
  -- a master is made from a sealed plan, a sink and the user octets
  pub record Making (e : Master S) : Type 0 where
    pub plan_brought : SealedPlan
    pub sink_brought : S
    pub user_brought : List ℕ
    pub made : Made m plan_brought sink_brought user_brought e

  abbrev pub Did : Event → Master S → Journal Line → Master S → Journal Line → Type 0
  Did = histories.Did holding m (λ e. true) (Frames m)

  abbrev pub History : List Event → Master S → Journal Line → Type 0
  History = histories.History Making Did

  -- in every history, a bit that the sink shows comes from a live connection; the watchdog time is the plan's
  abbrev pub AlwaysLive : Master S → Type 0
  AlwaysLive e =
      (es : List Event) (j : Journal Line) → History es e j → (i k : ℕ) → Lit (m.shown e.endpoint.sink) i k →
      Live (width e.endpoint) e.plan.draft.user_octets (λ parameters. e.plan.draft.watchdog) es i k

  -- in every history, the journal tells every fault
  abbrev pub AlwaysTold : Master S → Journal Line → Type 0
  AlwaysTold e j = (es : List Event) → History es e j → Told es j

  -- a master was made and the calls were made, with a journal that was new; a bit that the master shows then comes from a
  -- live connection of these events, and the journal tells every fault of them
  pub record Whole (p : SealedPlan) (s : S) (user : List ℕ) (calls : List Call) (j : Journal Line) (e : Master S) (j' : Journal Line) : Type 0 where
    pub first : Master S
    pub first_made : Made m p s user first
    pub events : List Event
    pub asked : Leads Did first j calls events e j'
    pub live : (i k : ℕ) → Lit (m.shown e.endpoint.sink) i k →
        Live (width e.endpoint) e.plan.draft.user_octets (λ parameters. e.plan.draft.watchdog) events i k
    pub told : Told events j'

  abbrev pub Runs : SealedPlan → S → (user : List ℕ) → List Call → Journal Line → Master S → Journal Line → Type 0
  Runs p s user calls j e j' = (slice : List Line) → journal.Made slice j → Whole p s user calls j e j'
