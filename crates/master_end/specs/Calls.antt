-- What the calls of a master do, over a sink. Assumes nothing.
use Rattle.std.specs.Prelude.{◌≡◌, ℕ, Bool, true, List, Some, None, Ok, Err, Result}
use Rattle.codes.specs.declared.refusal.Refusal.{Refusal}
use Rattle.faults.specs.declared.line.Line.{Line}
use Rattle.plan.specs.declared.sealed_plan.SealedPlan.{SealedPlan}
use Rattle.journal.specs.declared.queue.Journal.{Journal}
use Rattle.sink.specs.declared.Sink.{Ghosts}
use Rattle.shared_end.specs.Calls as calls
use Rattle.shared_end.specs.Calls.{unfit, Untouched, Framed, Holding}
use Rattle.shared_end.specs.Endpoints as endpoints
use Rattle.shared_end.specs.declared.answer.Answer.{Answer}
use Rattle.shared_end.specs.declared.answer.FrameAnswer.{FrameAnswer}
use Rattle.shared_end.specs.declared.data_command.DataCommand.{DataCommand}
use Rattle.master_end.specs.declared.master.Master.{Master}
use Rattle.master_end.specs.Matching.{asked}

module _ {S : Type 0} where
  abbrev pub holding : Holding S (Master S)
  holding = record {
    endpoint = λ e. e.endpoint;
    with_endpoint = λ e c. record { endpoint = c; outlet = e.outlet; plan = e.plan };
  }

  abbrev pub Sets : Master S → List ℕ → DataCommand → Result (Unit {0}) Refusal → Master S → Type 0
  Sets = calls.Sets holding

  module _ (m : Ghosts S) where
    -- a master that was not used yet: made from a plan, a sink and the user octets
    pub record Made (p : SealedPlan) (s : S) (user : List ℕ) (e : Master S) : Type 0 where
      pub endpoint_is : e.endpoint ≡ endpoints.new_endpoint m p.draft.length p.draft.watchdog s
      pub user_is : e.outlet.user.octets ≡ user
      pub at_is : e.outlet.at ≡ 0
      pub plan_is : e.plan ≡ p

    -- the watchdog of a master runs in every state
    abbrev pub Ticks : Master S → List ℕ → Journal Line → Result Answer Refusal → Master S → List ℕ → Journal Line → Type 0
    Ticks = calls.Ticks holding m true

    abbrev pub Resets : Master S → List ℕ → Journal Line → Result Answer Refusal → Master S → List ℕ → Journal Line → Type 0
    Resets = calls.Resets holding m

    abbrev pub told : Master S → Bool → Master S
    told = calls.told holding m

    -- a frame that is accepted comes to its outcome, and the plan is kept; at a refusal all is as it was
    abbrev pub Frames : Master S → (octets : List ℕ) → (session : ℕ) → List ℕ → Journal Line → Result FrameAnswer Refusal → Master S → List ℕ → Journal Line → Type 0
    Frames e octets n reply j (Ok a) e' reply' j' =
        (unfit (endpoints.width e.endpoint) octets reply ≡ None) × (e'.plan ≡ e.plan)
        × Framed m e.endpoint e.outlet octets (asked e octets n) a e'.endpoint e'.outlet reply reply' j j'
    Frames e octets n reply j (Err x) e' reply' j' =
        (unfit (endpoints.width e.endpoint) octets reply ≡ Some x) × Untouched e e' reply reply' j j'
