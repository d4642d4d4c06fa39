-- The histories of an end and its journal: the making, then any calls. Assumes nothing.
use Rattle.std.specs.Prelude.{◌≡◌, ℕ, Bool, List, [], ◌∷◌, Result}
use Rattle.codes.specs.declared.refusal.Refusal.{Refusal}
use Rattle.faults.specs.declared.line.Line.{Line}
use Rattle.journal.specs.declared.queue.Journal.{Journal}
use Rattle.journal.specs.Steps.{Made, Reading}
use Rattle.sink.specs.declared.Sink.{Ghosts}
use Rattle.shared_end.specs.declared.answer.FrameAnswer.{FrameAnswer}
use Rattle.shared_end.specs.Calls.{Holding, Ticks, Resets, Sets, told}
use Rattle.history.specs.Events.{Event, frame, tick, reset, set, feedback, read_out}

-- a call, with its answer, led from the end e and the journal j to e' and j'; over what a frame means at an end E, and
-- whether its watchdog runs
module _ {S E : Type 0} (h : Holding S E) (m : Ghosts S) (runs : E → Bool)
    (Frames : E → List ℕ → (session : ℕ) → List ℕ → Journal Line → Result FrameAnswer Refusal → E → List ℕ → Journal Line → Type 0) where
  abbrev pub Did : Event → E → Journal Line → E → Journal Line → Type 0
  Did (frame octets session r) e j e' j' = (reply : List ℕ) × (reply' : List ℕ) × Frames e octets session reply j r e' reply' j'
  Did (tick r) e j e' j' = (reply : List ℕ) × (reply' : List ℕ) × Ticks h m (runs e) e reply j r e' reply' j'
  Did (reset r) e j e' j' = (reply : List ℕ) × (reply' : List ℕ) × Resets h m e reply j r e' reply' j'
  Did (set octets c r) e j e' j' = Sets h e octets c r e' × (j' ≡ j)
  Did (feedback working) e j e' j' = (e' ≡ told h m e working) × (j' ≡ j)
  Did (read_out l) e j e' j' = (e' ≡ e) × Reading l j j'

-- over what making an end E means, and what a call, with its answer, makes of the end and the journal
module _ {E : Type 0} (Making : E → Type 0) (Did : Event → E → Journal Line → E → Journal Line → Type 0) where
  -- these calls, the latest first, led from a new end with an empty journal to this end and this journal
  pub data History : List Event → E → Journal Line → Type 0 where
    made : {slice : List Line} {e : E} {j : Journal Line} → Making e → Made slice j → History [] e j
    next : {es : List Event} {event : Event} {e e' : E} {j j' : Journal Line} →
        History es e j → Did event e j e' j' → History (event ∷ es) e' j'
