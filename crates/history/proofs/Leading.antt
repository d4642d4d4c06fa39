-- Calls that were made lead a history on, and at a new end make one. Assumes nothing.
use Rattle.std.proofs.Common.{◌≡◌, List, ◌++◌, sym, ap, ◌∙◌}
use Rattle.faults.specs.declared.line.Line.{Line}
use Rattle.journal.specs.declared.queue.Journal.{Journal}
use Rattle.journal.specs.Steps.{Made}
use Rattle.history.specs.declared.call.Call.{Call}
use Rattle.history.specs.Events.{Event}
use Rattle.history.specs.Histories as h
use Rattle.history.specs.Histories.{History}
use Rattle.history.specs.Requests as r
use Rattle.history.specs.Requests.{request, asked, Makes, Leads}

module _ {E : Type 0} (Making : E → Type 0) (Did : Event → E → Journal Line → E → Journal Line → Type 0) where
  pub lead_on : {e : E} {j : Journal Line} {before : List Event} {calls : List Call} {es : List Event} {e' : E} {j' : Journal Line} →
      History Making Did before e j → Leads Did e j calls es e' j' → History Making Did (es ++ before) e' j'
  lead_on history r.none = history
  lead_on history (r.more c event leads asked did) = h.next (lead_on history leads) did

module _ {E : Type 0} (Making : E → Type 0) (Did : Event → E → Journal Line → E → Journal Line → Type 0) {slice : List Line} {e : E} {j : Journal Line} where
  pub led : Making e → Made slice j → {calls : List Call} {es : List Event} {e' : E} {j' : Journal Line} → Leads Did e j calls es e' j' → History Making Did es e' j'
  led making blank r.none = h.made making blank
  led making blank (r.more c event leads asked did) = h.next (led making blank leads) did

-- an event that asks for the call that was made
pub makes : {E : Type 0} {Did : Event → E → Journal Line → E → Journal Line → Type 0} {c call : Call} {e e' : E} {j j' : Journal Line} (event : Event) →
    c ≡ call → asked event ≡ request call → Did event e j e' j' → Makes Did c e j e' j'
makes event is same did = record { event = event; asked_is = same ∙ sym (ap request is); did = did }
