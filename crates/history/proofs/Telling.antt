-- Every history of an end leads its journal through a run of puts and read-outs. Assumes nothing.
use Rattle.std.proofs.Common.{◌≡◌, List, ◌∷◌, Some, None, Option, sym, subst}
use Rattle.faults.specs.declared.line.Line.{Line}
use Rattle.journal.specs.declared.calls.Call.{Call}
use Rattle.journal.specs.declared.queue.Journal.{Journal}
use Rattle.journal.specs.Steps.{Reading}
use Rattle.journal.specs.Runs.{Run, new, next}
use Rattle.journal.proofs.Keeping.{kept_over}
use Rattle.shared_end.specs.Calls.{Noted}
use Rattle.history.specs.Events.{Event, line, frame, tick, reset, set, feedback, read_out}
use Rattle.history.specs.Histories as h
use Rattle.history.specs.Histories.{History}
use Rattle.history.specs.Told.{put, met, Told}

-- what a call makes of the journal: its line is put in, a read_out reads out
abbrev pub Notes : Event → Journal Line → Journal Line → Type 0
Notes (frame o n r) j j' = Noted (line (frame o n r)) j j'
Notes (tick r) j j' = Noted (line (tick r)) j j'
Notes (reset r) j j' = Noted (line (reset r)) j j'
Notes (set o c r) j j' = j' ≡ j
Notes (feedback w) j j' = j' ≡ j
Notes (read_out l) j j' = Reading l j j'

put_run : (l : Option Line) (calls : List (Call Line)) (j j' : Journal Line) → Run calls j → Noted l j j' → Run (put l calls) j'
put_run None calls j j' run same = subst (Run calls) (sym same) run
put_run (Some l) calls j j' run did = next run did

met_run : (event : Event) (es : List Event) (j j' : Journal Line) → Run (met es) j → Notes event j j' → Run (met (event ∷ es)) j'
met_run (frame o n r) es j j' run did = put_run (line (frame o n r)) (met es) j j' run did
met_run (tick r) es j j' run did = put_run (line (tick r)) (met es) j j' run did
met_run (reset r) es j j' run did = put_run (line (reset r)) (met es) j j' run did
met_run (set o c r) es j j' run same = subst (Run (met es)) (sym same) run
met_run (feedback w) es j j' run same = subst (Run (met es)) (sym same) run
met_run (read_out l) es j j' run did = next run did

module _ {E : Type 0} (Making : E → Type 0) (Did : Event → E → Journal Line → E → Journal Line → Type 0)
    (notes : (event : Event) (e e' : E) (j j' : Journal Line) → Did event e j e' j' → Notes event j j') where
  run_over : {es : List Event} {e : E} {j : Journal Line} → History Making Did es e j → Run (met es) j
  run_over (h.made m b) = new b
  run_over (h.next {es} {event} {e} {e'} {j} {j'} before did) =
      met_run event es j j' (run_over before) (notes event e e' j j' did)

  pub told : {es : List Event} {e : E} {j : Journal Line} → History Making Did es e j → Told es j
  told history = kept_over (run_over history)
