-- In every history of a master, a bit that its sink shows comes from a live connection, and its journal tells every
-- fault. Assumes nothing.
use Rattle.std.proofs.Common.{ℕ, true, List, [], ◌∷◌, Ok, sym, refl, ap}
use Rattle.faults.specs.declared.line.Line.{Line}
use Rattle.frame.specs.Commands.{command}
use Rattle.frame.specs.Reading.{command_octet}
use Rattle.journal.specs.declared.queue.Journal.{Journal}
use Rattle.sink.specs.declared.Sink.{Ghosts}
use Rattle.sink.specs.Lawful.{Lawful}
use Rattle.shared_end.specs.declared.answer.FrameAnswer.{FrameAnswer}
use Rattle.shared_end.specs.declared.endpoint.Endpoint.{Endpoint}
use Rattle.shared_end.specs.Outcomes.{Outcome, kept}
use Rattle.shared_end.specs.Endpoints.{width, concluded}
use Rattle.history.specs.Events.{Event, frame}
use Rattle.history.specs.Live.{data_octets}
use Rattle.history.specs.Requests.{Ran}
use Rattle.history.specs.declared.call.Call.{Call}
use Rattle.history.proofs.Leading.{led}
use Rattle.plan.specs.declared.sealed_plan.SealedPlan.{SealedPlan}
use Rattle.history.proofs.Lasting.{noted, Inv, moved, Kind, Now, tells, lives}
use Rattle.master_end.specs.declared.master.Master.{Master}
use Rattle.outlet.specs.declared.Outlet.{Outlet}
use Rattle.master_end.specs.Matching.{asked}
use Rattle.master_end.specs.Calls.{holding, Made, Frames}
use Rattle.master_end.specs.Histories.{Making, Did, AlwaysLive, AlwaysTold, Runs}
use Rattle.outlet.proofs.Moves.{move}
use Rattle.outlet.proofs.Progress.{Own, count, path, stands}

module _ {S : Type 0} (m : Ghosts S) (law : Lawful m) where
  abbrev pub own : Master S → Own
  own e = record { outlet = e.outlet; plan = e.plan }

  -- an accepted frame: every outcome is a move
  pub leads : (octets : List ℕ) (session : ℕ) (a : FrameAnswer) (es : List Event) (e e' : Master S) (reply reply' : List ℕ) (j j' : Journal Line) →
      Frames m e octets session reply j (Ok a) e' reply' j' → Inv m path es e.endpoint (own e) → Inv m path (frame octets session (Ok a) ∷ es) e'.endpoint (own e')
  leads octets session a es e e' reply reply' j j' (fits, kept-plan, f) v =
      let c : Endpoint S = e.endpoint in
      let o : Outcome Outlet = asked e octets session in
      let k = command (command_octet octets) in
      moved m path (frame octets session (Ok a) ∷ es) (concluded m c o) e'.endpoint (record { outlet = kept e.outlet o; plan = e.plan }) (own e') f.endpoint_is
      (λ i. record { outlet = f.own_is i; plan = kept-plan i })
      (stands m law es c (own e) octets session a v.along.watchdog_is c.state k o
      (move c.link e.outlet e.plan octets (data_octets (width c) octets) c.state session k)
      (record { kind_is = refl; taken_is = f.taken_is; line_is = f.leaves.line_is }) v.shines v.along.progress)

  abbrev kind : Kind m (Master S) Own
  kind = record {
    hold = holding;
    own = own;
    endpoint_back = λ e c. refl;
    own_back = λ e c. refl;
    path = path;
    count = count;
    watchdog = λ x d parameters. x.plan.draft.watchdog;
    flows = λ es d w x f. f.progress;
    runs = λ e. true;
    data_runs = λ e d. refl;
    Frames = Frames m;
    leads = leads;
    notes_line = λ octets session a e e' reply reply' j j' q. noted q.2.leaves;
    refuses = λ octets session x e e' reply reply' j j' q. q.1;
  }

  start : (e : Master S) → Making m e → Now m law kind [] e
  start e making =
      moved m path [] _ e.endpoint (own e) (own e) making.made.endpoint_is refl
      (record {
        shines = law.effects.shown_cleared making.sink_brought;
        along = record { watchdog_is = ap (λ p. p.draft.watchdog) (sym making.made.plan_is); progress = tt };
      })

  -- the promise on the octets shown
  pub always_live : (e : Master S) → AlwaysLive m e
  always_live e es j history = lives m law kind (Making m) start history

  -- the promise on the journal
  pub always_told : (e : Master S) (j : Journal Line) → AlwaysTold m e j
  always_told e j es history = tells m law kind (Making m) history

  -- the promises on a whole run
  pub whole : (p : SealedPlan) (k : S) (user : List ℕ) (calls : List Call) (j : Journal Line) (e e' : Master S) (j' : Journal Line) →
      Made m p k user e → Ran (Did m) calls e j e' j' → Runs m p k user calls j e' j'
  whole p k user calls j e e' j' made ran slice blank =
      let making : Making m e = record { plan_brought = p; sink_brought = k; user_brought = user; made = made } in
      let history = led (Making m) (Did m) making blank ran.leads in
      record {
        first = e;
        first_made = made;
        events = ran.events;
        asked = ran.leads;
        live = always_live e' ran.events j' history;
        told = always_told e' j' ran.events history;
      }
