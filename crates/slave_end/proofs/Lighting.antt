-- In every history of a slave, a bit that its sink shows comes from a live connection, and its journal tells every
-- fault. Assumes nothing.
use Rattle.std.proofs.Common.{◌≡◌, ℕ, List, [], ◌∷◌, Ok, sym, refl, ap, subst}
use Rattle.faults.specs.declared.line.Line.{Line}
use Rattle.frame.specs.Commands.{command}
use Rattle.frame.specs.Reading.{command_octet}
use Rattle.journal.specs.declared.queue.Journal.{Journal}
use Rattle.sink.specs.declared.Sink as sink
use Rattle.sink.specs.Lawful.{Lawful}
use Rattle.profile.specs.declared.profile.Profile as profile
use Rattle.profile.specs.Numbers.{Ranges}
use Rattle.shared_end.specs.declared.answer.FrameAnswer.{FrameAnswer}
use Rattle.shared_end.specs.declared.endpoint.Endpoint.{Endpoint}
use Rattle.shared_end.specs.Outcomes.{Outcome, kept}
use Rattle.shared_end.specs.Endpoints.{width, concluded}
use Rattle.history.specs.Events.{Event, frame}
use Rattle.history.specs.Live.{data_octets}
use Rattle.history.specs.Requests.{Leads, Ran}
use Rattle.history.specs.declared.call.Call.{Call}
use Rattle.history.proofs.Leading.{led}
use Rattle.length.specs.declared.DataLength.{DataLength}
use Rattle.history.proofs.Lasting.{noted, Path, Inv, moved, Kind, Now, tells, lives}
use Rattle.inlet.specs.declared.Inlet.{Inlet}
use Rattle.slave_end.specs.declared.slave.Slave.{Slave}
use Rattle.slave_end.specs.Matching.{asked}
use Rattle.slave_end.specs.Calls.{runs, holding, new_slave, Frames}
use Rattle.slave_end.specs.Histories.{Making, Did, AlwaysLive, AlwaysTold, Runs}
use Rattle.inlet.specs.Storing.{watchdog_in}
use Rattle.inlet.proofs.Moves.{move}
use Rattle.inlet.proofs.Progress.{path, stands}

module _ {S P : Type 0} (m : sink.Ghosts S) (law : Lawful m) (p : profile.Ghosts P) (ranges : Ranges p.USER_OCTETS p.LOWEST_WATCHDOG p.HIGHEST_WATCHDOG) where
  abbrev pub way : Path Inlet
  way = path p.USER_OCTETS

  -- an accepted frame: every outcome is a move
  pub leads : (octets : List ℕ) (session : ℕ) (a : FrameAnswer) (es : List Event) (e e' : Slave S P) (reply reply' : List ℕ) (j j' : Journal Line) →
      Frames m p e octets session reply j (Ok a) e' reply' j' → Inv m way es e.endpoint e.inlet → Inv m way (frame octets session (Ok a) ∷ es) e'.endpoint e'.inlet
  leads octets session a es e e' reply reply' j j' (fits, kept-profile, f) v =
      let c : Endpoint S = e.endpoint in
      let o : Outcome Inlet = asked p e octets session in
      let k = command (command_octet octets) in
      moved m way (frame octets session (Ok a) ∷ es) (concluded m c o) e'.endpoint (kept e.inlet o) e'.inlet f.endpoint_is f.own_is
      (stands m law p ranges es c e.inlet octets session a c.state k o
      (move p c.link e.inlet octets (data_octets (width c) octets) c.state session k)
      (record { kind_is = refl; taken_is = f.taken_is; line_is = f.leaves.line_is }) v.shines v.along)

  abbrev kind : Kind m (Slave S P) Inlet
  kind = record {
    hold = holding;
    own = λ e. e.inlet;
    endpoint_back = λ e c. refl;
    own_back = λ e c. refl;
    path = way;
    count = λ x. p.USER_OCTETS;
    watchdog = λ x. watchdog_in;
    flows = λ es d w x f. f;
    runs = λ e. runs e.endpoint.state;
    data_runs = λ e d. ap runs d;
    Frames = Frames m p;
    leads = leads;
    notes_line = λ octets session a e e' reply reply' j j' q. noted q.2.leaves;
    refuses = λ octets session x e e' reply reply' j j' q. q.1;
  }

  start : (e : Slave S P) → Making m p e → Now m law kind [] e
  start e making =
      subst (Now m law kind []) (sym making.slave_is) (record { shines = law.effects.shown_cleared making.sink_brought; along = tt })

  -- the promise on the octets shown
  pub always_live : (e : Slave S P) → AlwaysLive m p e
  always_live e es j history = lives m law kind (Making m p) start history

  -- the promise on the journal
  pub always_told : (e : Slave S P) (j : Journal Line) → AlwaysTold m p e j
  always_told e j es history = tells m law kind (Making m p) history

  -- the promises on a whole run
  pub whole : (size : DataLength) (address : ℕ) (k : S) (r : P) (calls : List Call) (j : Journal Line) (e e' : Slave S P) (j' : Journal Line) →
      e ≡ new_slave m size address k r → Ran (Did m p) calls e j e' j' → Runs m p size address k r calls j e' j'
  whole size address k r calls j e e' j' made ran slice blank =
      let making : Making m p e = record { size = size; address = address; sink_brought = k; profile_brought = r; slave_is = made } in
      let history = led (Making m p) (Did m p) making blank ran.leads in
      record {
        events = ran.events;
        asked = subst (λ q. Leads (Did m p) q j calls ran.events e' j') made ran.leads;
        live = always_live e' ran.events j' history;
        told = always_told e' j' ran.events history;
      }
