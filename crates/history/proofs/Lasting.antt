-- What lasts over every history of an end, whichever end it is. Assumes nothing.
use Rattle.std.proofs.Common.{◌≡◌, ℕ, Bool, true, false, cond, List, [], ◌∷◌, Some, None, Option, Ok, Err, Result, sym, refl, ap, ◌∙◌, subst, arith}
use Rattle.codes.specs.declared.refusal.Refusal.{Refusal}
use Rattle.faults.specs.declared.fault.Fault.{Fault}
use Rattle.faults.specs.declared.fault.Fault.TheVariants.{WatchdogExpired}
use Rattle.faults.specs.declared.line.Line.{Line}
use Rattle.faults.specs.declared.state.State.{State}
use Rattle.faults.specs.declared.state.State.TheVariants as s
use Rattle.journal.specs.declared.queue.Journal.{Journal}
use Rattle.sink.specs.declared.Sink.{Ghosts}
use Rattle.sink.specs.Effects.{Effects}
use Rattle.sink.specs.Lawful.{Lawful}
use Rattle.sink.specs.Octets.{Lit, Within}
use Rattle.sink.proofs.Lits.{none_lit}
use Rattle.shared_end.specs.declared.answer.Answer.{Answer}
use Rattle.shared_end.specs.declared.answer.FrameAnswer.{FrameAnswer}
use Rattle.shared_end.specs.declared.endpoint.Endpoint.{Endpoint}
use Rattle.shared_end.specs.Link.{expires, counted}
use Rattle.shared_end.specs.Outcomes.{Message}
use Rattle.shared_end.specs.Endpoints.{width, with_link, with_sink, restarted, ticked}
use Rattle.shared_end.specs.Calls.{Holding, line_of, Noted, Leaves, Untouched, tick_fault}
use Rattle.history.specs.Events.{Event, frame, tick, reset, set, feedback, read_out, Idle, NotDown, ticks, line}
use Rattle.history.specs.Histories as h
use Rattle.history.specs.Histories.{Did, History}
use Rattle.history.specs.Live.{Live}
use Rattle.history.specs.Told.{Told}
use Rattle.history.proofs.Shining.{ShinesIn, Shines, still, outputs_set, restarted_dark, counted_on, fed_back}
use Rattle.history.proofs.Telling.{Notes, told}
use Rattle.history.proofs.Blocks.{Flowing}

-- the laws of a sink in one record
pub lawful : {S : Type 0} {m : Ghosts S} → Effects m.shown m.up m.would m.released m.cleared m.told → ((s : S) (o : List ℕ) → Within (m.would s o) o) → Lawful m
lawful effects within = record { effects = effects; within = within }

-- the line that an accepted call answered is put into the journal
pub noted : {d : ℕ} {before : State} {command : ℕ} {f : Option Fault} {msg : Option Message} {line : Option Line} {reply reply' : List ℕ} {j j' : Journal Line} →
    Leaves d before command f msg line reply reply' j j' → Noted line j j'
noted {j = j} {j'} leaves = subst (λ l. Noted l j j') (sym leaves.line_is) leaves.journal_is

-- how far the connection of an end has come: a fact of the events, the end's state, its data length, its watchdog time and
-- what it keeps beside its endpoint
pub record Path (X : Type 0) : Type 1 where
  pub Along : List Event → State → (d w : ℕ) → X → Type 0
  -- a call that takes no frame, gives no fault and is no reset leaves it
  pub idles : (event : Event) (es : List Event) (st : State) (d w : ℕ) (x : X) → Idle event → Along es st d w x → Along (event ∷ es) st d w x
  -- a fault or a reset leads to state Reset
  pub restarts : (event : Event) (es : List Event) (st : State) (d w : ℕ) (x : X) → Along es st d w x → Along (event ∷ es) s.Reset d w x

module _ {S X : Type 0} (m : Ghosts S) (path : Path X) where
  pub record Inv (es : List Event) (c : Endpoint S) (x : X) : Type 0 where
    pub shines : Shines m es c
    pub along : path.Along es c.state (width c) c.link.watchdog x

  -- a call that leaves the end as it is
  pub idle : (event : Event) (es : List Event) (c : Endpoint S) (x : X) → Idle event → NotDown event → ticks event ≡ 0 → Inv es c x → Inv (event ∷ es) c x
  idle event es c x i nd z v = record {
    shines = still m c.state event es c i nd z v.shines;
    along = path.idles event es c.state (width c) c.link.watchdog x i v.along;
  }

  pub moved : (es : List Event) (c c' : Endpoint S) (x x' : X) → c' ≡ c → x' ≡ x → Inv es c x → Inv es c' x'
  moved es c c' x x' p q v = subst (λ y. Inv es c' y) (sym q) (subst (λ k. Inv es k x) (sym p) v)

  module _ (law : Lawful m) where
    restarted_on : (event : Event) (es : List Event) (c : Endpoint S) (x : X) → Inv es c x → Inv (event ∷ es) (restarted m c) x
    restarted_on event es c x v = record {
      shines = restarted_dark m law c;
      along = path.restarts event es c.state (width c) c.link.watchdog x v.along;
    }

    ticked_on : (runs : Bool) (a : Answer) (es : List Event) (c : Endpoint S) (x : X) → (c.state ≡ s.Data → runs ≡ true) →
        a.line ≡ line_of c.state 0 (tick_fault m runs c) → Inv es c x → Inv (tick (Ok a) ∷ es) (ticked m runs c) x
    ticked_on runs a es c x on line_is v = by (expires runs c.link) refl where
      at_test : Bool → Endpoint S
      at_test b = cond b (restarted m c) (with_link c (counted runs c.link))

      by : (b : Bool) → expires runs c.link ≡ b → Inv (tick (Ok a) ∷ es) (ticked m runs c) x
      by true e = moved (tick (Ok a) ∷ es) (restarted m c) (ticked m runs c) x x (ap at_test e) refl (restarted_on (tick (Ok a)) es c x v)
      by false e =
          let none : a.line ≡ None = line_is ∙ ap (λ b. line_of c.state 0 (cond b (Some WatchdogExpired) None)) e in
          moved (tick (Ok a) ∷ es) (with_link c (counted runs c.link)) (ticked m runs c) x x (ap at_test e) refl
          (record {
            shines = counted_on m law c.state runs a es c on none e v.shines;
            along = path.idles (tick (Ok a)) es c.state (width c) c.link.watchdog x none v.along;
          })

-- a bit that is shown, where the connection has come as far as its state says
module _ {S X : Type 0} (m : Ghosts S) (Along : List Event → State → (d w : ℕ) → X → Type 0) (count : X → ℕ)
    (watchdog : X → (d : ℕ) → List (List ℕ) → ℕ)
    (flows : (es : List Event) (d w : ℕ) (x : X) → Along es s.Data d w x → Flowing d (count x) (watchdog x d) es w) where
  pub lit_by : (st : State) (es : List Event) (c : Endpoint S) (x : X) → ShinesIn m st es c → Along es st (width c) c.link.watchdog x →
      (i k : ℕ) → Lit (m.shown c.sink) i k → Live (width c) (count x) (watchdog x (width c)) es i k
  lit_by s.Reset es c x g q i k lit = absurd (none_lit i k (subst (λ o. Lit o i k) g lit))
  lit_by s.Session es c x g q i k lit = absurd (none_lit i k (subst (λ o. Lit o i k) g lit))
  lit_by s.Connection es c x g q i k lit = absurd (none_lit i k (subst (λ o. Lit o i k) g lit))
  lit_by s.Parameter es c x g q i k lit = absurd (none_lit i k (subst (λ o. Lit o i k) g lit))
  lit_by s.Data es c x g q i k lit =
      let f = flows es (width c) c.link.watchdog x q in
      record {
        since_taken = g.since;
        datas = f.datas;
        parameters = f.parameters;
        connections = f.connections;
        latest = g.carried i k lit;
        opened = f.since;
        connection_in_full = f.connections_full;
        parameter_in_full = f.parameters_full;
        in_time = omega (arith, g.time, g.some, f.watchdog_is);
      }

-- over an end E that holds an endpoint over a sink, and keeps an X beside it
module _ {S E X : Type 0} (m : Ghosts S) (law : Lawful m) (hold : Holding S E) (own : E → X)
    (endpoint_back : (e : E) (c : Endpoint S) → hold.endpoint (hold.with_endpoint e c) ≡ c)
    (own_back : (e : E) (c : Endpoint S) → own (hold.with_endpoint e c) ≡ own e) (path : Path X) where
  abbrev Stands : List Event → E → Type 0
  Stands es e = Inv m path es (hold.endpoint e) (own e)

  -- the end is another one with an endpoint of its own
  held : (es : List Event) (e e' : E) (c : Endpoint S) → e' ≡ hold.with_endpoint e c → Inv m path es c (own e) → Stands es e'
  held es e e' c is v =
      moved m path es c (hold.endpoint e') (own e) (own e') (ap hold.endpoint is ∙ endpoint_back e c) (ap own is ∙ own_back e c) v

  -- the end is as it was
  stays : (event : Event) (es : List Event) (e e' : E) → Idle event → NotDown event → ticks event ≡ 0 → hold.endpoint e' ≡ hold.endpoint e →
      own e' ≡ own e → Stands es e → Stands (event ∷ es) e'
  stays event es e e' i nd z p q v =
      moved m path (event ∷ es) (hold.endpoint e) (hold.endpoint e') (own e) (own e') p q (idle m path event es (hold.endpoint e) (own e) i nd z v)

  module _ (runs : E → Bool) (data_runs : (e : E) → (hold.endpoint e).state ≡ s.Data → runs e ≡ true)
      (Frames : E → List ℕ → (session : ℕ) → List ℕ → Journal Line → Result FrameAnswer Refusal → E → List ℕ → Journal Line → Type 0)
      (framed : (octets : List ℕ) (session : ℕ) (r : Result FrameAnswer Refusal) (es : List Event) (e e' : E) (reply reply' : List ℕ) (j j' : Journal Line) →
      Frames e octets session reply j r e' reply' j' → Stands es e → Stands (frame octets session r ∷ es) e') where
    -- one call more
    more : (event : Event) (es : List Event) (e e' : E) (j j' : Journal Line) → Did hold m runs Frames event e j e' j' → Stands es e → Stands (event ∷ es) e'
    more (frame octets session r) es e e' j j' (reply, reply', f) v = framed octets session r es e e' reply reply' j j' f v
    more (tick (Ok a)) es e e' j j' (reply, reply', ((room, c'-is, state_is, leaves), rest)) v =
        held (tick (Ok a) ∷ es) e e' (ticked m (runs e) (hold.endpoint e)) (rest ∙ ap (hold.with_endpoint e) c'-is)
        (ticked_on m path law (runs e) a es (hold.endpoint e) (own e) (data_runs e) leaves.line_is v)
    more (tick (Err x)) es e e' j j' (reply, reply', ((short-is, u), rest)) v =
        stays (tick (Err x)) es e e' tt tt refl u.end_is (ap own rest ∙ own_back e (hold.endpoint e')) v
    more (reset (Ok a)) es e e' j j' (reply, reply', ((room, c'-is, state_is, leaves), rest)) v =
        held (reset (Ok a) ∷ es) e e' (restarted m (hold.endpoint e)) (rest ∙ ap (hold.with_endpoint e) c'-is)
        (restarted_on m path law (reset (Ok a)) es (hold.endpoint e) (own e) v)
    more (reset (Err x)) es e e' j j' (reply, reply', ((short-is, u), rest)) v =
        stays (reset (Err x)) es e e' tt tt refl u.end_is (ap own rest ∙ own_back e (hold.endpoint e')) v
    more (set octets cm (Ok t)) es e e' j j' (((count, link_is), rest), same-journal) v =
        let w = idle m path (set octets cm (Ok t)) es (hold.endpoint e) (own e) tt tt refl v in
        held (set octets cm (Ok t) ∷ es) e e' _ (rest ∙ ap (λ l. hold.with_endpoint e (with_link (hold.endpoint e) l)) link_is)
        (record {
          shines = outputs_set m (hold.endpoint e).state (set octets cm (Ok t) ∷ es) (hold.endpoint e) octets cm w.shines;
          along = w.along;
        })
    more (set octets cm (Err x)) es e e' j j' (((count, refusal, link_is), rest), same-journal) v =
        held (set octets cm (Err x) ∷ es) e e' (hold.endpoint e) (rest ∙ ap (λ l. hold.with_endpoint e (with_link (hold.endpoint e) l)) link_is)
        (idle m path (set octets cm (Err x)) es (hold.endpoint e) (own e) tt tt refl v)
    more (feedback u) es e e' j j' (told_is, same-journal) v =
        held (feedback u ∷ es) e e' (with_sink (hold.endpoint e) (m.told (hold.endpoint e).sink u)) told_is
        (record {
          shines = fed_back m law (hold.endpoint e).state u es (hold.endpoint e) v.shines;
          along = path.idles (feedback u) es (hold.endpoint e).state (width (hold.endpoint e)) (hold.endpoint e).link.watchdog (own e) tt v.along;
        })
    more (read_out l) es e e' j j' (same_end, read) v =
        stays (read_out l) es e e' tt tt refl (ap hold.endpoint same_end) (ap own same_end) v

    pub over : (Making : E → Type 0) → ((e : E) → Making e → Stands [] e) → {es : List Event} {e : E} {j : Journal Line} →
        History Making (Did hold m runs Frames) es e j → Stands es e
    over Making start (h.made {e = e} making blank) = start e making
    over Making start (h.next {es} {event} {e} {e'} {j} {j'} before did) = more event es e e' j j' did (over Making start before)

-- each call notes its line
module _ {S E : Type 0} (m : Ghosts S) (hold : Holding S E) (runs : E → Bool)
    (Frames : E → List ℕ → (session : ℕ) → List ℕ → Journal Line → Result FrameAnswer Refusal → E → List ℕ → Journal Line → Type 0) where
  pub notes : ((octets : List ℕ) (session : ℕ) (r : Result FrameAnswer Refusal) (e e' : E) (reply reply' : List ℕ) (j j' : Journal Line) →
      Frames e octets session reply j r e' reply' j' → Noted (line (frame octets session r)) j j') →
      (event : Event) (e e' : E) (j j' : Journal Line) → Did hold m runs Frames event e j e' j' → Notes event j j'
  notes f (frame octets session r) e e' j j' (reply, reply', q) = f octets session r e e' reply reply' j j' q
  notes f (tick (Ok a)) e e' j j' (reply, reply', ((room, c'-is, state_is, leaves), rest)) = noted leaves
  notes f (tick (Err x)) e e' j j' (reply, reply', ((short-is, u), rest)) = u.journal_is
  notes f (reset (Ok a)) e e' j j' (reply, reply', ((room, c'-is, state_is, leaves), rest)) = noted leaves
  notes f (reset (Err x)) e e' j j' (reply, reply', ((short-is, u), rest)) = u.journal_is
  notes f (set octets cm r) e e' j j' (sets, same-journal) = same-journal
  notes f (feedback u) e e' j j' (told_is, same-journal) = same-journal
  notes f (read_out l) e e' j j' (same_end, read) = read

-- what the proof asks of an end E over a sink, which keeps an X beside its endpoint
pub record Kind {S : Type 0} (m : Ghosts S) (E X : Type 0) : Type 1 where
  pub hold : Holding S E
  pub own : E → X
  pub endpoint_back : (e : E) (c : Endpoint S) → hold.endpoint (hold.with_endpoint e c) ≡ c
  pub own_back : (e : E) (c : Endpoint S) → own (hold.with_endpoint e c) ≡ own e
  pub path : Path X
  -- in state Data, data frames flow
  pub count : X → ℕ
  pub watchdog : X → (d : ℕ) → List (List ℕ) → ℕ
  pub flows : (es : List Event) (d w : ℕ) (x : X) → path.Along es s.Data d w x → Flowing d (count x) (watchdog x d) es w
  pub runs : E → Bool
  pub data_runs : (e : E) → (hold.endpoint e).state ≡ s.Data → runs e ≡ true
  -- what a frame, with its answer, makes of it
  pub Frames : E → List ℕ → (session : ℕ) → List ℕ → Journal Line → Result FrameAnswer Refusal → E → List ℕ → Journal Line → Type 0
  pub leads : (octets : List ℕ) (session : ℕ) (a : FrameAnswer) (es : List Event) (e e' : E) (reply reply' : List ℕ) (j j' : Journal Line) →
      Frames e octets session reply j (Ok a) e' reply' j' → Inv m path es (hold.endpoint e) (own e) →
      Inv m path (frame octets session (Ok a) ∷ es) (hold.endpoint e') (own e')
  pub notes_line : (octets : List ℕ) (session : ℕ) (a : FrameAnswer) (e e' : E) (reply reply' : List ℕ) (j j' : Journal Line) →
      Frames e octets session reply j (Ok a) e' reply' j' → Noted a.line j j'
  pub refuses : (octets : List ℕ) (session : ℕ) (x : Refusal) (e e' : E) (reply reply' : List ℕ) (j j' : Journal Line) →
      Frames e octets session reply j (Err x) e' reply' j' → Untouched e e' reply reply' j j'

module _ {S E X : Type 0} (m : Ghosts S) (law : Lawful m) (kind : Kind m E X) where
  abbrev at : E → Endpoint S
  at = kind.hold.endpoint

  abbrev own : E → X
  own = kind.own

  abbrev pub Now : List Event → E → Type 0
  Now es e = Inv m kind.path es (at e) (own e)

  abbrev Does : Event → E → Journal Line → E → Journal Line → Type 0
  Does = Did kind.hold m kind.runs kind.Frames

  -- a frame, taken or refused
  framed : (octets : List ℕ) (session : ℕ) (r : Result FrameAnswer Refusal) (es : List Event) (e e' : E) (reply reply' : List ℕ) (j j' : Journal Line) →
      kind.Frames e octets session reply j r e' reply' j' → Now es e → Now (frame octets session r ∷ es) e'
  framed octets session (Ok a) es e e' reply reply' j j' f v = kind.leads octets session a es e e' reply reply' j j' f v
  framed octets session (Err x) es e e' reply reply' j j' f v =
      let u = kind.refuses octets session x e e' reply reply' j j' f in
      stays m law kind.hold own kind.endpoint_back kind.own_back kind.path (frame octets session (Err x)) es e e' tt tt refl (ap at u.end_is) (ap own u.end_is) v

  frame_noted : (octets : List ℕ) (session : ℕ) (r : Result FrameAnswer Refusal) (e e' : E) (reply reply' : List ℕ) (j j' : Journal Line) →
      kind.Frames e octets session reply j r e' reply' j' → Noted (line (frame octets session r)) j j'
  frame_noted octets session (Ok a) e e' reply reply' j j' f = kind.notes_line octets session a e e' reply reply' j j' f
  frame_noted octets session (Err x) e e' reply reply' j j' f = (kind.refuses octets session x e e' reply reply' j j' f).journal_is

  module _ (Making : E → Type 0) where
    -- the promise on the journal
    pub tells : {es : List Event} {e : E} {j : Journal Line} → History Making Does es e j → Told es j
    tells history = told Making Does (notes m kind.hold kind.runs kind.Frames frame_noted) history

    -- the promise on the octets shown
    pub lives : ((e : E) → Making e → Now [] e) → {es : List Event} {e : E} {j : Journal Line} → History Making Does es e j →
        (i k : ℕ) → Lit (m.shown (at e).sink) i k → Live (width (at e)) (kind.count (own e)) (kind.watchdog (own e) (width (at e))) es i k
    lives start {es} {e} history =
        let v = over m law kind.hold own kind.endpoint_back kind.own_back kind.path kind.runs kind.data_runs kind.Frames framed Making start history in
        lit_by m kind.path.Along kind.count kind.watchdog kind.flows (at e).state es (at e) (own e) v.shines v.along
