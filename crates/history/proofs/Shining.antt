-- What a sink shows, and where it came from, over the calls that are the same at both ends. Assumes nothing.
use Rattle.std.proofs.Common.{◌≡◌, ℕ, ◌+◌, ◌-◌, ◌<◌, ◌≤◌, Bool, true, false, cond, not, ◌&&◌, leb, List, ◌∷◌, Some, None, Ok, sym, refl, ap, ◌∙◌, subst, arith, leb-false}
use Rattle.faults.specs.declared.fault.Fault.TheVariants.{SinkDown, WatchdogExpired}
use Rattle.faults.specs.declared.state.State.{State}
use Rattle.faults.specs.declared.state.State.TheVariants as s
use Rattle.frame.specs.declared.command.Command.TheVariants.{ProcessData}
use Rattle.sink.specs.declared.Sink.{Ghosts}
use Rattle.sink.specs.Lawful.{Lawful}
use Rattle.sink.specs.Octets.{zeros, Lit}
use Rattle.sink.proofs.Lits.{none_lit, shown_within}
use Rattle.shared_end.specs.declared.answer.Answer.{Answer}
use Rattle.shared_end.specs.declared.endpoint.Endpoint.{Endpoint}
use Rattle.shared_end.specs.declared.link.Link.{Link}
use Rattle.shared_end.specs.declared.step.Act.TheVariants.{Release}
use Rattle.shared_end.specs.declared.data_command.DataCommand.{DataCommand}
use Rattle.shared_end.specs.Link.{expires, counted, with_outputs}
use Rattle.shared_end.specs.Endpoints.{width, with_link, with_sink, missed, restarted, ticked}
use Rattle.shared_end.specs.Calls.{line_of, tick_fault}
use Rattle.history.specs.Events.{Event, Took, Idle, NotDown, line, ticks, tick, feedback}
use Rattle.history.specs.Live.{data_octets, Carried, here, later}

module _ {S : Type 0} (m : Ghosts S) where
  abbrev pub Dark : Endpoint S → Type 0
  Dark c = m.shown c.sink ≡ zeros

  -- in state Data: the ticks since the latest taken frame, and where a bit that is shown came from
  pub record Glows (es : List Event) (c : Endpoint S) : Type 0 where
    pub since : ℕ
    pub time : c.link.left + since ≡ c.link.watchdog
    pub some : 1 ≤ c.link.left
    pub carried : (i k : ℕ) → Lit (m.shown c.sink) i k → Carried (width c) i k since es

  abbrev pub ShinesIn : State → List Event → Endpoint S → Type 0
  ShinesIn s.Reset es c = Dark c
  ShinesIn s.Session es c = Dark c
  ShinesIn s.Connection es c = Dark c
  ShinesIn s.Parameter es c = Dark c
  ShinesIn s.Data es c = Glows es c

  abbrev pub Shines : List Event → Endpoint S → Type 0
  Shines es c = ShinesIn c.state es c

  -- what is dark stays dark, and what glows glows on
  in_state : (st : State) (es es' : List Event) (c c' : Endpoint S) → (Dark c → Dark c') → (st ≡ s.Data → Glows es c → Glows es' c') →
      ShinesIn st es c → ShinesIn st es' c'
  in_state s.Reset es es' c c' d f g = d g
  in_state s.Session es es' c c' d f g = d g
  in_state s.Connection es es' c c' d f g = d g
  in_state s.Parameter es es' c c' d f g = d g
  in_state s.Data es es' c c' d f g = f refl g

  -- a call that leaves state, link and sink, and does not end the time
  pub still : (st : State) (event : Event) (es : List Event) (c : Endpoint S) → Idle event → NotDown event → ticks event ≡ 0 →
      ShinesIn st es c → ShinesIn st (event ∷ es) c
  still st event es c i n z = in_state st es (event ∷ es) c c (λ g. g) (λ on g. record {
    since = ticks event + g.since;
    time = omega (arith, g.time, z);
    some = g.some;
    carried = λ a k lit. later i n (g.carried a k lit);
  })

  -- other octets are set
  pub outputs_set : (st : State) (es : List Event) (c : Endpoint S) (octets : List ℕ) (cm : DataCommand) → ShinesIn st es c →
      ShinesIn st es (with_link c (with_outputs c.link octets cm))
  outputs_set st es c octets cm =
      in_state st es es c (with_link c (with_outputs c.link octets cm)) (λ g. g) (λ on g. record { since = g.since; time = g.time; some = g.some; carried = g.carried })

  -- a bit of zeros is not shown
  pub dark_glows : (es : List Event) (c : Endpoint S) → Dark c → (n : ℕ) → c.link.left + n ≡ c.link.watchdog → 1 ≤ c.link.left → Glows es c
  dark_glows es c dark n time some = record {
    since = n;
    time = time;
    some = some;
    carried = λ i k lit. absurd (none_lit i k (subst (λ o. Lit o i k) dark lit));
  }

  module _ (law : Lawful m) where
    pub restarted_dark : (c : Endpoint S) → Dark (restarted m c)
    restarted_dark c = law.effects.shown_cleared c.sink

    -- a tick that does not end the time
    pub counted_on : (st : State) (runs : Bool) (a : Answer) (es : List Event) (c : Endpoint S) → (st ≡ s.Data → runs ≡ true) → a.line ≡ None →
        expires runs c.link ≡ false → ShinesIn st es c → ShinesIn st (tick (Ok a) ∷ es) (with_link c (counted runs c.link))
    counted_on st runs a es c r l x = in_state st es (tick (Ok a) ∷ es) c (with_link c (counted runs c.link)) (λ g. g) (λ flows g.
        let on : runs ≡ true = r flows in
        let more : 1 < c.link.left = leb-false c.link.left 1 (ap (λ b. b && leb c.link.left 1) (sym on) ∙ x) in
        let less : (counted runs c.link).left ≡ c.link.left - 1 =
        ap (λ b. cond (b && not (b && leb c.link.left 1)) (c.link.left - 1) c.link.left) on
        ∙ ap (λ b. cond (not b) (c.link.left - 1) c.link.left) (ap (λ b. b && leb c.link.left 1) (sym on) ∙ x) in
        record {
          since = 1 + g.since;
          time = omega (arith, less, more, g.time);
          some = omega (arith, less, more);
          carried = λ i k lit. later l tt (g.carried i k lit);
        })

    pub shines_tick : (runs : Bool) (a : Answer) (es : List Event) (c c' : Endpoint S) → (c.state ≡ s.Data → runs ≡ true) →
        c' ≡ ticked m runs c → a.line ≡ line_of c.state 0 (tick_fault m runs c) → Shines es c → Shines (tick (Ok a) ∷ es) c'
    shines_tick runs a es c c' r same l g = by (expires runs c.link) refl where
      by : (b : Bool) → expires runs c.link ≡ b → Shines (tick (Ok a) ∷ es) c'
      by true x =
          subst (Shines (tick (Ok a) ∷ es)) (sym (same ∙ ap (λ b. cond b (restarted m c) (with_link c (counted runs c.link))) x))
          (restarted_dark c)
      by false x =
          subst (Shines (tick (Ok a) ∷ es)) (sym (same ∙ ap (λ b. cond b (restarted m c) (with_link c (counted runs c.link))) x))
          (counted_on c.state runs a es c r (l ∙ ap (λ b. line_of c.state 0 (cond b (Some WatchdogExpired) None)) x) x g)

    -- a feedback
    told_dark : (u : Bool) (c : Endpoint S) → Dark c → Dark (with_sink c (m.told c.sink u))
    told_dark true c g = law.effects.shown_told c.sink true ∙ g
    told_dark false c g = law.effects.shown_told c.sink false

    told_glows : (u : Bool) (es : List Event) (c : Endpoint S) → Glows es c → Glows (feedback u ∷ es) (with_sink c (m.told c.sink u))
    told_glows true es c g = record {
      since = 0 + g.since;
      time = omega (arith, g.time);
      some = g.some;
      carried = λ i k lit. later tt refl (g.carried i k (subst (λ o. Lit o i k) (law.effects.shown_told c.sink true) lit));
    }
    told_glows false es c g =
        dark_glows (feedback false ∷ es) (with_sink c (m.told c.sink false)) (law.effects.shown_told c.sink false) g.since g.time g.some

    pub fed_back : (st : State) (u : Bool) (es : List Event) (c : Endpoint S) → ShinesIn st es c →
        ShinesIn st (feedback u ∷ es) (with_sink c (m.told c.sink u))
    fed_back st u es c = in_state st es (feedback u ∷ es) c (with_sink c (m.told c.sink u)) (told_dark u c) (λ flows. told_glows u es c)

    -- a taken data frame: its octets are released, or the sink is cleared
    module _ (es : List Event) (event : Event) (l : Link) (sink : S) (time : l.left ≡ l.watchdog) (some : 1 ≤ l.left) where
      pub released_glows : (octets : List ℕ) (before : State) (command : ℕ) → Took ProcessData octets event →
          line event ≡ line_of before command (missed m (Release (data_octets l.size.octets octets)) sink) →
          Glows (event ∷ es) (record { state = s.Data; link = l; sink = m.released sink (data_octets l.size.octets octets) })
      released_glows octets before command took noted = by (m.up sink) refl where
        shown_is : m.shown (m.released sink (data_octets l.size.octets octets)) ≡ cond (m.up sink) (m.would sink (data_octets l.size.octets octets)) zeros
        shown_is = law.effects.shown_released sink (data_octets l.size.octets octets)

        by : (b : Bool) → m.up sink ≡ b → Glows (event ∷ es) (record { state = s.Data; link = l; sink = m.released sink (data_octets l.size.octets octets) })
        by true u = record {
          since = 0;
          time = omega (arith, time);
          some = some;
          carried = λ i k lit.
              here octets took
              (noted ∙ ap (λ b. line_of before command (cond b None (Some SinkDown))) u)
              (shown_within m law sink (data_octets l.size.octets octets) i k lit);
        }
        by false u =
            dark_glows (event ∷ es) _ (shown_is ∙ ap (λ b. cond b (m.would sink (data_octets l.size.octets octets)) zeros) u) 0 (omega (arith, time)) some

      pub cleared_glows : Glows (event ∷ es) (record { state = s.Data; link = l; sink = m.cleared sink })
      cleared_glows =
          dark_glows (event ∷ es) (record { state = s.Data; link = l; sink = m.cleared sink }) (law.effects.shown_cleared sink) 0 (omega (arith, time)) some
