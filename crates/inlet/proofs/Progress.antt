-- How far a slave's connection has come, by its state, over every history. Assumes nothing.
use Rattle.std.proofs.Common.{◌≡◌, ℕ, ◌+◌, ◌*◌, ◌≤◌, List, [], ◌∷◌, ◌++◌, length, take, Some, Ok, Option, sym, refl, ap, ◌∙◌, arith, ltb-false, ltb-true}
use Rattle.faults.specs.declared.state.State.{State}
use Rattle.faults.specs.declared.state.State.TheVariants as s
use Rattle.length.proofs.Bounds.{bounds}
use Rattle.frame.specs.Reading.{command_octet}
use Rattle.frame.specs.declared.command.Command.{Command}
use Rattle.sink.specs.declared.Sink as sink
use Rattle.sink.specs.Lawful.{Lawful}
use Rattle.profile.specs.declared.profile.Profile as profile
use Rattle.profile.specs.Numbers.{Ranges}
use Rattle.shared_end.specs.declared.answer.FrameAnswer.{FrameAnswer}
use Rattle.shared_end.specs.declared.endpoint.Endpoint.{Endpoint}
use Rattle.shared_end.specs.declared.step.Act.{Act}
use Rattle.shared_end.specs.declared.data_command.DataCommand.{DataCommand}
use Rattle.chain.specs.declared.numbers.Numbers.{Numbers}
use Rattle.shared_end.specs.Outcomes.{Message, Outcome, taken, kept}
use Rattle.shared_end.specs.Endpoints.{concluded}
use Rattle.history.specs.Events.{Event, frame, Idle, Took}
use Rattle.history.specs.Live as live
use Rattle.history.specs.Live.{data_octets, Since}
use Rattle.history.proofs.Shining.{ShinesIn, restarted_dark}
use Rattle.history.proofs.Taking.{relinked, Tells, told_glows, Says}
use Rattle.history.proofs.Blocks.{Connecting, Parametrizing, Flowing, connecting_idle, parametrizing_idle, flowing_idle, connecting_none, parametrizing_none, flowing_none, connecting_more, parametrizing_more, flowing_more}
use Rattle.history.proofs.Lasting.{Path, Inv}
use Rattle.inlet.specs.declared.Inlet.{Inlet}
use Rattle.inlet.specs.Storing.{word, with_piece}
use Rattle.inlet.specs.Storing.{joined, watchdog_in}
use Rattle.inlet.proofs.Pieces.{take_placed, piece_length, length_joined, word_take}
use Rattle.inlet.proofs.Moves as moves
use Rattle.inlet.proofs.Moves.{Move}

-- the pieces that came make up the block
abbrev pub Block : (d : ℕ) → Inlet → List (List ℕ) → Type 0
Block d x parameters = take x.stored x.block ≡ joined d parameters

abbrev pub Progress : (d n : ℕ) → List Event → Inlet → State → (w : ℕ) → Type 0
Progress d n es x s.Reset w = Unit {0}
Progress d n es x s.Session w = Since es [] [] []
Progress d n es x s.Connection w = Connecting d x.stored (4 + d) es
Progress d n es x s.Parameter w = Parametrizing d x.stored (6 + n + d) (Block d x) es
Progress d n es x s.Data w = Flowing d n (watchdog_in d) es w

-- a call that takes no frame, gives no fault and is no reset
pub on : (n : ℕ) (event : Event) (es : List Event) (st : State) (d w : ℕ) (x : Inlet) → Idle event → Progress d n es x st w → Progress d n (event ∷ es) x st w
on n event es s.Reset d w x i p = tt
on n event es s.Session d w x i p = live.idle i p
on n event es s.Connection d w x i p = connecting_idle i p
on n event es s.Parameter d w x i p = parametrizing_idle i p
on n event es s.Data d w x i p = flowing_idle i p

abbrev pub path : (n : ℕ) → Path Inlet
path n = record { Along = λ es st d w x. Progress d n es x st w; idles = on n; restarts = λ event es st d w x p. tt }

module _ {S P : Type 0} (m : sink.Ghosts S) (law : Lawful m) (p : profile.Ghosts P) (ranges : Ranges p.USER_OCTETS p.LOWEST_WATCHDOG p.HIGHEST_WATCHDOG)
    (es : List Event) (e : Endpoint S) (x : Inlet) (octets : List ℕ) (session : ℕ) (r : FrameAnswer) where
  abbrev d : ℕ
  d = e.link.size.octets

  abbrev n : ℕ
  n = p.USER_OCTETS

  abbrev event : Event
  event = frame octets session (Ok r)

  abbrev piece : List ℕ
  piece = data_octets d octets

  low : 2 ≤ d
  low = (bounds d e.link.size.lawful).low

  high : d ≤ 32
  high = (bounds d e.link.size.lawful).high

  -- the endpoint and the inlet after an outcome stand as the events say
  abbrev Stands : Outcome Inlet → Type 0
  Stands o = Inv m (path n) (event ∷ es) (concluded m e o) (kept x o)

  -- a piece of the parameter block is stored
  stored_block : (at : ℕ) (ps : List (List ℕ)) → at ≡ length ps * d → take at x.block ≡ joined d ps → (id : ℕ) →
      take (at + d) (with_piece x d id at piece).block ≡ joined d (octets ∷ ps)
  stored_block at ps count same id =
      let l : length (take at x.block) ≡ at = ap length same ∙ length_joined d ps high ∙ sym count in
      take_placed d at x.block piece l (piece_length d octets high) ∙ ap (λ b. b ++ take d piece) same

  -- a data frame is taken
  data_stands : (msg : Message) (ns : Numbers) (os : List ℕ) (cm : DataCommand) (w : ℕ) → 1 ≤ w → Flowing d n (watchdog_in d) es w → {k : Command} {act : Act} →
      Tells piece k act → Says m e octets r (Some k) (taken s.Data act msg (relinked e.link ns os cm w w) x) → Stands (taken s.Data act msg (relinked e.link ns os cm w w) x)
  data_stands msg ns os cm w some q {k} tells says =
      let took : Took k octets event = (says.taken_is, refl, says.kind_is) in
      record {
        shines = told_glows m law es event (relinked e.link ns os cm w w) e.sink refl some octets e.state (command_octet octets) tells took says.line_is;
        along = flowing_more octets tells took q;
      }

  pub stands : (st : State) (k : Option Command) (o : Outcome Inlet) → Move p e.link x octets piece st k o → Says m e octets r k o →
      ShinesIn m st es e → Progress d n es x st e.link.watchdog → Stands o
  stands st k o (moves.broken f) says g q = record { shines = restarted_dark m law e; along = tt }
  stands st k o (moves.reset msg ns os cm w t) says g q = record { shines = law.effects.shown_cleared e.sink; along = tt }
  stands st k o (moves.session msg ns os cm w t) says g q =
      record { shines = law.effects.shown_cleared e.sink; along = live.session octets (says.taken_is, refl, says.kind_is) }
  stands st k o (moves.first_connection msg ns os cm w t id) says g q =
      let none : Connecting d 0 1 es = connecting_none (omega arith) q in
      record { shines = g; along = connecting_more octets (says.taken_is, refl, says.kind_is) (omega (arith, low)) none }
  stands st k o (moves.next_connection msg ns os cm w t id more) says g q =
      record { shines = g; along = connecting_more octets (says.taken_is, refl, says.kind_is) (omega (arith, ltb-true x.stored 4 more)) q }
  stands st k o (moves.first_parameter msg ns os cm w t id done) says g q =
      let none : Parametrizing d 0 1 (λ parameters. take 0 x.block ≡ joined d parameters) es = parametrizing_none low (ltb-false x.stored 4 done) (omega arith) refl q in
      record {
        shines = g;
        along = parametrizing_more octets (says.taken_is, refl, says.kind_is) (omega (arith, low)) none (stored_block 0 none.parameters none.at_is none.holds id);
      }
  stands st k o (moves.next_parameter msg ns os cm w t id more) says g q = record {
    shines = g;
    along =
        parametrizing_more octets (says.taken_is, refl, says.kind_is) (omega (arith, ltb-true x.stored (6 + n) more)) q
        (stored_block x.stored q.parameters q.at_is q.holds id);
  }
  stands st k o (moves.first_data msg ns os cm tells done lowest) says g q =
      let enough : 6 + n ≤ x.stored = ltb-false x.stored (6 + n) done in
      data_stands msg ns os cm (word x.block 2) (omega (arith, ranges.lowest_low, lowest))
      (flowing_none low enough q (sym (word_take x.stored 2 x.block (omega (arith, enough))) ∙ ap (λ b. word b 2) q.holds)) tells says
  stands st k o (moves.next_data msg ns os cm tells) says g q =
      data_stands msg ns os cm e.link.watchdog (omega (arith, g.time, g.some)) q tells says
