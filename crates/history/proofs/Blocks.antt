-- How far the two blocks and the data frames of a connection have come, at either end. Assumes nothing.
use Rattle.std.proofs.Common.{◌≡◌, ℕ, ◌+◌, ◌-◌, ◌*◌, ◌/◌, ◌<◌, ◌≤◌, List, [], ◌∷◌, length, sym, ap, ◌∙◌, arith}
use Rattle.std.proofs.Math.Arith.{digits_div}
use Rattle.length.specs.Lawful.{pieces}
use Rattle.frame.specs.declared.command.Command.{Command}
use Rattle.frame.specs.declared.command.Command.TheVariants.{Connection, Parameter}
use Rattle.shared_end.specs.declared.step.Act.{Act}
use Rattle.history.specs.Events.{Event, Took, Idle}
use Rattle.history.specs.Live as live
use Rattle.history.specs.Live.{Since}
use Rattle.history.proofs.Taking.{Tells, data_since}

-- so many octets of the connection block have come, fewer than the bound
pub record Connecting (d at bound : ℕ) (es : List Event) : Type 0 where
  pub connections : List (List ℕ)
  pub since : Since es [] [] connections
  pub at_is : at ≡ length connections * d
  pub few : at < bound

-- so many octets of the parameter block have come, fewer than the bound; Holds says what the end keeps of them
pub record Parametrizing (d at bound : ℕ) (Holds : List (List ℕ) → Type 0) (es : List Event) : Type 0 where
  pub parameters : List (List ℕ)
  pub connections : List (List ℕ)
  pub since : Since es [] parameters connections
  pub connections_full : length connections ≡ pieces d 4
  pub at_is : at ≡ length parameters * d
  pub few : at < bound
  pub holds : Holds parameters

-- data frames flow: what was taken since the latest Session frame, in full
pub record Flowing (d n : ℕ) (watchdog : List (List ℕ) → ℕ) (es : List Event) (w : ℕ) : Type 0 where
  pub datas : List (List ℕ)
  pub parameters : List (List ℕ)
  pub connections : List (List ℕ)
  pub since : Since es datas parameters connections
  pub connections_full : length connections ≡ pieces d 4
  pub parameters_full : length parameters ≡ pieces d (6 + n)
  pub watchdog_is : w ≡ watchdog parameters

-- so many pieces of d octets carry k octets, and not one less
pub in_full : (d k count : ℕ) → 2 ≤ d → k ≤ count * d → count * d < k + d → count ≡ pieces d k
in_full d k count low enough few =
    let rest : k + d - 1 ≡ count * d + (k + d - 1 - count * d) = omega arith in
    sym (ap (λ n. n / d) rest ∙ digits_div count {m = d} {r = k + d - 1 - count * d} (omega arith))

module _ {d at bound : ℕ} {es : List Event} {event : Event} where
  -- a call that takes no frame, gives no fault and is no reset
  pub connecting_idle : Idle event → Connecting d at bound es → Connecting d at bound (event ∷ es)
  connecting_idle i q = record { connections = q.connections; since = live.idle i q.since; at_is = q.at_is; few = q.few }

  pub parametrizing_idle : {Holds : List (List ℕ) → Type 0} → Idle event → Parametrizing d at bound Holds es → Parametrizing d at bound Holds (event ∷ es)
  parametrizing_idle i q = record {
    parameters = q.parameters;
    connections = q.connections;
    since = live.idle i q.since;
    connections_full = q.connections_full;
    at_is = q.at_is;
    few = q.few;
    holds = q.holds;
  }

  -- a piece more
  pub connecting_more : {bound' : ℕ} (octets : List ℕ) → Took Connection octets event → at + d < bound' → Connecting d at bound es →
      Connecting d (at + d) bound' (event ∷ es)
  connecting_more octets took less q = record {
    connections = octets ∷ q.connections;
    since = live.connection took q.since;
    at_is = ap (λ i. i + d) q.at_is ∙ omega arith;
    few = less;
  }

  pub parametrizing_more : {bound' : ℕ} {Holds Holds' : List (List ℕ) → Type 0} (octets : List ℕ) → Took Parameter octets event → at + d < bound' →
      (q : Parametrizing d at bound Holds es) → Holds' (octets ∷ q.parameters) → Parametrizing d (at + d) bound' Holds' (event ∷ es)
  parametrizing_more octets took less q holds = record {
    parameters = octets ∷ q.parameters;
    connections = q.connections;
    since = live.parameter took q.since;
    connections_full = q.connections_full;
    at_is = ap (λ i. i + d) q.at_is ∙ omega arith;
    few = less;
    holds = holds;
  }

-- a new block, and a new one behind a connection block in full
pub connecting_none : {d bound : ℕ} {es : List Event} → 0 < bound → Since es [] [] [] → Connecting d 0 bound es
connecting_none some since = record { connections = []; since = since; at_is = omega arith; few = some }

pub parametrizing_none : {d at bound : ℕ} {Holds : List (List ℕ) → Type 0} {es : List Event} → 2 ≤ d → 4 ≤ at → 0 < bound → Holds [] →
    Connecting d at (4 + d) es → Parametrizing d 0 bound Holds es
parametrizing_none {d} low done some holds q = record {
  parameters = [];
  connections = q.connections;
  since = q.since;
  connections_full = in_full d 4 (length q.connections) low (omega (arith, done, q.at_is)) (omega (arith, q.few, q.at_is));
  at_is = omega arith;
  few = some;
  holds = holds;
}

module _ {d n w : ℕ} {watchdog : List (List ℕ) → ℕ} {es : List Event} where
  -- a parameter block in full
  pub flowing_none : {at : ℕ} {Holds : List (List ℕ) → Type 0} → 2 ≤ d → 6 + n ≤ at → (q : Parametrizing d at (6 + n + d) Holds es) →
      w ≡ watchdog q.parameters → Flowing d n watchdog es w
  flowing_none low done q same = record {
    datas = [];
    parameters = q.parameters;
    connections = q.connections;
    since = q.since;
    connections_full = q.connections_full;
    parameters_full = in_full d (6 + n) (length q.parameters) low (omega (arith, done, q.at_is)) (omega (arith, q.few, q.at_is));
    watchdog_is = same;
  }

  -- another call, and what was taken with it
  flowing_on : {event : Event} {datas : List (List ℕ)} (q : Flowing d n watchdog es w) → Since (event ∷ es) datas q.parameters q.connections →
      Flowing d n watchdog (event ∷ es) w
  flowing_on {datas = datas} q since = record {
    datas = datas;
    parameters = q.parameters;
    connections = q.connections;
    since = since;
    connections_full = q.connections_full;
    parameters_full = q.parameters_full;
    watchdog_is = q.watchdog_is;
  }

  pub flowing_idle : {event : Event} → Idle event → Flowing d n watchdog es w → Flowing d n watchdog (event ∷ es) w
  flowing_idle i q = flowing_on q (live.idle i q.since)

  pub flowing_more : {piece : List ℕ} {event : Event} {k : Command} {act : Act} (octets : List ℕ) → Tells piece k act → Took k octets event →
      Flowing d n watchdog es w → Flowing d n watchdog (event ∷ es) w
  flowing_more octets tells took q = flowing_on q (data_since tells took q.since)
