-- A bit that a sink shows comes from a live connection. Assumes nothing.
use Rattle.std.specs.Prelude.{◌≡◌, ℕ, ◌+◌, ◌<◌, List, [], ◌∷◌, length, None}
use Rattle.length.specs.Lawful.{pieces}
use Rattle.frame.specs.Reading.{body, padded}
use Rattle.frame.specs.declared.command.Command.TheVariants.{Session, Connection, Parameter, ProcessData, FailSafeData}
use Rattle.sink.specs.Octets.{Lit}
use Rattle.history.specs.Events.{Event, Took, Idle, NotDown, line, ticks}

-- the data octets of a frame of d data octets, with zeros behind them
abbrev pub data_octets : (d : ℕ) → List ℕ → List ℕ
data_octets d octets = padded (body d octets)

-- from the latest taken Session frame on, these data, Parameter and Connection frames were taken, in this order from the
-- last to the first, the latest of each first; no reset came and no fault but that of a release that was refused
pub data Since : List Event → (datas parameters connections : List (List ℕ)) → Type 0 where
  session : {es : List Event} {e : Event} (octets : List ℕ) → Took Session octets e → Since (e ∷ es) [] [] []
  connection : {es : List Event} {e : Event} {octets : List ℕ} {cs : List (List ℕ)} →
      Took Connection octets e → Since es [] [] cs → Since (e ∷ es) [] [] (octets ∷ cs)
  parameter : {es : List Event} {e : Event} {octets : List ℕ} {ps cs : List (List ℕ)} →
      Took Parameter octets e → Since es [] ps cs → Since (e ∷ es) [] (octets ∷ ps) cs
  process_data : {es : List Event} {e : Event} {octets : List ℕ} {ds ps cs : List (List ℕ)} →
      Took ProcessData octets e → Since es ds ps cs → Since (e ∷ es) (octets ∷ ds) ps cs
  fail_safe_data : {es : List Event} {e : Event} {octets : List ℕ} {ds ps cs : List (List ℕ)} →
      Took FailSafeData octets e → Since es ds ps cs → Since (e ∷ es) (octets ∷ ds) ps cs
  idle : {es : List Event} {e : Event} {ds ps cs : List (List ℕ)} → Idle e → Since es ds ps cs → Since (e ∷ es) ds ps cs

-- the latest taken frame is a ProcessData frame in which bit k of octet i is set; its call gave no fault, and since then
-- came no fault, no reset and no down feedback, and so many ticks
pub data Carried (d i k : ℕ) : ℕ → List Event → Type 0 where
  here : {es : List Event} {e : Event} (octets : List ℕ) →
      Took ProcessData octets e → line e ≡ None → Lit (data_octets d octets) i k → Carried d i k 0 (e ∷ es)
  later : {es : List Event} {e : Event} {n : ℕ} → Idle e → NotDown e → Carried d i k n es → Carried d i k (ticks e + n) (e ∷ es)

-- for a connection of d data octets and n user octets, whose watchdog time follows from the Parameter frames
pub record Live (d n : ℕ) (watchdog : List (List ℕ) → ℕ) (es : List Event) (i k : ℕ) : Type 0 where
  pub since_taken : ℕ
  pub datas : List (List ℕ)
  pub parameters : List (List ℕ)
  pub connections : List (List ℕ)
  pub latest : Carried d i k since_taken es
  pub opened : Since es datas parameters connections
  pub connection_in_full : length connections ≡ pieces d 4
  pub parameter_in_full : length parameters ≡ pieces d (6 + n)
  pub in_time : since_taken < watchdog parameters
