-- What the calls of a slave do, over a sink and a profile. Assumes nothing.
use Rattle.std.specs.Prelude.{◌≡◌, ℕ, Bool, true, false, List, replicate, Some, None, Ok, Err, Result}
use Rattle.codes.specs.declared.refusal.Refusal.{Refusal}
use Rattle.faults.specs.declared.line.Line.{Line}
use Rattle.faults.specs.declared.state.State.{State}
use Rattle.faults.specs.declared.state.State.TheVariants as s
use Rattle.length.specs.declared.DataLength.{DataLength}
use Rattle.journal.specs.declared.queue.Journal.{Journal}
use Rattle.sink.specs.declared.Sink as sink
use Rattle.profile.specs.declared.profile.Profile as profile
use Rattle.shared_end.specs.declared.answer.Answer.{Answer}
use Rattle.shared_end.specs.declared.answer.FrameAnswer.{FrameAnswer}
use Rattle.shared_end.specs.declared.data_command.DataCommand.{DataCommand}
use Rattle.shared_end.specs.Endpoints as endpoints
use Rattle.shared_end.specs.Calls as calls
use Rattle.shared_end.specs.Calls.{unfit, Untouched, Framed, Holding}
use Rattle.slave_end.specs.declared.slave.Slave.{Slave}
use Rattle.slave_end.specs.Matching.{asked}

-- the watchdog of a slave runs in state Data
abbrev pub runs : State → Bool
runs s.Reset = false
runs s.Session = false
runs s.Connection = false
runs s.Parameter = false
runs s.Data = true

module _ {S P : Type 0} where
  abbrev pub holding : Holding S (Slave S P)
  holding = record {
    endpoint = λ e. e.endpoint;
    with_endpoint = λ e c. record { endpoint = c; inlet = e.inlet; profile = e.profile };
  }

  abbrev pub Sets : Slave S P → List ℕ → DataCommand → Result (Unit {0}) Refusal → Slave S P → Type 0
  Sets = calls.Sets holding

  module _ (m : sink.Ghosts S) where
    -- a slave that was not used yet
    abbrev pub new_slave : DataLength → (address : ℕ) → S → P → Slave S P
    new_slave size address s p =
        record {
          endpoint = endpoints.new_endpoint m size 0 s;
          inlet = record { address = address; id = 0; block = replicate 64 0; stored = 0 };
          profile = p;
        }

    abbrev pub Ticks : Slave S P → List ℕ → Journal Line → Result Answer Refusal → Slave S P → List ℕ → Journal Line → Type 0
    Ticks e = calls.Ticks holding m (runs e.endpoint.state) e

    abbrev pub Resets : Slave S P → List ℕ → Journal Line → Result Answer Refusal → Slave S P → List ℕ → Journal Line → Type 0
    Resets = calls.Resets holding m

    abbrev pub told : Slave S P → Bool → Slave S P
    told = calls.told holding m

    module _ (p : profile.Ghosts P) where
      -- a frame that is accepted comes to its outcome, and the profile is kept; at a refusal all is as it was
      abbrev pub Frames : Slave S P → List ℕ → (session : ℕ) → List ℕ → Journal Line → Result FrameAnswer Refusal → Slave S P → List ℕ → Journal Line → Type 0
      Frames e octets n reply j (Ok a) e' reply' j' =
          (unfit (endpoints.width e.endpoint) octets reply ≡ None) × (e'.profile ≡ e.profile)
          × Framed m e.endpoint e.inlet octets (asked p e octets n) a e'.endpoint e'.inlet reply reply' j j'
      Frames e octets n reply j (Err x) e' reply' j' =
          (unfit (endpoints.width e.endpoint) octets reply ≡ Some x) × Untouched e e' reply reply' j j'
