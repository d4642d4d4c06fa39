-- What a frame that is taken leaves at an end. Assumes nothing.
use Rattle.std.proofs.Common.{◌≡◌, ℕ, List, take, drop, Some, ap, ◌∙◌, take_at}
use Rattle.faults.specs.declared.line.Line.{Line}
use Rattle.faults.specs.declared.state.State.{State}
use Rattle.length.specs.Lawful.{frame_octets}
use Rattle.length.specs.declared.DataLength.{DataLength}
use Rattle.journal.specs.declared.queue.Journal.{Journal}
use Rattle.sink.specs.declared.Sink.{Ghosts}
use Rattle.shared_end.specs.declared.answer.FrameAnswer.{FrameAnswer}
use Rattle.shared_end.specs.declared.endpoint.Endpoint.{Endpoint}
use Rattle.shared_end.specs.declared.link.Link.{Link}
use Rattle.shared_end.specs.declared.step.Act.{Act}
use Rattle.shared_end.specs.Outcomes.{Message, Outcome, taken, sends, kept}
use Rattle.shared_end.specs.Endpoints.{width, acted, concluded}
use Rattle.shared_end.specs.Calls.{filled, Framed}
use Rattle.shared_end.proofs.Filling.{octets_out, length_out}

-- the octets of a frame that filled the front of a buffer
pub front_of : (size : DataLength) (msg : Message) (buffer reply : List ℕ) → reply ≡ filled size.octets (Some msg) buffer →
    take (frame_octets size.octets) reply ≡ octets_out size msg
front_of size msg buffer reply e =
    ap (take (frame_octets size.octets)) e
    ∙ take_at (octets_out size msg) (drop (frame_octets size.octets) buffer) (frame_octets size.octets) (length_out size msg)

module _ {S X : Type 0} (m : Ghosts S) where
  pub record Took (e : Endpoint S) (st : State) (act : Act) (msg : Message) (l : Link) (x : X) (e' : Endpoint S) (x' : X) (front : List ℕ) : Type 0 where
    pub state_is : e'.state ≡ st
    pub link_is : e'.link ≡ l
    pub sink_is : e'.sink ≡ acted m act e.sink
    pub own_is : x' ≡ x
    pub front_is : front ≡ octets_out e.link.size msg

  pub took : (e : Endpoint S) (x : X) (octets : List ℕ) (o : Outcome X) (a : FrameAnswer) (e' : Endpoint S) (x' : X) (buffer reply : List ℕ) (j j' : Journal Line) →
      Framed m e x octets o a e' x' buffer reply j j' → (st : State) (act : Act) (msg : Message) (l : Link) (y : X) → o ≡ taken st act msg l y →
      Took e st act msg l y e' x' (take (frame_octets (width e)) reply)
  took e x octets o a e' x' buffer reply j j' h st act msg l y is =
      let same : e' ≡ record { state = st; link = l; sink = acted m act e.sink } = h.endpoint_is ∙ ap (concluded m e) is in
      record {
        state_is = ap (λ (k : Endpoint S). k.state) same;
        link_is = ap (λ (k : Endpoint S). k.link) same;
        sink_is = ap (λ (k : Endpoint S). k.sink) same;
        own_is = h.own_is ∙ ap (kept x) is;
        front_is = front_of e.link.size msg buffer reply (h.leaves.reply_is ∙ ap (λ (q : Outcome X). filled (width e) (Some (sends q)) buffer) is);
      }
