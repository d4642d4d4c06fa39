-- A step and what was answered come to the outcome. Assumes nothing.
use Rattle.std.proofs.Common.{ℕ, ◌≤◌, List, length, Some, Ok, Err, Result, sym, ap, ◌∙◌, subst}
use Rattle.faults.specs.declared.fault.Fault.{Fault}
use Rattle.faults.specs.declared.line.Line.{Line}
use Rattle.faults.specs.Faults.{number}
use Rattle.length.specs.Lawful.{frame_octets}
use Rattle.frame.specs.Reading.{command_octet}
use Rattle.journal.specs.declared.queue.Journal.{Journal}
use Rattle.sink.specs.declared.Sink.{Ghosts}
use Rattle.shared_end.specs.declared.answer.FrameAnswer.{FrameAnswer}
use Rattle.shared_end.specs.declared.endpoint.Endpoint.{Endpoint}
use Rattle.shared_end.specs.declared.link.Link.{Link}
use Rattle.shared_end.specs.declared.step.Step.{Step}
use Rattle.shared_end.specs.Outcomes.{Outcome, taken, fault, Comes, reset_message}
use Rattle.shared_end.specs.Endpoints.{width, with_link, acted, missed, restarted}
use Rattle.shared_end.specs.Calls.{line_of, Noted, filled, Room, Answered, Framed}
use Rattle.shared_end.proofs.Filling.{filled_is}

-- where the buffer has room for a frame of the connection, it has room for the frame that goes out
pub room : {X : Type 0} (o : Outcome X) (link : Link) (x : X) (r : Result Step Fault) (l : Link) (x' : X) (reply : List ℕ) → Comes o link x r l x' → frame_octets link.size.octets ≤ length reply → Room l.size.octets r reply
room (taken st act msg k own) link x (Ok t) l x' reply (h₁, h₂, h₃, h₄, h₅, h₆) h =
    subst (λ z. frame_octets z.octets ≤ length reply) (sym h₆ ∙ sym h₃.size_is) h
room (taken st act msg k own) link x (Err f) l x' reply h₀ h = absurd h₀
room (fault f) link x (Ok t) l x' reply h₀ h = absurd h₀
room (fault f) link x (Err g) l x' reply (h₁, h₂, h₃) h = subst (λ k. frame_octets k.size.octets ≤ length reply) (sym h₂) h

module _ {S X : Type 0} (m : Ghosts S) (e : Endpoint S) (x : X) (l : Link) (x' : X) (octets : List ℕ)
    (a : FrameAnswer) (e' : Endpoint S) (reply reply' : List ℕ) (j j' : Journal Line) where
  -- the link was changed in place by the step
  pub framed : (o : Outcome X) (r : Result Step Fault) → Comes o e.link x r l x' →
      Answered m (with_link e l) (command_octet octets) r a e' reply reply' j j' →
      Framed m e x octets o a e' x' reply reply' j j'
  framed (taken st act msg link own) (Ok t) (h₁, h₂, h₃, h₄, h₅, h₆) h =
      let missing = ap (λ (b : _). line_of e.state (command_octet octets) (missed m b e.sink)) h₂ in
      record {
        endpoint_is = h.endpoint_is ∙ (λ i. record { state = h₁ i; link = h₄ i; sink = acted m (h₂ i) e.sink });
        own_is = h₅;
        state_is = h.state_is;
        taken_is = h.taken_is;
        leaves = record {
          line_is = h.line_is ∙ missing;
          reply_is =
              h.reply_is
              ∙ filled_is link.size msg t.reply h₃ reply
              ∙ ap (λ z. filled z.octets (Some msg) reply) h₆;
          journal_is = subst (λ q. Noted q j j') missing h.journal_is;
        };
      }
  framed (taken st act msg link own) (Err f) h₀ h = absurd h₀
  framed (fault f) (Ok t) h₀ h = absurd h₀
  framed (fault f) (Err g) (h₁, h₂, h₃) h =
      record {
        endpoint_is = h.endpoint_is ∙ ap (λ k. restarted m (with_link e k)) h₂;
        own_is = h₃;
        state_is = h.state_is;
        taken_is = h.taken_is;
        leaves = record {
          line_is = h.line_is ∙ ap (λ q. line_of e.state (command_octet octets) (Some q)) h₁;
          reply_is = h.reply_is ∙ ap (λ k. filled k.size.octets (Some (reset_message (number g))) reply) h₂ ∙ ap (λ q. filled (width e) (Some (reset_message (number q))) reply) h₁;
          journal_is = subst (λ q. Noted (line_of e.state (command_octet octets) (Some q)) j j') h₁ h.journal_is;
        };
      }
