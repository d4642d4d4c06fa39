-- The octets of a frame that goes out, and the buffer that they fill. Assumes nothing.
use Rattle.std.proofs.Common.{◌≡◌, ℕ, List, ◌++◌, length, take, drop, Some, ap, ◌∙◌, eqb-true}
use Rattle.std.proofs.lemmas.List.{take_at}
use Rattle.length.specs.Lawful.{frame_octets}
use Rattle.length.specs.declared.DataLength.{DataLength}
use Rattle.length.proofs.Bounds.{bounds}
use Rattle.crc.specs.Crc.{shared}
use Rattle.frame.specs.Commands.{octet}
use Rattle.frame.specs.Writing.{front}
use Rattle.frame.specs.declared.outgoing.Outgoing.{Outgoing}
use Rattle.frame.proofs.RoundTrip.{frame_whole}
use Rattle.chain.specs.Numbers.{sent, sent_number}
use Rattle.shared_end.specs.Outcomes.{Message, Sends}
use Rattle.shared_end.specs.Calls.{filled}

module _ (size : DataLength) (m : Message) where
  abbrev d : ℕ
  d = size.octets

  -- the octets that go out
  abbrev pub octets_out : List ℕ
  octets_out = sent m.from d m.id (octet m.command) m.octets

  pub length_out : length octets_out ≡ frame_octets d
  length_out =
      let b = bounds d size.lawful in
      eqb-true _ _ (frame_whole d (octet m.command) m.id
      (shared m.from.last m.id (sent_number m.from m.id (octet m.command) m.octets) (octet m.command))
      m.octets b.low b.even)

  pub front_is : (f : Outgoing) → Sends size m f → front f ≡ octets_out
  front_is f s =
      ap (λ n. take (frame_octets n) f.octets) (ap (λ z. z.octets) s.size_is)
      ∙ ap (take (frame_octets d)) s.octets_are
      ∙ take_at octets_out _ (frame_octets d) length_out

  pub filled_is : (f : Outgoing) → Sends size m f → (buffer : List ℕ) → front f ++ drop (frame_octets f.size.octets) buffer ≡ filled d (Some m) buffer
  filled_is f s buffer =
      ap (λ o. o ++ drop (frame_octets f.size.octets) buffer) (front_is f s)
      ∙ ap (λ z. octets_out ++ drop (frame_octets z.octets) buffer) s.size_is
