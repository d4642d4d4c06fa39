-- How a written frame gets into a buffer. Assumes nothing.
use Rattle.std.specs.Prelude.{◌≡◌, ℕ, ◌<◌, ◌≤◌, List, ◌++◌, length, take, drop, Ok, Err, Result}
use Rattle.codes.specs.declared.refusal.Refusal.{Refusal}
use Rattle.codes.specs.declared.refusal.Refusal.TheVariants.{ShortReplyBuffer}
use Rattle.length.specs.Lawful.{frame_octets}
use Rattle.frame.specs.declared.outgoing.Outgoing.{Outgoing}

-- the frame fills the front of the buffer and the rest is kept; a buffer that is shorter is kept whole
abbrev pub Put : (octets before after : List ℕ) → Result (Unit {0}) Refusal → Type 0
Put octets before after (Ok r) = (length octets ≤ length before) × (after ≡ octets ++ drop (length octets) before)
Put octets before after (Err e) = (length before < length octets) × (e ≡ ShortReplyBuffer) × (after ≡ before)

-- the octets of a written frame stand at the front of room for the longest frame
abbrev pub front : Outgoing → List ℕ
front f = take (frame_octets f.size.octets) f.octets
