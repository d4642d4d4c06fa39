-- What a received frame reads as. Assumes nothing.
use Rattle.std.specs.Prelude.{◌≡◌, ℕ, true, false, List, [], Some, None, Ok, Err, Option, Result, option_map, unwrap_or, codes}
use Rattle.codes.specs.declared.refusal.Refusal.{Refusal}
use Rattle.codes.specs.declared.refusal.Refusal.TheVariants.{WrongFrameLength}
use Rattle.frame.specs.Commands.{command, name}
use Rattle.frame.specs.Reading.{command_octet, body, whole}
use Rattle.frame.specs.declared.command.Command.{Command}
use Rattle.frame.specs.declared.command.Command.TheVariants as c
use Rattle.frame.specs.declared.received.Frame.{Frame}
use Rattle.frame.specs.declared.received.Frame.TheVariants as f

-- it is of that kind, and holds that body; one of no kind is unknown
abbrev pub Is : Frame → Option Command → List ℕ → Type 0
Is (f.Reset b) k octets = (k ≡ Some c.Reset) × (b.now ≡ octets)
Is (f.Session b) k octets = (k ≡ Some c.Session) × (b.now ≡ octets)
Is (f.Connection b) k octets = (k ≡ Some c.Connection) × (b.now ≡ octets)
Is (f.Parameter b) k octets = (k ≡ Some c.Parameter) × (b.now ≡ octets)
Is (f.ProcessData b) k octets = (k ≡ Some c.ProcessData) × (b.now ≡ octets)
Is (f.FailSafeData b) k octets = (k ≡ Some c.FailSafeData) × (b.now ≡ octets)
Is f.Unknown k octets = k ≡ None

-- the command of a frame of a known kind
abbrev pub kind : Frame → Option Command
kind (f.Reset b) = Some c.Reset
kind (f.Session b) = Some c.Session
kind (f.Connection b) = Some c.Connection
kind (f.Parameter b) = Some c.Parameter
kind (f.ProcessData b) = Some c.ProcessData
kind (f.FailSafeData b) = Some c.FailSafeData
kind f.Unknown = None

-- the body that it holds; one of no kind holds none
abbrev pub held : Frame → List ℕ
held (f.Reset b) = b.now
held (f.Session b) = b.now
held (f.Connection b) = b.now
held (f.Parameter b) = b.now
held (f.ProcessData b) = b.now
held (f.FailSafeData b) = b.now
held f.Unknown = []

-- how its kind is printed
abbrev pub kind_name : Frame → List ℕ
kind_name f = unwrap_or (option_map name (kind f)) (codes "unknown")

-- a whole frame reads as the kind of its command, with its body; any other is refused
abbrev pub Read : ℕ → List ℕ → Result Frame Refusal → Type 0
Read d octets (Ok r) = (whole d octets ≡ true) × Is r (command (command_octet octets)) (body d octets)
Read d octets (Err e) = (whole d octets ≡ false) × (e ≡ WrongFrameLength)
