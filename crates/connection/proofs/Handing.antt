-- A frame that one end wrote, at the other end. Assumes nothing.
use Rattle.std.proofs.Common.{◌≡◌, ℕ, ◌-◌, true, List, ◌++◌, length, take, replicate, Some, sym, refl, ap, ◌∙◌, subst}
use Rattle.std.proofs.lemmas.Option.{cond_some}
use Rattle.length.proofs.Bounds.{Bounds}
use Rattle.crc.specs.Crc.{shared}
use Rattle.frame.specs.Commands.{octet, command}
use Rattle.frame.specs.Reading.{command_octet, id, body, padded}
use Rattle.frame.specs.declared.command.Command.{Command}
use Rattle.frame.specs.declared.command.Command.TheVariants as c
use Rattle.frame.proofs.RoundTrip.{frame_command, frame_id, frame_octets_are}
use Rattle.chain.specs.declared.numbers.Numbers.{Numbers}
use Rattle.chain.specs.Numbers.{sent_number, sent, after_sending, is_right, after_taking}
use Rattle.chain.specs.Chain.{InStep}
use Rattle.chain.proofs.Law.{follows}

-- being in step is symmetric
pub turned : (x y : Numbers) → InStep x y → InStep y x
turned x y s =
    record {
      own_peer = sym s.peer_own;
      peer_own = sym s.own_peer;
      old_own = sym s.old_peer;
      old_peer = sym s.old_own;
      last = sym s.last;
    }

-- f is a frame of the end with the numbers x, read at the end with the numbers y: kind, ID and data octets are those written,
-- its CRCs are right, and both are in step again
pub record Handed (x y : Numbers) (d i : ℕ) (k : Command) (o piece f : List ℕ) : Type 0 where
  pub right : is_right y d f ≡ true
  pub kind_is : command (command_octet f) ≡ Some k
  pub id_is : id d f ≡ i
  pub piece_is : padded (body d f) ≡ piece
  pub again : InStep (after_sending x i (octet k) o) (after_taking y d f)

known : (k : Command) → command (octet k) ≡ Some k
known c.Reset = refl
known c.Session = refl
known c.Connection = refl
known c.Parameter = refl
known c.ProcessData = refl
known c.FailSafeData = refl

-- the first d octets, with zeros behind them
abbrev pub cut : ℕ → List ℕ → List ℕ
cut d o = take d o ++ replicate (32 - d) 0

module _ (x y : Numbers) (s : InStep x y) (d i : ℕ) (k : Command) (o : List ℕ) (b : Bounds d) (room : length o ≡ 32) where
  abbrev register : ℕ
  register = shared x.last i (sent_number x i (octet k) o) (octet k)

  straight : Handed x y d i k o (cut d o) (sent x d i (octet k) o)
  straight =
      let f = follows x y s d i (octet k) o b.low b.even in
      record {
        right = (cond_some (is_right y d (sent x d i (octet k) o)) _ _ f.right).0;
        kind_is = ap command (frame_command d (octet k) i register o b.low b.even) ∙ known k;
        id_is = frame_id d (octet k) i register o b.low b.even;
        piece_is = frame_octets_are d (octet k) i register o b.low b.high b.even room;
        again = f.in_step;
      }

  -- by an end that keeps the same data length
  pub handed : (w : ℕ) (f : List ℕ) → w ≡ d → f ≡ sent x d i (octet k) o → Handed x y w i k o (cut d o) f
  handed w f e same =
      subst (λ n. Handed x y n i k o (cut d o) f) (sym e)
      (subst (λ g. Handed x y d i k o (cut d o) g) (sym same) straight)
