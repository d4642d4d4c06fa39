-- What a master sends while a connection is set up. Assumes nothing.
use Rattle.std.proofs.Common.{◌≡◌, ℕ, ◌+◌, ◌<◌, ◌≤◌, true, cond, eqb, ltb, List, Some, None, Option, refl, ap, ◌∙◌}
use Rattle.std.specs.Str.{bytes_eq}
use Rattle.std.proofs.lemmas.Bool.{cond-true, cond-false, lt-ltb, le-ltb, eq-eqb}
use Rattle.std.proofs.lemmas.Slice.Eq.{bytes_eq-Decides}
use Rattle.faults.specs.declared.fault.Fault.TheVariants.{InvalidConnectionId, InvalidCrc, InvalidData}
use Rattle.faults.specs.declared.state.State.{State}
use Rattle.faults.specs.declared.state.State.TheVariants as s
use Rattle.frame.specs.Commands.{command}
use Rattle.frame.specs.Reading.{command_octet, body, padded, id}
use Rattle.frame.specs.declared.command.Command.{Command}
use Rattle.frame.specs.declared.command.Command.TheVariants as c
use Rattle.chain.specs.Numbers.{is_right}
use Rattle.plan.specs.declared.sealed_plan.SealedPlan.{SealedPlan}
use Rattle.shared_end.specs.declared.link.Link.{Link}
use Rattle.shared_end.specs.Endpoints.{width}
use Rattle.shared_end.specs.Outcomes.{unless}
use Rattle.master_end.specs.declared.master.Master.{Master}
use Rattle.outlet.specs.declared.Outlet.{Outlet}
use Rattle.outlet.specs.declared.blocks.Block.{Block}
use Rattle.outlet.specs.declared.blocks.Block.TheVariants.{Connection, Parameter}
use Rattle.outlet.specs.Blocks.{state_of, command_of, count_of}
use Rattle.outlet.specs.Steps.{piece_at, piece_out, behind, next_out, read, piece_taken}
use Rattle.outlet.specs.Outcomes.{outcome}
use Rattle.master_end.specs.Matching.{asked}

-- the outcome, by the state, the kind of the frame and its data octets
pub asked_is : {S : Type 0} (e : Master S) (f : List ℕ) (n : ℕ) (st : State) (k : Option Command) (piece : List ℕ) →
    e.endpoint.state ≡ st → command (command_octet f) ≡ k → padded (body (width e.endpoint) f) ≡ piece →
    asked e f n ≡ outcome e.endpoint.link e.outlet e.plan f piece st n k
asked_is e f n st k piece is_state is-kind is-piece =
    (λ i. outcome e.endpoint.link e.outlet e.plan f (is-piece i) (is_state i) n (is-kind i))

module _ (l : Link) (o : Outlet) (p : SealedPlan) (f piece : List ℕ) (n : ℕ) where
  abbrev d : ℕ
  d = l.size.octets

  module _ (right : is_right l.numbers d f ≡ true) where
    -- behind the answer to the Session frame
    pub on_session : outcome l o p f piece s.Session n (Some c.Session) ≡ piece_out (read l o p f) o p Connection 0
    on_session = ap (λ b. unless (cond b None (Some InvalidCrc)) (piece_out (read l o p f) o p Connection 0)) right

    -- behind the answer to a piece
    on_piece : (b : Block) → outcome l o p f piece (state_of b) n (Some (command_of b)) ≡ piece_taken l o p f b piece
    on_piece Connection = refl
    on_piece Parameter = refl

    acknowledged : (b : Block) → id d f ≡ p.draft.id → piece ≡ piece_at l o p b o.at →
        piece_taken l o p f b piece ≡ next_out (read l o p f) o p b
    acknowledged b is same =
        let e₁ : eqb (id d f) p.draft.id ≡ true = eq-eqb _ _ is in
        let e₂ : bytes_eq piece (piece_at l o p b o.at) ≡ true = (bytes_eq-Decides piece (piece_at l o p b o.at)).1 same in
        (λ i. unless (cond (e₁ i) (cond (e₂ i) (cond (right i) None (Some InvalidCrc)) (Some InvalidData)) (Some InvalidConnectionId))
        (next_out (read l o p f) o p b))

    pub on_answer : (b : Block) → id d f ≡ p.draft.id → piece ≡ piece_at l o p b o.at →
        outcome l o p f piece (state_of b) n (Some (command_of b)) ≡ next_out (read l o p f) o p b
    on_answer b is same = on_piece b ∙ acknowledged b is same

-- the next piece goes out, or what is behind the last one
module _ (l : Link) (o : Outlet) (p : SealedPlan) (b : Block) where
  abbrev at : ℕ
  at = o.at + l.size.octets

  pub more : at < count_of p b → next_out l o p b ≡ piece_out l o p b at
  more h = cond-true (ltb at (count_of p b)) (piece_out l o p b at) (behind l o p b) (lt-ltb _ _ h)

  pub done : count_of p b ≤ at → next_out l o p b ≡ behind l o p b
  done h = cond-false (ltb at (count_of p b)) (piece_out l o p b at) (behind l o p b) (le-ltb _ _ h)
