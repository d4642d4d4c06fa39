-- Two accepted frames make an exchange. Assumes nothing.
use Rattle.std.proofs.Common.{◌≡◌, ℕ, ◌+◌, ◌≤◌, Bool, true, false, cond, ltb, List, length, take, replicate, Some, None, Ok, Err, Option, sym, refl, ap, ◌∙◌, subst, add-one, arith, rules, length-take-le, le-ltb, eq-eqb, eqb-true}
use Rattle.std.proofs.lemmas.Option.{none-some}
use Rattle.codes.specs.declared.refusal.Refusal.{Refusal}
use Rattle.codes.specs.declared.refusal.Refusal.TheVariants.{WrongFrameLength, ShortReplyBuffer}
use Rattle.faults.specs.declared.line.Line.{Line}
use Rattle.frame.specs.Commands.{command}
use Rattle.frame.specs.Reading.{whole, command_octet, body, padded}
use Rattle.length.specs.Lawful.{frame_octets}
use Rattle.length.proofs.Bounds.{bounds}
use Rattle.journal.specs.declared.queue.Journal.{Journal}
use Rattle.sink.specs.declared.Sink as sink
use Rattle.profile.specs.declared.profile.Profile as profile
use Rattle.shared_end.specs.declared.answer.FrameAnswer.{FrameAnswer}
use Rattle.shared_end.specs.Endpoints.{width}
use Rattle.shared_end.specs.Checks.{short}
use Rattle.shared_end.specs.Calls.{unfit}
use Rattle.master_end.specs.declared.master.Master.{Master}
use Rattle.master_end.specs.Calls as master
use Rattle.master_end.specs.Matching as masters
use Rattle.slave_end.specs.declared.slave.Slave.{Slave}
use Rattle.slave_end.specs.Calls as slave
use Rattle.slave_end.specs.Matching as slaves
use Rattle.connection.specs.declared.exchanging.Sessions.{Sessions}
use Rattle.connection.specs.Exchanges as exchanges
use Rattle.connection.specs.Exchanges.{Exchanged, Exchanges}
use Rattle.connection.specs.Driving.{pair, Held, Made, InOrder, none, more}
use Rattle.connection.proofs.Sizes.{sized_after, slave_sized, master_sized}

-- a frame that is not refused is whole
not_refused : (b : Bool) (q : Option Refusal) → cond b q (Some WrongFrameLength) ≡ None → b ≡ true
not_refused true q h = refl
not_refused false q h = absurd (search rules)

-- a whole frame and a buffer that is long enough are not refused
never : (d : ℕ) (octets buffer : List ℕ) (x : Refusal) → length octets ≡ frame_octets d → frame_octets d ≤ length buffer → unfit d octets buffer ≡ Some x → ⊥
never d octets buffer x all room h =
    let e₁ : whole d octets ≡ true = eq-eqb _ _ all in
    let e₂ : ltb (length buffer) (frame_octets d) ≡ false = le-ltb _ _ room in
    let none : unfit d octets buffer ≡ None = (λ i. cond (e₁ i) (cond (e₂ i) (Some ShortReplyBuffer) None) (Some WrongFrameLength)) in
    none-some x (sym none ∙ h)

module _ {S T P : Type 0} (m : sink.Ghosts S) (t : sink.Ghosts T) (p : profile.Ghosts P) (e e' : Master S) (f f' : Slave T P) (latest reply : List ℕ)
    (there : List ℕ) (there_is : there ≡ take (frame_octets (width e.endpoint)) latest) (all : length latest ≡ 67)
    (sessions : Sessions) (buffer : List ℕ) (k k' : Journal Line) (r : FrameAnswer) (one : slave.Frames t p f there sessions.slave buffer k (Ok r) f' reply k') where
  low : width e.endpoint ≤ 32
  low = (bounds (width e.endpoint) e.endpoint.link.size.lawful).high

  same_width : width f.endpoint ≡ width e.endpoint
  same_width =
      let mine : length there ≡ frame_octets (width f.endpoint) = eqb-true _ _ (not_refused (whole (width f.endpoint) there) (short (width f.endpoint) buffer) one.0) in
      let yours : length there ≡ frame_octets (width e.endpoint) = ap length there_is ∙ length-take-le _ latest (omega (arith, low)) in
      omega (arith, mine, yours)

  module _ (back : List ℕ) (back_is : back ≡ take (frame_octets (width e.endpoint)) reply) (reply₂ : List ℕ) (j j' : Journal Line) where
    pub made : (r₂ : FrameAnswer) → master.Frames m e back sessions.master (replicate 67 0) j (Ok r₂) e' reply₂ j' → Made m t p e f sessions latest reply₂ e' f' j j' k k'
    made r₂ two =
        record {
          exchanged = record {
            slave_session = sessions.slave;
            slave_buffer = buffer;
            slave_reply = reply;
            slave_journal = k;
            slave_journal_after = k';
            slave_answer = r;
            there = subst (λ o. slave.Frames t p f o sessions.slave buffer k (Ok r) f' reply k') there_is one;
            master_session = sessions.master;
            master_buffer = replicate 67 0;
            master_reply = reply₂;
            master_journal = j;
            master_journal_after = j';
            master_answer = r₂;
            back =
                subst (λ o. master.Frames m e o sessions.master (replicate 67 0) j (Ok r₂) e' reply₂ j')
                (back_is ∙ ap (λ d. take (frame_octets d) reply) (sym same_width)) two;
            latest_is = refl;
          };
          master_session_is = refl;
          slave_session_is = refl;
          master_journal_is = refl;
          master_journal_after_is = refl;
          slave_journal_is = refl;
          slave_journal_after_is = refl;
          buffer_is = refl;
          reply_is = refl;
          same_width = same_width;
          master_width =
              ap width two.2.endpoint_is
              ∙ sized_after m e.endpoint (masters.asked e back sessions.master)
              (master_sized e.endpoint.link e.outlet e.plan back (padded (body (width e.endpoint) back)) e.endpoint.state sessions.master (command (command_octet back)));
          slave_width =
              ap width one.2.endpoint_is
              ∙ sized_after t f.endpoint (slaves.asked p f there sessions.slave)
              (slave_sized p f.endpoint.link f.inlet there (padded (body (width f.endpoint) there)) f.endpoint.state sessions.slave (command (command_octet there)));
        }

    -- the slave's reply is not refused
    pub accepted : length reply ≡ 67 → (x : Refusal) → master.Frames m e back sessions.master (replicate 67 0) j (Err x) e' reply₂ j' → ⊥
    accepted whole-reply x two =
        never (width e.endpoint) back (replicate 67 0) x (ap length back_is ∙ length-take-le _ reply (omega (arith, low))) (omega (arith, low)) two.0

-- exchanges in order, with the frames alone: all have the data length of the first
module _ {S T P : Type 0} (m : sink.Ghosts S) (t : sink.Ghosts T) (p : profile.Ghosts P) (sessions : Sessions) where
  pub same_length : {n : ℕ} {a b : Held S T P} → InOrder m t p sessions n a b → width b.master.endpoint ≡ width a.master.endpoint
  same_length none = refl
  same_length (more before one) = one.master_width ∙ same_length before

  pub exchanges_of : {n : ℕ} {a b : Held S T P} → (d : ℕ) → width a.master.endpoint ≡ d → InOrder m t p sessions n a b →
      Exchanges m t p n (pair d a.master a.slave a.buffer) (pair d b.master b.slave b.buffer)
  exchanges_of d is none = exchanges.none
  exchanges_of d is (more {b = b} {c = c} before one) =
      exchanges.more (exchanges_of d is before)
      (subst (λ w. Exchanged m t p (pair w b.master b.slave b.buffer) (pair w c.master c.slave c.buffer)) (same_length before ∙ is) one.exchanged)

  pub one_more : (n : ℕ) (a b c : Held S T P) → InOrder m t p sessions n a b →
      Made m t p b.master b.slave sessions b.buffer c.buffer c.master c.slave b.master_journal c.master_journal b.slave_journal c.slave_journal → InOrder m t p sessions (n + 1) a c
  one_more n a b c before one = subst (λ k. InOrder m t p sessions k a c) (sym (add-one n)) (more {b = b} {c = c} before one)
