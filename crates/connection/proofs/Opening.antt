-- The first two exchanges after a reset of the master: Reset, then Session. Assumes nothing.
use Rattle.std.proofs.Common.{◌≡◌, ℕ, ◌-◌, true, List, ◌++◌, take, replicate, Some, Ok, sym, refl, ap, ◌∙◌, subst, arith}
use Rattle.faults.specs.declared.line.Line.{Line}
use Rattle.faults.specs.declared.state.State.TheVariants as s
use Rattle.length.specs.Lawful.{frame_octets}
use Rattle.length.proofs.Bounds.{bounds}
use Rattle.journal.specs.declared.queue.Journal.{Journal}
use Rattle.frame.specs.Commands.{octet}
use Rattle.frame.specs.Reading.{body, padded}
use Rattle.frame.specs.declared.command.Command.TheVariants as c
use Rattle.chain.specs.declared.numbers.Numbers.{Numbers}
use Rattle.chain.specs.Numbers.{fresh, sent, after_sending}
use Rattle.chain.specs.Chain.{InStep}
use Rattle.sink.specs.declared.Sink as sink
use Rattle.sink.specs.Lawful.{Lawful}
use Rattle.profile.specs.declared.profile.Profile as profile
use Rattle.shared_end.specs.declared.answer.Answer.{Answer}
use Rattle.shared_end.specs.declared.data_command.DataCommand.TheVariants.{ProcessData}
use Rattle.shared_end.specs.declared.link.Link.{Link}
use Rattle.shared_end.specs.declared.step.Act.TheVariants.{Clear}
use Rattle.shared_end.specs.Link.{coded, numbered, freshened, after_writing, after_reading}
use Rattle.shared_end.specs.Outcomes.{Message, taken, reset_message}
use Rattle.shared_end.specs.Endpoints.{width}
use Rattle.master_end.specs.declared.master.Master.{Master}
use Rattle.outlet.specs.declared.Outlet.{Outlet}
use Rattle.outlet.specs.declared.blocks.Block.TheVariants.{Connection}
use Rattle.outlet.specs.Steps.{with_at}
use Rattle.master_end.specs.Calls as calls
use Rattle.inlet.specs.declared.Inlet.{Inlet}
use Rattle.slave_end.specs.declared.slave.Slave.{Slave}
use Rattle.inlet.specs.Steps.{opened}
use Rattle.slave_end.specs.Matching as slave
use Rattle.connection.specs.Fits.{Fits}
use Rattle.connection.specs.Exchanges.{Pair, Exchanged}
use Rattle.connection.proofs.Handing.{turned, Handed, cut, handed}
use Rattle.connection.proofs.Taking.{front_of, Took}
use Rattle.connection.proofs.Answering as answering
use Rattle.connection.proofs.Sending as sending
use Rattle.connection.proofs.Carrying as carrying
use Rattle.connection.proofs.Carrying.{Kept}
use Rattle.connection.proofs.Stages.{bounded, piece_of, Sending, piece_out_is, first_connection}

fresh_in_step : InStep fresh fresh
fresh_in_step = record { own_peer = refl; peer_own = refl; old_own = refl; old_peer = refl; last = refl }

module _ {S T P : Type 0} (t : sink.Ghosts T) (m₀ : Master S) where
  -- the Reset frame is out
  pub record Started (a : Pair S T P) : Type 0 where
    pub plan_is : a.master.plan ≡ m₀.plan
    pub user_is : a.master.outlet.user ≡ m₀.outlet.user
    pub master_width : width a.master.endpoint ≡ width m₀.endpoint
    pub slave_width : width a.slave.endpoint ≡ width m₀.endpoint
    pub address_is : a.slave.inlet.address ≡ m₀.plan.draft.address
    pub up_is : t.up a.slave.endpoint.sink ≡ true
    pub latest_is : a.latest ≡ sent fresh (width m₀.endpoint) 0 (octet c.Reset) (coded 0)

  -- the Session frame is out, and the octets are set
  pub record Opening (octets : List ℕ) (a : Pair S T P) : Type 0 where
    pub kept : Kept t m₀ octets a
    pub state_is : a.master.endpoint.state ≡ s.Session
    pub session : ℕ
    pub latest_is : a.latest ≡ sent fresh (width m₀.endpoint) 0 (octet c.Session) (numbered session)
    pub numbers_are : a.master.endpoint.link.numbers ≡ after_sending fresh 0 (octet c.Session) (numbered session)

  module _ (m : sink.Ghosts S) where
    -- a reset of the master
    pub starts : (p : profile.Ghosts P) (s₀ : Slave T P) → Fits p m₀ s₀ → t.up s₀.endpoint.sink ≡ true →
        (e : Master S) (buffer reply : List ℕ) (j j' : Journal Line) (r : Answer) → calls.Resets m m₀ buffer j (Ok r) e reply j' →
        Started (record { master = e; slave = s₀; latest = take (frame_octets (width m₀.endpoint)) reply })
    starts p s₀ fits up e buffer reply j j' r (resetting, rest) =
        record {
          plan_is = ap (λ (k : Master S). k.plan) rest;
          user_is = ap (λ (k : Master S). k.outlet.user) rest;
          master_width = ap width resetting.1;
          slave_width = fits.length_agrees;
          address_is = fits.address_agrees;
          up_is = up;
          latest_is = front_of m₀.endpoint.link.size (reset_message 0) buffer reply resetting.3.reply_is;
        }

module _ {S T P : Type 0} (m : sink.Ghosts S) (t : sink.Ghosts T) (law : Lawful t) (p : profile.Ghosts P) (m₀ : Master S)
    (a b : Pair S T P) (ex : Exchanged m t p a b) (h : Started t m₀ a) where
  there : Handed fresh fresh (width a.slave.endpoint) 0 c.Reset (coded 0) (cut (width m₀.endpoint) (coded 0)) a.latest
  there = handed fresh fresh fresh_in_step (width m₀.endpoint) 0 c.Reset (coded 0) (bounded m₀) refl (width a.slave.endpoint) a.latest h.slave_width h.latest_is

  slave_took : Took t a.slave.endpoint s.Reset Clear (reset_message 0) (freshened a.slave.endpoint.link) a.slave.inlet b.slave.endpoint b.slave.inlet
      (take (frame_octets (width a.slave.endpoint)) ex.slave_reply)
  slave_took = carrying.slave_took m t p a b ex s.Reset Clear (reset_message 0) (freshened a.slave.endpoint.link) a.slave.inlet
      (answering.asked_is p a.slave a.latest ex.slave_session a.slave.endpoint.state (Some c.Reset) (padded (body (width a.slave.endpoint) a.latest)) refl there.kind_is refl
      ∙ answering.on_reset p a.slave.endpoint.link a.slave.inlet a.latest (padded (body (width a.slave.endpoint) a.latest)) ex.slave_session a.slave.endpoint.state there.right)

  abbrev answer : List ℕ
  answer = take (frame_octets (width a.slave.endpoint)) ex.slave_reply

  back : Handed fresh fresh (width a.master.endpoint) 0 c.Reset (coded 0) (cut (width a.slave.endpoint) (coded 0)) answer
  back = handed fresh fresh fresh_in_step (width a.slave.endpoint) 0 c.Reset (coded 0) (bounds (width a.slave.endpoint) a.slave.endpoint.link.size.lawful) refl
      (width a.master.endpoint) answer (h.master_width ∙ sym h.slave_width) slave_took.front_is

  abbrev n : ℕ
  n = ex.master_session

  abbrev opens : Message
  opens = record { from = fresh; id = 0; command = c.Session; octets = numbered n }

  master_took : Took m a.master.endpoint s.Session Clear opens (after_writing (freshened a.master.endpoint.link) 0 c.Session (numbered n)) a.master.outlet b.master.endpoint b.master.outlet
      (take (frame_octets (width a.master.endpoint)) ex.master_reply)
  master_took = carrying.master_took m t p a b ex s.Session Clear opens (after_writing (freshened a.master.endpoint.link) 0 c.Session (numbered n)) a.master.outlet
      (sending.asked_is a.master answer n a.master.endpoint.state (Some c.Reset) (padded (body (width a.master.endpoint) answer)) refl back.kind_is refl)

  -- the first exchange, and the setting behind it
  pub opening : (octets : List ℕ) (e : Master S) → calls.Sets b.master octets ProcessData (Ok tt) e →
      Opening t m₀ octets (record { master = e; slave = b.slave; latest = b.latest })
  opening octets e (setting, rest) =
      let link_is : b.master.endpoint.link ≡ after_writing (freshened a.master.endpoint.link) 0 c.Session (numbered n) = master_took.link_is in
      let same_width : width b.master.endpoint ≡ width m₀.endpoint = ap (λ (l : Link). l.size.octets) link_is ∙ h.master_width in
      record {
        kept = record {
          plan_is = ap (λ (k : Master S). k.plan) rest ∙ ex.back.1 ∙ h.plan_is;
          user_is = ap (λ (k : Master S). k.outlet.user) rest ∙ ap (λ (o : Outlet). o.user) master_took.own_is ∙ h.user_is;
          master_width = ap (λ (l : Link). l.size.octets) setting.1 ∙ same_width;
          slave_width = ap (λ (l : Link). l.size.octets) slave_took.link_is ∙ h.slave_width;
          address_is = ap (λ (x : Inlet). x.address) slave_took.own_is ∙ h.address_is;
          outputs_are = ap (λ (l : Link). l.outputs) setting.1 ∙ ap (λ w. octets ++ replicate (32 - w) 0) same_width;
          command_is = ap (λ (l : Link). l.command) setting.1;
          count_is = setting.0 ∙ same_width;
          up_is = ap t.up slave_took.sink_is ∙ law.effects.up_cleared a.slave.endpoint.sink ∙ h.up_is;
          dark_is = ap t.shown slave_took.sink_is ∙ law.effects.shown_cleared a.slave.endpoint.sink;
        };
        state_is = ap (λ (k : Master S). k.endpoint.state) rest ∙ master_took.state_is;
        session = n;
        latest_is = ex.latest_is ∙ master_took.front_is ∙ ap (λ w. sent fresh w 0 (octet c.Session) (numbered n)) h.master_width;
        numbers_are = ap (λ (l : Link). l.numbers) setting.1 ∙ ap (λ (l : Link). l.numbers) link_is;
      }

module _ {S T P : Type 0} (m : sink.Ghosts S) (t : sink.Ghosts T) (law : Lawful t) (p : profile.Ghosts P) (m₀ : Master S) (octets : List ℕ)
    (a b : Pair S T P) (ex : Exchanged m t p a b) (h : Opening t m₀ octets a) where
  abbrev sink_now : T
  sink_now = a.slave.endpoint.sink

  abbrev link : Link
  link = a.slave.endpoint.link

  arrives : Handed fresh fresh (width a.slave.endpoint) 0 c.Session (numbered h.session) (cut (width m₀.endpoint) (numbered h.session)) a.latest
  arrives = handed fresh fresh fresh_in_step (width m₀.endpoint) 0 c.Session (numbered h.session) (bounded m₀) refl (width a.slave.endpoint) a.latest h.kept.slave_width h.latest_is

  abbrev ns : Numbers
  ns = (opened link a.latest).numbers

  abbrev given : List ℕ
  given = numbered ex.slave_session

  abbrev slave_link : Link
  slave_link = after_writing (opened link a.latest) 0 c.Session given

  does : slave.asked p a.slave a.latest ex.slave_session
      ≡ taken s.Session Clear (record { from = ns; id = 0; command = c.Session; octets = given }) slave_link a.slave.inlet
  does =
      answering.asked_is p a.slave a.latest ex.slave_session a.slave.endpoint.state (Some c.Session) (padded (body (width a.slave.endpoint) a.latest)) refl arrives.kind_is refl
      ∙ answering.on_session p link a.slave.inlet a.latest (padded (body (width a.slave.endpoint) a.latest)) ex.slave_session a.slave.endpoint.state arrives.right

  meets : InStep ns a.master.endpoint.link.numbers
  meets = turned _ _ (subst (λ q. InStep q ns) (sym h.numbers_are) arrives.again)

  abbrev echo : List ℕ
  echo = carrying.reply m t p m₀ octets a b ex h.kept s.Session Clear ns 0 c.Session given slave_link a.slave.inlet does refl meets

  returned : Handed ns a.master.endpoint.link.numbers (width a.master.endpoint) 0 c.Session given (cut (width m₀.endpoint) given) echo
  returned = carrying.reply_handed m t p m₀ octets a b ex h.kept s.Session Clear ns 0 c.Session given slave_link a.slave.inlet does refl meets

  abbrev master_read : Link
  master_read = after_reading a.master.endpoint.link echo

  -- the second exchange: the first piece of the connection block is out
  pub connecting : Sending m₀ t octets Connection 0 b
  connecting =
      let piece_now : List ℕ = padded (body (width a.master.endpoint) echo) in
      let r = carrying.carried m t p m₀ octets a b ex h.kept s.Session Clear ns 0 c.Session given slave_link a.slave.inlet does refl meets
      s.Connection m₀.plan.draft.id c.Connection (piece_of m₀ Connection 0) (with_at a.master.outlet 0)
      (sending.asked_is a.master echo ex.master_session s.Session (Some c.Session) piece_now h.state_is returned.kind_is refl
      ∙ sending.on_session a.master.endpoint.link a.master.outlet a.master.plan echo piece_now ex.master_session returned.right
      ∙ piece_out_is m₀ t octets a h.kept master_read h.kept.master_width Connection 0 0 refl)
      refl refl refl refl
      (law.effects.up_cleared sink_now ∙ h.kept.up_is) (law.effects.shown_cleared sink_now) in
      record {
        kept = r.kept;
        state_is = r.master_state;
        at_is = ap (λ (o : Outlet). o.at) r.outlet_is;
        within = omega arith;
        out = r.out;
        awaits = first_connection r.slave_state;
      }
