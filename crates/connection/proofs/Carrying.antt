-- What one exchange carries over, whatever the frames are. Assumes nothing.
use Rattle.std.proofs.Common.{◌≡◌, ℕ, ◌-◌, true, List, ◌++◌, length, take, replicate, sym, ap, ◌∙◌, subst}
use Rattle.faults.specs.declared.state.State.{State}
use Rattle.length.specs.Lawful.{frame_octets}
use Rattle.length.proofs.Bounds.{bounds}
use Rattle.frame.specs.Commands.{octet}
use Rattle.frame.specs.declared.command.Command.{Command}
use Rattle.chain.specs.declared.numbers.Numbers.{Numbers}
use Rattle.chain.specs.Numbers.{sent, after_sending}
use Rattle.chain.specs.Chain.{InStep}
use Rattle.sink.specs.declared.Sink as sink
use Rattle.sink.specs.Octets.{zeros}
use Rattle.profile.specs.declared.profile.Profile as profile
use Rattle.shared_end.specs.declared.data_command.DataCommand.TheVariants.{ProcessData}
use Rattle.shared_end.specs.declared.link.Link.{Link}
use Rattle.shared_end.specs.declared.step.Act.{Act}
use Rattle.shared_end.specs.declared.step.Act.TheVariants.{Keep}
use Rattle.shared_end.specs.Link.{after_writing, after_reading}
use Rattle.shared_end.specs.Outcomes.{Message, taken}
use Rattle.shared_end.specs.Endpoints.{width, acted}
use Rattle.master_end.specs.declared.master.Master.{Master}
use Rattle.outlet.specs.declared.Outlet.{Outlet}
use Rattle.master_end.specs.Matching as master
use Rattle.inlet.specs.declared.Inlet.{Inlet}
use Rattle.slave_end.specs.Matching as slave
use Rattle.connection.specs.Exchanges.{Pair, Exchanged}
use Rattle.connection.proofs.Handing.{turned, Handed, cut, handed}
use Rattle.connection.proofs.Taking.{Took, took}

module _ {S T P : Type 0} (t : sink.Ghosts T) (m₀ : Master S) (octets : List ℕ) where
  -- what stays over the exchanges, once the octets are set
  pub record Kept (a : Pair S T P) : Type 0 where
    pub plan_is : a.master.plan ≡ m₀.plan
    pub user_is : a.master.outlet.user ≡ m₀.outlet.user
    pub master_width : width a.master.endpoint ≡ width m₀.endpoint
    pub slave_width : width a.slave.endpoint ≡ width m₀.endpoint
    pub address_is : a.slave.inlet.address ≡ m₀.plan.draft.address
    pub outputs_are : a.master.endpoint.link.outputs ≡ octets ++ replicate (32 - width m₀.endpoint) 0
    pub command_is : a.master.endpoint.link.command ≡ ProcessData
    pub count_is : length octets ≡ width m₀.endpoint
    pub up_is : t.up a.slave.endpoint.sink ≡ true
    pub dark_is : t.shown a.slave.endpoint.sink ≡ zeros

  -- a frame of the master is out, and the slave is in step with the numbers that it was written from
  pub record Out (a : Pair S T P) (i : ℕ) (k : Command) (o : List ℕ) : Type 0 where
    pub from : Numbers
    pub latest_is : a.latest ≡ sent from (width m₀.endpoint) i (octet k) o
    pub numbers_are : a.master.endpoint.link.numbers ≡ after_sending from i (octet k) o
    pub in_step : InStep from a.slave.endpoint.link.numbers

  -- the state and the own part of both ends, and the master's next frame
  pub record Carried (b : Pair S T P) (st : State) (x : Inlet) (st' : State) (o : Outlet) (i : ℕ) (k : Command) (w : List ℕ) : Type 0 where
    pub slave_state : b.slave.endpoint.state ≡ st
    pub inlet_is : b.slave.inlet ≡ x
    pub master_state : b.master.endpoint.state ≡ st'
    pub outlet_is : b.master.outlet ≡ o
    pub out : Out b i k w
    pub kept : Kept b

-- what the two frames of an exchange leave, if they are taken
module _ {S T P : Type 0} (m : sink.Ghosts S) (t : sink.Ghosts T) (p : profile.Ghosts P) (a b : Pair S T P) (ex : Exchanged m t p a b)
    (st : State) (act : Act) (msg : Message) (l : Link) where
  pub slave_took : (x : Inlet) → slave.asked p a.slave a.latest ex.slave_session ≡ taken st act msg l x →
      Took t a.slave.endpoint st act msg l x b.slave.endpoint b.slave.inlet (take (frame_octets (width a.slave.endpoint)) ex.slave_reply)
  slave_took x does =
      took t a.slave.endpoint a.slave.inlet a.latest _ ex.slave_answer b.slave.endpoint b.slave.inlet ex.slave_buffer ex.slave_reply ex.slave_journal ex.slave_journal_after
      ex.there.2 st act msg l x does

  pub master_took : (o : Outlet) → master.asked a.master (take (frame_octets (width a.slave.endpoint)) ex.slave_reply) ex.master_session ≡ taken st act msg l o →
      Took m a.master.endpoint st act msg l o b.master.endpoint b.master.outlet (take (frame_octets (width a.master.endpoint)) ex.master_reply)
  master_took o does =
      took m a.master.endpoint a.master.outlet _ _ ex.master_answer b.master.endpoint b.master.outlet ex.master_buffer ex.master_reply ex.master_journal ex.master_journal_after
      ex.back.2 st act msg l o does

module _ {S T P : Type 0} (m : sink.Ghosts S) (t : sink.Ghosts T) (p : profile.Ghosts P) (m₀ : Master S) (octets : List ℕ)
    (a b : Pair S T P) (ex : Exchanged m t p a b) (kept : Kept t m₀ octets a)
    (st : State) (act : Act) (ns : Numbers) (i₁ : ℕ) (k₁ : Command) (o₁ : List ℕ) (l₁ : Link) (x₁ : Inlet)
    (does : slave.asked p a.slave a.latest ex.slave_session ≡ taken st act (record { from = ns; id = i₁; command = k₁; octets = o₁ }) l₁ x₁)
    (room : length o₁ ≡ 32) (meets : InStep ns a.master.endpoint.link.numbers) where
  abbrev dl : ℕ
  dl = width m₀.endpoint

  -- the slave's reply
  abbrev pub reply : List ℕ
  reply = take (frame_octets (width a.slave.endpoint)) ex.slave_reply

  pub reply_handed : Handed ns a.master.endpoint.link.numbers (width a.master.endpoint) i₁ k₁ o₁ (cut dl o₁) reply
  reply_handed =
      handed ns a.master.endpoint.link.numbers meets dl i₁ k₁ o₁ (bounds dl m₀.endpoint.link.size.lawful) room
      (width a.master.endpoint) reply kept.master_width
      ((slave_took m t p a b ex st act _ l₁ x₁ does).front_is ∙ ap (λ n. sent ns n i₁ (octet k₁) o₁) kept.slave_width)

  abbrev pub master_read : Link
  master_read = after_reading a.master.endpoint.link reply

  module _ (st₂ : State) (i₂ : ℕ) (k₂ : Command) (o₂ : List ℕ) (out₂ : Outlet)
      (does₂ : master.asked a.master reply ex.master_session
      ≡ taken st₂ Keep (record { from = master_read.numbers; id = i₂; command = k₂; octets = o₂ }) (after_writing master_read i₂ k₂ o₂) out₂)
      (written : l₁.numbers ≡ after_sending ns i₁ (octet k₁) o₁) (same_size : l₁.size.octets ≡ width a.slave.endpoint) (same_address : x₁.address ≡ a.slave.inlet.address)
      (same_user : out₂.user ≡ a.master.outlet.user)
      (still_up : t.up (acted t act a.slave.endpoint.sink) ≡ true) (still_dark : t.shown (acted t act a.slave.endpoint.sink) ≡ zeros) where
    pub carried : Carried t m₀ octets b st x₁ st₂ out₂ i₂ k₂ o₂
    carried =
        let at_slave = slave_took m t p a b ex st act _ l₁ x₁ does in
        let at_master = master_took m t p a b ex st₂ Keep _ (after_writing master_read i₂ k₂ o₂) out₂ does₂ in
        record {
          slave_state = at_slave.state_is;
          inlet_is = at_slave.own_is;
          master_state = at_master.state_is;
          outlet_is = at_master.own_is;
          out = record {
            from = master_read.numbers;
            latest_is = ex.latest_is ∙ at_master.front_is ∙ ap (λ n. sent master_read.numbers n i₂ (octet k₂) o₂) kept.master_width;
            numbers_are = ap (λ (l : Link). l.numbers) at_master.link_is;
            in_step =
                turned _ _
                (subst (λ n. InStep n master_read.numbers) (sym (ap (λ (l : Link). l.numbers) at_slave.link_is ∙ written)) reply_handed.again);
          };
          kept = record {
            plan_is = ex.back.1 ∙ kept.plan_is;
            user_is = ap (λ (o : Outlet). o.user) at_master.own_is ∙ same_user ∙ kept.user_is;
            master_width = ap (λ (l : Link). l.size.octets) at_master.link_is ∙ kept.master_width;
            slave_width = ap (λ (l : Link). l.size.octets) at_slave.link_is ∙ same_size ∙ kept.slave_width;
            address_is = ap (λ (x : Inlet). x.address) at_slave.own_is ∙ same_address ∙ kept.address_is;
            outputs_are = ap (λ (l : Link). l.outputs) at_master.link_is ∙ kept.outputs_are;
            command_is = ap (λ (l : Link). l.command) at_master.link_is ∙ kept.command_is;
            count_is = kept.count_is;
            up_is = ap t.up at_slave.sink_is ∙ still_up;
            dark_is = ap t.shown at_slave.sink_is ∙ still_dark;
          };
        }
