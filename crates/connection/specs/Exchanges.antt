-- A master and a slave that exchange frames with nothing between, after a reset of the master. Assumes nothing.
use Rattle.std.specs.Prelude.{◌≡◌, ℕ, suc, List, take, Ok}
use Rattle.faults.specs.declared.line.Line.{Line}
use Rattle.length.specs.Lawful.{frame_octets}
use Rattle.journal.specs.declared.queue.Journal.{Journal}
use Rattle.sink.specs.declared.Sink as sink
use Rattle.profile.specs.declared.profile.Profile as profile
use Rattle.shared_end.specs.declared.answer.Answer.{Answer}
use Rattle.shared_end.specs.declared.answer.FrameAnswer.{FrameAnswer}
use Rattle.shared_end.specs.declared.data_command.DataCommand.TheVariants.{ProcessData}
use Rattle.shared_end.specs.Endpoints.{width}
use Rattle.master_end.specs.declared.master.Master.{Master}
use Rattle.master_end.specs.Calls as master
use Rattle.slave_end.specs.declared.slave.Slave.{Slave}
use Rattle.slave_end.specs.Calls as slave

-- the two ends, and the frame that the master wrote last
pub record Pair (S T P : Type 0) : Type 0 where
  pub master : Master S
  pub slave : Slave T P
  pub latest : List ℕ

module _ {S T P : Type 0} (m : sink.Ghosts S) (t : sink.Ghosts T) (p : profile.Ghosts P) where
  -- the master's latest frame is handed to the slave, and the slave's reply back to the master; both are accepted
  pub record Exchanged (a b : Pair S T P) : Type 0 where
    pub slave_session : ℕ
    pub slave_buffer : List ℕ
    pub slave_reply : List ℕ
    pub slave_journal : Journal Line
    pub slave_journal_after : Journal Line
    pub slave_answer : FrameAnswer
    pub there : slave.Frames t p a.slave a.latest slave_session slave_buffer slave_journal (Ok slave_answer) b.slave slave_reply slave_journal_after
    pub master_session : ℕ
    pub master_buffer : List ℕ
    pub master_reply : List ℕ
    pub master_journal : Journal Line
    pub master_journal_after : Journal Line
    pub master_answer : FrameAnswer
    pub back : master.Frames m a.master (take (frame_octets (width a.slave.endpoint)) slave_reply) master_session master_buffer master_journal (Ok master_answer) b.master master_reply master_journal_after
    pub latest_is : b.latest ≡ take (frame_octets (width a.master.endpoint)) master_reply

  -- so many exchanges, one after another
  pub data Exchanges : ℕ → Pair S T P → Pair S T P → Type 0 where
    none : {a : Pair S T P} → Exchanges 0 a a
    more : {k : ℕ} {a b c : Pair S T P} → Exchanges k a b → Exchanged b c → Exchanges (suc k) a c

  -- so many exchanges after an accepted reset of the master; directly behind the first one the octets are set for process
  -- data, and no other call is made
  module _ (octets : List ℕ) (e : Master S) (f : Slave T P) where
    pub data Undisturbed : ℕ → Pair S T P → Type 0 where
      reset : {e' : Master S} (buffer reply : List ℕ) (j j' : Journal Line) (r : Answer) → master.Resets m e buffer j (Ok r) e' reply j' →
          Undisturbed 0 (record { master = e'; slave = f; latest = take (frame_octets (width e.endpoint)) reply })
      set : {a b : Pair S T P} {e' : Master S} → Undisturbed 0 a → Exchanged a b → master.Sets b.master octets ProcessData (Ok tt) e' →
          Undisturbed 1 (record { master = e'; slave = b.slave; latest = b.latest })
      next : {k : ℕ} {a b : Pair S T P} → Undisturbed (suc k) a → Exchanged a b → Undisturbed (suc (suc k)) b
