-- What the calls that make exchanges answer. Assumes nothing.
use Rattle.std.specs.Prelude.{◌≡◌, ℕ, suc, ◌+◌, ◌-◌, true, cond, List, length, take, replicate, Some, None, Ok, Err, Option, Result, ◌==◌, ◌≢◌}
use Rattle.codes.specs.declared.refusal.Refusal.{Refusal}
use Rattle.codes.specs.declared.refusal.Refusal.TheVariants.{WrongFrameLength, WrongDataCount}
use Rattle.faults.specs.declared.line.Line.{Line}
use Rattle.length.specs.Lawful.{frame_octets}
use Rattle.journal.specs.declared.queue.Journal.{Journal}
use Rattle.sink.specs.declared.Sink as sink
use Rattle.profile.specs.declared.profile.Profile as profile
use Rattle.shared_end.specs.declared.answer.Answer.{Answer}
use Rattle.shared_end.specs.declared.data_command.DataCommand.TheVariants.{ProcessData}
use Rattle.shared_end.specs.Endpoints.{width}
use Rattle.master_end.specs.declared.master.Master.{Master}
use Rattle.master_end.specs.Calls as master
use Rattle.slave_end.specs.declared.slave.Slave.{Slave}
use Rattle.connection.specs.declared.exchanging.Sessions.{Sessions}
use Rattle.connection.specs.Fits.{Fits}
use Rattle.connection.specs.Exchanges.{Pair, Exchanged, Undisturbed}
use Rattle.connection.specs.Returning.{needed, whole}

-- the two ends, where the master's latest frame is at the front of a buffer
abbrev pub pair : {S T P : Type 0} → (d : ℕ) → Master S → Slave T P → (buffer : List ℕ) → Pair S T P
pair d e f buffer = record { master = e; slave = f; latest = take (frame_octets d) buffer }

-- the same with the whole buffer, and the journals of both ends
pub record Held (S T P : Type 0) : Type 0 where
  pub master : Master S
  pub slave : Slave T P
  pub buffer : List ℕ
  pub master_journal : Journal Line
  pub slave_journal : Journal Line

abbrev pub held : {S T P : Type 0} → Master S → Slave T P → List ℕ → (j k : Journal Line) → Held S T P
held e f buffer j k = record { master = e; slave = f; buffer = buffer; master_journal = j; slave_journal = k }

module _ {S T P : Type 0} (m : sink.Ghosts S) (t : sink.Ghosts T) (p : profile.Ghosts P) (e : Master S) (f : Slave T P) where
  -- an exchange was made from the buffer at the front of which the master's latest frame stands, with these session numbers
  -- and journals; the data lengths stay
  pub record Made (sessions : Sessions) (buffer buffer' : List ℕ) (e' : Master S) (f' : Slave T P) (j j' k k' : Journal Line) : Type 0 where
    pub exchanged : Exchanged m t p (pair (width e.endpoint) e f buffer) (pair (width e.endpoint) e' f' buffer')
    pub master_session_is : exchanged.master_session ≡ sessions.master
    pub slave_session_is : exchanged.slave_session ≡ sessions.slave
    pub master_journal_is : exchanged.master_journal ≡ j
    pub master_journal_after_is : exchanged.master_journal_after ≡ j'
    pub slave_journal_is : exchanged.slave_journal ≡ k
    pub slave_journal_after_is : exchanged.slave_journal_after ≡ k'
    pub buffer_is : exchanged.master_buffer ≡ replicate 67 0
    pub reply_is : exchanged.master_reply ≡ buffer'
    pub same_width : width f.endpoint ≡ width e.endpoint
    pub master_width : width e'.endpoint ≡ width e.endpoint
    pub slave_width : width f'.endpoint ≡ width f.endpoint

  -- both ends and both journals are as they were
  pub record Untouched (e' : Master S) (f' : Slave T P) (j j' k k' : Journal Line) : Type 0 where
    pub master_is : e' ≡ e
    pub slave_is : f' ≡ f
    pub master_journal_is : j' ≡ j
    pub slave_journal_is : k' ≡ k

  -- an exchange is refused where the data lengths differ
  abbrev pub Exchanging : Sessions → (buffer : List ℕ) → Result (List ℕ) Refusal → Master S → Slave T P → (j j' k k' : Journal Line) → Type 0
  Exchanging sessions buffer (Ok buffer') e' f' j j' k k' = Made sessions buffer buffer' e' f' j j' k k'
  Exchanging sessions buffer (Err x) e' f' j j' k k' =
      (width f.endpoint ≢ width e.endpoint) × (x ≡ WrongFrameLength) × Untouched e' f' j j' k k'

module _ {S T P : Type 0} (m : sink.Ghosts S) (t : sink.Ghosts T) (p : profile.Ghosts P) (sessions : Sessions) where
  -- so many exchanges were made with the same session numbers, each from what the one before left
  pub data InOrder : ℕ → Held S T P → Held S T P → Type 0 where
    none : {a : Held S T P} → InOrder 0 a a
    more : {n : ℕ} {a b c : Held S T P} → InOrder n a b →
        Made m t p b.master b.slave sessions b.buffer c.buffer c.master c.slave b.master_journal c.master_journal b.slave_journal c.slave_journal → InOrder (suc n) a c

module _ {S T P : Type 0} (m : sink.Ghosts S) (t : sink.Ghosts T) (p : profile.Ghosts P) (e : Master S) (f : Slave T P) where
  -- so many exchanges are made; that is refused only where the data lengths differ, and then nothing is done
  abbrev pub Repeating : Sessions → (count : ℕ) → (buffer : List ℕ) → Result (List ℕ) Refusal → Master S → Slave T P → (j j' k k' : Journal Line) → Type 0
  Repeating sessions count buffer (Ok buffer') e' f' j j' k k' = InOrder m t p sessions count (held e f buffer j k) (held e' f' buffer' j' k')
  Repeating sessions count buffer (Err x) e' f' j j' k k' = (width f.endpoint ≢ width e.endpoint) × (x ≡ WrongFrameLength) × Untouched m t p e f e' f' j j' k k'

  -- what speaks against bringing the connection back: another number of octets than the data length says, then a slave of
  -- another data length
  abbrev pub against : List ℕ → Option Refusal
  against octets =
      cond (length octets == width e.endpoint)
      (cond (width f.endpoint == width e.endpoint) None (Some WrongFrameLength)) (Some WrongDataCount)

  -- the calls by which it was brought back: a reset of the master, one exchange, the setting, and the exchanges that are left,
  -- all with the session numbers that were handed in, and each from what the call before left, the journals too
  pub record ByCalls (sessions : Sessions) (octets : List ℕ) (e' : Master S) (f' : Slave T P) (j j' k k' : Journal Line) : Type 0 where
    pub after_reset : Master S
    pub first : List ℕ
    pub journal_after_reset : Journal Line
    pub answer : Answer
    pub resets : master.Resets m e (replicate 67 0) j (Ok answer) after_reset first journal_after_reset
    pub second : Held S T P
    pub one : Made m t p after_reset f sessions first second.buffer second.master second.slave journal_after_reset second.master_journal k second.slave_journal
    pub after_setting : Master S
    pub sets : master.Sets second.master octets ProcessData (Ok tt) after_setting
    pub last : List ℕ
    pub rest : InOrder m t p sessions (needed e - 1) (held after_setting second.slave second.buffer second.master_journal second.slave_journal) (held e' f' last j' k')

  -- the connection was brought back by undisturbed exchanges; if the ends fit and the slave's sink was up, the octets shown
  -- are what it would show for the octets set, judged before the last exchange
  pub record Brought (sessions : Sessions) (octets shown : List ℕ) (e' : Master S) (f' : Slave T P) (j j' k k' : Journal Line) : Type 0 where
    pub calls : ByCalls sessions octets e' f' j j' k k'
    pub count : ℕ
    pub before : Pair S T P
    pub latest : List ℕ
    pub count_is : count + 1 ≡ needed e
    pub undisturbed : Undisturbed m t p octets e f count before
    pub last : Exchanged m t p before (record { master = e'; slave = f'; latest = latest })
    pub shown_is : shown ≡ t.shown f'.endpoint.sink
    pub lit : Fits p e f → t.up f.endpoint.sink ≡ true → shown ≡ t.would before.slave.endpoint.sink (whole e octets)

  -- it is brought back unless something speaks against it; then nothing is done
  abbrev pub Bringing : Sessions → (octets : List ℕ) → Result (List ℕ) Refusal → Master S → Slave T P → (j j' k k' : Journal Line) → Type 0
  Bringing sessions octets (Ok shown) e' f' j j' k k' = (against octets ≡ None) × Brought sessions octets shown e' f' j j' k k'
  Bringing sessions octets (Err x) e' f' j j' k k' = (against octets ≡ Some x) × Untouched m t p e f e' f' j j' k k'
