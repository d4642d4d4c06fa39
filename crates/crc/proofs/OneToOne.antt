-- With all else fixed, the map from a sequence number to a CRC is one to one. Assumes nothing.
use Rattle.std.proofs.Common.{◌≡◌, ℕ, ◌+◌, ◌*◌, ◌/◌, ◌%◌, ◌<◌, true, false, cond, eqb, bit_xor, List, [], ◌∷◌, ◌++◌, arith}
use Rattle.std.specs.Int.Bits.{xor_assoc, xor_shifted}
use Rattle.std.proofs.lemmas.Nat.{xor_comm, xor_lt}
use Rattle.crc.specs.Register.{shifts, feed, fed, low_high}
use Rattle.crc.specs.Crc.{shared, index, part_crc, OnlyNumber}
use Rattle.crc.proofs.Shifts.{xor_cancel, shifts_lt, shifts_one, shifts_beside}

abbrev Octets : List ℕ → Type 0
Octets [] = Unit {0}
Octets (b ∷ bs) = (b < 256) × Octets bs

into_lt : (r b : ℕ) → r < 65536 → b < 256 → bit_xor r (b * 256) < 65536
into_lt r b hr hb = xor_lt 16 r (b * 256) hr (omega arith)

feed_lt : (r b : ℕ) → r < 65536 → b < 256 → feed r b < 65536
unfolding feed
feed_lt r b hr hb = shifts_lt 8 (bit_xor r (b * 256)) (into_lt r b hr hb)

-- of two registers that take the same octet
feed_one : (q r b : ℕ) → q < 65536 → r < 65536 → b < 256 → feed q b ≡ feed r b → q ≡ r
unfolding feed
feed_one q r b hq hr hb e =
    xor_cancel q r (b * 256) (shifts_one 8 _ _ (into_lt q b hq hb) (into_lt r b hr hb) e)

fed_lt : (bs : List ℕ) (r : ℕ) → Octets bs → r < 65536 → fed r bs < 65536
fed_lt [] r o h = h
fed_lt (b ∷ bs) r o h = fed_lt bs (feed r b) o.1 (feed_lt r b h o.0)

-- of two registers that take the same octets
fed_one : (bs : List ℕ) (q r : ℕ) → Octets bs → q < 65536 → r < 65536 → fed q bs ≡ fed r bs → q ≡ r
fed_one [] q r o hq hr e = e
fed_one (b ∷ bs) q r o hq hr e =
    feed_one q r b hq hr o.0
    (fed_one bs (feed q b) (feed r b) o.1 (feed_lt q b hq o.0) (feed_lt r b hr o.0) e)

-- two octets fed are sixteen shifts of the register XORed with both
feed_two : (r a b : ℕ) → r < 65536 → a < 256 → b < 256 → feed (feed r a) b ≡ shifts 8 (shifts 8 (bit_xor r (a * 256 + b)))
unfolding feed
feed_two r a b hr ha hb =
    cc (shifts_beside 8 (bit_xor r (a * 256)) b (into_lt r a hr ha) (omega arith), xor_assoc r (a * 256) b, xor_shifted a 8 b hb)

-- of two numbers that the same register takes
number_one : (r m n : ℕ) → r < 65536 → m < 65536 → n < 65536 → fed r (low_high m) ≡ fed r (low_high n) → m ≡ n
number_one r m n hr hm hn e =
    let x : ℕ = m % 256 * 256 + m / 256 in
    let y : ℕ = n % 256 * 256 + n / 256 in
    let hx : bit_xor x r < 65536 = xor_lt 16 x r (omega arith) hr in
    let hy : bit_xor y r < 65536 = xor_lt 16 y r (omega arith) hr in
    let p : shifts 8 (shifts 8 (bit_xor x r)) ≡ shifts 8 (shifts 8 (bit_xor y r)) =
    cc (feed_two r (m % 256) (m / 256) hr (omega arith) (omega arith), feed_two r (n % 256) (n / 256) hr (omega arith) (omega arith), xor_comm x r, xor_comm y r) in
    let s : x ≡ y =
    xor_cancel x y r (shifts_one 8 _ _ hx hy (shifts_one 8 _ _ (shifts_lt 8 _ hx) (shifts_lt 8 _ hy) p)) in
    omega arith

join : (bs cs : List ℕ) → Octets bs → Octets cs → Octets (bs ++ cs)
join [] cs o p = p
join (b ∷ bs) cs o p = (o.0, join bs cs o.1 p)

two : (n : ℕ) → n < 65536 → Octets (low_high n)
two n h = (omega arith, (omega arith, tt))

index_octets : (i : ℕ) → i < 65536 → Octets (index i)
index_octets i h = elim (eqb i 0) as (λ b. Octets (cond b [] (low_high i))) [ true ↦ tt | false ↦ two i h ]

-- the register after all that stands before the number
before : (last id : ℕ) → ℕ
before last id = fed 0 (low_high last ++ low_high id)

before_lt : (last id : ℕ) → last < 65536 → id < 65536 → before last id < 65536
unfolding before
before_lt last id hl hi =
    fed_lt (low_high last ++ low_high id) 0 (join (low_high last) (low_high id) (two last hl) (two id hi)) (omega arith)

-- the register after the number
numbered_lt : (last id n : ℕ) → last < 65536 → id < 65536 → n < 65536 → fed (before last id) (low_high n) < 65536
numbered_lt last id n hl hi hn = fed_lt (low_high n) (before last id) (two n hn) (before_lt last id hl hi)

shared_lt : (last id n command : ℕ) → last < 65536 → id < 65536 → n < 65536 → command < 256 → shared last id n command < 65536
unfolding shared before
shared_lt last id n command hl hi hn hc = feed_lt (fed (before last id) (low_high n)) command (numbered_lt last id n hl hi hn) hc

shared_one : (last id m n command : ℕ) → last < 65536 → id < 65536 → m < 65536 → n < 65536 → command < 256 → shared last id m command ≡ shared last id n command → m ≡ n
unfolding shared before
shared_one last id m n command hl hi hm hn hc e =
    number_one (before last id) m n (before_lt last id hl hi) hm hn
    (feed_one (fed (before last id) (low_high m)) (fed (before last id) (low_high n)) command
    (numbered_lt last id m hl hi hm) (numbered_lt last id n hl hi hn) hc e)

pub only_number : (i last id n command first second : ℕ) → i < 65536 → last < 65536 → id < 65536 → n < 65536 → command < 256 → first < 256 → second < 256 → OnlyNumber i last id n command first second
unfolding part_crc
only_number i last id n command first second hi hl hd hn hc h₁ h₂ m hm e =
    shared_one last id m n command hl hd hm hn hc
    (fed_one (index i ++ (first ∷ second ∷ 0 ∷ 0 ∷ 0 ∷ [])) (shared last id m command) (shared last id n command)
    (join (index i) (first ∷ second ∷ 0 ∷ 0 ∷ 0 ∷ []) (index_octets i hi) (h₁, (h₂, (omega arith, (omega arith, (omega arith, tt))))))
    (shared_lt last id m command hl hd hm hc) (shared_lt last id n command hl hd hn hc) e)
