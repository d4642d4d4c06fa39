-- The pieces of a block, and the block that they make up. Assumes nothing.
use Rattle.std.proofs.Common.{◌≡◌, ℕ, zero, suc, ◌+◌, ◌-◌, ◌*◌, ◌/◌, ◌<◌, ◌≤◌, min, List, [], ◌∷◌, ◌++◌, length, take, drop, replicate, sym, refl, ap, ◌∙◌, append_assoc, arith, length-append, length-take, get_or-take}
use Rattle.std.proofs.lemmas.List.{length-replicate}
use Rattle.std.proofs.lemmas.List.{take_at}
use Rattle.frame.specs.Reading.{pairs, padded, body}
use Rattle.history.specs.Live.{data_octets}
use Rattle.inlet.specs.Storing.{placed, word}
use Rattle.inlet.specs.Storing.{joined}

length_pairs : (b : List ℕ) (k : ℕ) → length (pairs b k) ≡ 2 * k
length_pairs b zero = refl
length_pairs b (suc k) =
    let l : length (pairs b k) ≡ 2 * k = length_pairs b k in
    length-append (pairs b k) _ ∙ omega arith

pub length_padded : (b : List ℕ) → length (padded b) ≡ 32
length_padded b =
    let small : min (length b / 4) 16 ≤ 16 = omega arith in
    length-append (pairs b (min (length b / 4) 16)) (replicate (32 - 2 * min (length b / 4) 16) 0)
    ∙ (λ i. length_pairs b (min (length b / 4) 16) i + length-replicate {A = ℕ} (32 - 2 * min (length b / 4) 16) 0 i)
    ∙ omega (arith, small)

-- a piece of d octets behind what was stored
pub take_placed : (d at : ℕ) (block piece : List ℕ) → length (take at block) ≡ at → length (take d piece) ≡ d →
    take (at + d) (placed d at block piece) ≡ take at block ++ take d piece
take_placed d at block piece a b =
    ap (take (at + d)) (sym (append_assoc (take at block) (take d piece) (drop (at + d) block)))
    ∙ take_at (take at block ++ take d piece) (drop (at + d) block) (at + d) (length-append (take at block) (take d piece) ∙ (λ i. a i + b i))

pub piece_length : (d : ℕ) (octets : List ℕ) → d ≤ 32 → length (take d (data_octets d octets)) ≡ d
piece_length d octets h =
    let l : length (data_octets d octets) ≡ 32 = length_padded (body d octets) in
    length-take d (data_octets d octets) ∙ omega (arith, l)

pub length_joined : (d : ℕ) (os : List (List ℕ)) → d ≤ 32 → length (joined d os) ≡ length os * d
length_joined d [] h = omega arith
length_joined d (o ∷ os) h =
    length-append (joined d os) (take d (data_octets d o)) ∙ (λ i. length_joined d os h i + piece_length d o h i) ∙ omega arith

-- a number that stands in the front
pub word_take : (n at : ℕ) (block : List ℕ) → at + 1 < n → word (take n block) at ≡ word block at
word_take n at block h =
    (λ i. get_or-take n block at 0 (omega arith) i + 256 * get_or-take n block (at + 1) 0 h i)
