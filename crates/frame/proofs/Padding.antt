-- The data octets of a body, part by part. Assumes nothing.
use Rattle.std.proofs.Common.{◌≡◌, ℕ, zero, suc, ◌+◌, ◌-◌, ◌*◌, ◌/◌, ◌<◌, ◌≤◌, min, List, [], ◌∷◌, ◌++◌, length, get_or, drop, replicate, refl, ap, arith, length-append, length-drop}
use Rattle.frame.specs.Reading.{first, second, pairs, padded}
use Rattle.frame.proofs.Filling.{copied, copied_behind, chunk_at}

length_pairs : (body : List ℕ) (i : ℕ) → length (pairs body i) ≡ 2 * i
length_pairs body zero = refl
length_pairs body (suc i) = omega (arith, length-append (pairs body i) (first body i ∷ second body i ∷ []), length_pairs body i)

-- a part that stands in a body ends within it
pub part_within : (body chunk after : List ℕ) (i j : ℕ) → drop (4 * i) body ≡ chunk ++ after → length chunk ≡ 4 → j ≡ i + 1 → 4 * j ≤ length body
part_within body chunk after i j e l next = omega (arith, ap length e, length-append chunk after, length-drop (4 * i) body)

-- one pair of data octets more is read
pub pairs_more : (body octets chunk after stored : List ℕ) (k i j : ℕ) → k ≡ i → j ≡ i + 1 → i < 16 → octets ≡ pairs body i ++ replicate (32 - 2 * i) 0 → drop (4 * i) body ≡ chunk ++ after → length chunk ≡ 4 → stored ≡ get_or chunk 0 0 ∷ get_or chunk 1 0 ∷ [] → copied (2 * k) (2 * k + 2 - 2 * k) stored octets ≡ pairs body j ++ replicate (32 - 2 * j) 0
pairs_more body octets chunk after stored k i j this next h inv e l both =
    let room : 2 * k + 2 - 2 * k ≡ 2 = omega arith in
    let place : 4 * i + 0 ≡ 4 * i = omega arith in
    let more : j ≡ suc i = omega arith in
    let a = chunk_at body chunk after (4 * i) 0 e (omega arith) in
    let b = chunk_at body chunk after (4 * i) 1 e (omega arith) in
    let one = copied_behind (pairs body i) stored (2 * i) 2 (32 - 2 * i) (32 - 2 * j) (length_pairs body i) (omega arith) in
    cc

-- as many pairs as the body has parts, up to 16
pub all_pairs : (body octets : List ℕ) (i : ℕ) → i ≡ min (length body / 4) 16 → octets ≡ pairs body i ++ replicate (32 - 2 * i) 0 → octets ≡ padded body
all_pairs body octets i count inv = cc
