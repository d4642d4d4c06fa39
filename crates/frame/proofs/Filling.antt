-- Octets that are copied behind a front, into zeros. Assumes nothing.
use Rattle.std.proofs.Common.{◌≡◌, ℕ, zero, suc, ◌+◌, ◌-◌, ◌*◌, ◌/◌, ◌%◌, ◌<◌, ◌≤◌, List, [], ◌∷◌, ◌++◌, length, get_or, take, drop, replicate, refl, append_assoc, mul-suc, arith, length-append, get_or-drop, take_all, take_at, drop_at, drop-drop}
use Rattle.std.proofs.lemmas.List.{get_or_append_left, drop-replicate}
use Rattle.length.specs.Lawful.{frame_octets}
use Rattle.crc.specs.Register.{low_high}
use Rattle.crc.specs.Crc.{part_crc}
use Rattle.frame.specs.Layout.{part, parts, frame, filled}

-- the octets at place a, of which there are k, are overwritten by octets
abbrev pub copied : (a k : ℕ) (octets before : List ℕ) → List ℕ
copied a k octets before = take a before ++ (octets ++ drop k (drop a before))

-- they are copied behind a front p, where zeros stood
pub copied_behind : (p octets : List ℕ) (a k m n : ℕ) → length p ≡ a → m ≡ n + k → copied a k octets (p ++ replicate m 0) ≡ (p ++ octets) ++ replicate n 0
copied_behind p octets a k m n e s =
    let left : m - k ≡ n = omega arith in
    cc (take_at p (replicate m 0) a e, drop_at p (replicate m 0) a e, drop-replicate {X = ℕ} k m 0, append_assoc p octets (replicate n 0))

-- a chunk that stands at place n of a list: its octets, and what follows chunk i of k octets each
pub chunk_at : (xs chunk after : List ℕ) (n j : ℕ) → drop n xs ≡ chunk ++ after → j < length chunk → get_or chunk j 0 ≡ get_or xs (n + j) 0
chunk_at xs chunk after n j e h = cc (get_or_append_left chunk after 0 j h, get_or-drop n xs j 0)

pub after_chunk : (xs chunk after : List ℕ) (k i j : ℕ) → drop (k * i) xs ≡ chunk ++ after → length chunk ≡ k → j ≡ i + 1 → after ≡ drop (k * j) xs
after_chunk xs chunk after k i j e l next =
    let more : j ≡ suc i = omega arith in
    let place : k * j ≡ k * i + k = cc (mul-suc k i) in
    cc (drop_at chunk after k l, drop-drop k (k * i) xs)

-- the first two octets
pub two_of : (xs : List ℕ) → 2 ≤ length xs → take 2 xs ≡ get_or xs 0 0 ∷ get_or xs 1 0 ∷ []
two_of [] h = absurd (omega arith)
two_of (x ∷ []) h = absurd (omega arith)
two_of (x ∷ y ∷ xs) h = refl

pub both_of : (xs : List ℕ) → length xs ≡ 2 → xs ≡ get_or xs 0 0 ∷ get_or xs 1 0 ∷ []
both_of xs h = cc (take_all 2 xs (omega arith), two_of xs (omega arith))

pub length_parts : (register : ℕ) (octets : List ℕ) (i : ℕ) → length (parts register octets i) ≡ 4 * i
length_parts register octets zero = refl
length_parts register octets (suc i) = omega (arith, length-append (parts register octets i) (part register i (get_or octets (2 * i) 0) (get_or octets (2 * i + 1) 0)), length_parts register octets i)

-- the two octets of a number as they are split in code
pub split : (n : ℕ) (octets : List ℕ) → n < 65536 → octets ≡ n % 256 ∷ n / 256 % 256 ∷ [] → octets ≡ low_high n
split n octets h e =
    let high : n / 256 % 256 ≡ n / 256 = omega arith in
    cc

-- one part more stands in the frame
pub parts_more : (command register : ℕ) (given octets chunk after stored crc : List ℕ) (k i j : ℕ) → k ≡ i → j ≡ i + 1 → i < 16 → octets ≡ (command ∷ parts register given i) ++ replicate (66 - 4 * i) 0 → drop (2 * i) given ≡ chunk ++ after → length chunk ≡ 2 → stored ≡ get_or chunk 0 0 ∷ get_or chunk 1 0 ∷ [] → crc ≡ low_high (part_crc register k (get_or chunk 0 0) (get_or chunk 1 0)) → copied (4 * k + 1 + 2) (4 * k + 1 + 4 - (4 * k + 1 + 2)) crc (copied (4 * k + 1) (4 * k + 1 + 2 - (4 * k + 1)) stored octets) ≡ (command ∷ parts register given j) ++ replicate (66 - 4 * j) 0
parts_more command register given octets chunk after stored crc k i j this next h inv e l copy c =
    let front : List ℕ = command ∷ parts register given i in
    let long : length front ≡ 4 * i + 1 = omega (arith, length_parts register given i) in
    let longer : length (front ++ chunk) ≡ 4 * i + 1 + 2 = omega (arith, length-append front chunk) in
    let room : 4 * k + 1 + 2 - (4 * k + 1) ≡ 2 = omega arith in
    let other_room : 4 * k + 1 + 4 - (4 * k + 1 + 2) ≡ 2 = omega arith in
    let place : 2 * i + 0 ≡ 2 * i = omega arith in
    let more : j ≡ suc i = omega arith in
    let both = both_of chunk l in
    let a = chunk_at given chunk after (2 * i) 0 e (omega arith) in
    let b = chunk_at given chunk after (2 * i) 1 e (omega arith) in
    let stands : (front ++ chunk) ++ crc ≡ command ∷ parts register given (suc i) = cc (append_assoc front chunk crc) in
    let one = copied_behind front chunk (4 * i + 1) 2 (66 - 4 * i) (64 - 4 * i) long (omega arith) in
    let two = copied_behind (front ++ chunk) crc (4 * i + 1 + 2) 2 (64 - 4 * i) (66 - 4 * j) longer (omega arith) in
    cc

-- the connection ID closes the frame
pub id_last : (d k command register n i : ℕ) (given octets stored : List ℕ) → k ≡ d → d ≤ 32 → d % 2 ≡ 0 → i ≡ d / 2 → octets ≡ (command ∷ parts register given i) ++ replicate (66 - 4 * i) 0 → stored ≡ low_high n → copied (2 * k + 1) (2 * k + 1 + 2 - (2 * k + 1)) stored octets ≡ filled d command n register given
unfolding frame
id_last d k command register n i given octets stored same h even e inv copy =
    let front : List ℕ = command ∷ parts register given i in
    let long : length front ≡ 2 * d + 1 = omega (arith, length_parts register given i) in
    let room : 2 * k + 1 + 2 - (2 * k + 1) ≡ 2 = omega arith in
    cc (copied_behind front (low_high n) (2 * d + 1) 2 (66 - 4 * i) (67 - frame_octets d) long (omega arith))
