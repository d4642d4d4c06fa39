-- A frame is right where each of its parts is. Assumes nothing.
use Rattle.std.proofs.Common.{◌≡◌, ℕ, zero, suc, ◌+◌, ◌/◌, Bool, true, ◌&&◌, List, [], ◌∷◌, map-id, refl, sym, ap, ap₂, ◌∙◌, add-one, zero-add}
use Rattle.std.proofs.Math.Bool.{and-true}
use Rattle.std.specs.List.{list_all, range_with_len}
use Rattle.std.proofs.lemmas.List.FromFn.{map-range_with_len_more}
use Rattle.std.proofs.lemmas.List.Folds.{list_all-append}
use Rattle.frame.specs.Reading.{whole, body, part_right, parts_right, right}

all_more : (p : ℕ → Bool) (n : ℕ) → list_all p (range_with_len 0 (suc n)) ≡ (list_all p (range_with_len 0 n) && p n)
all_more p n =
    let e = simp map-id at (map-range_with_len_more (λ x. x) 0 n n (zero-add n)) in
    let s : suc n ≡ n + 1 = sym (add-one n) in
    cc (list_all-append p (range_with_len 0 n) (n ∷ []), and-true (p n))

all_parts : (register : ℕ) (body : List ℕ) (n : ℕ) → list_all (part_right register body) (range_with_len 0 n) ≡ parts_right register body n
all_parts register body zero = refl
all_parts register body (suc n) = cc (all_more (part_right register body) n, all_parts register body n)

pub all_right : (d register n : ℕ) (octets b : List ℕ) (all : Bool) → all ≡ list_all (part_right register b) (range_with_len 0 n) → whole d octets ≡ true → b ≡ body d octets → n ≡ d / 2 → all ≡ right d octets register
unfolding right
all_right d register n octets b all h w e k =
    h
    ∙ all_parts register b n
    ∙ ap₂ (parts_right register) e k
    ∙ ap (λ x. x && parts_right register (body d octets) (d / 2)) (sym w)
