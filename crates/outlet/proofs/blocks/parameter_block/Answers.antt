-- Behind the user octets the zeros are left.
use Rattle.std.proofs.Common.{◌≡◌, ℕ, ◌+◌, ◌-◌, ◌/◌, ◌%◌, [], ◌∷◌, ◌++◌, get_or, take, drop, replicate, ap, ◌∙◌, arith}
use Rattle.std.proofs.lemmas.List.{drop-replicate}
use Rattle.crc.specs.Register.{low_high}
use Rattle.outlet.specs.Blocks.{parameter_block}
use Rattle.outlet.proofs.blocks.parameter_block.Goals as goal

pub returns : goal.returns
unfolding parameter_block
returns c =
    let w : ℕ = c.args.watchdog in
    let n : ℕ = c.args.count in
    let user = c.args.user.now in
    let all : n - 0 ≡ n = omega arith in
    let behind : 6 + n - 6 ≡ n = omega arith in
    let w_high : w / 256 % 256 ≡ w / 256 = omega arith in
    let n_high : n / 256 % 256 ≡ n / 256 = omega arith in
    let w_is : c.to_le_bytes.result ≡ low_high w = c.to_le_bytes.ensures ∙ ap (λ h. w % 256 ∷ h ∷ []) w_high in
    let n_is : c.to_le_bytes-2.result ≡ low_high n = c.to_le_bytes-2.ensures ∙ ap (λ h. n % 256 ∷ h ∷ []) n_high in
    let front_is : c.copy_from_slice-2.new.self ≡ take n user = c.copy_from_slice-2.ensures.after ∙ ap (λ k. take k user) all in
    let back_is : drop (6 + n - 6) (replicate 58 0) ≡ replicate (58 - n) 0 = rw behind (drop-replicate n 58 0) in
    rw c.copy_from_slice.ensures.after
    (λ i. 2 ∷ 0 ∷ get_or (w_is i) 0 0 ∷ get_or (w_is i) 1 0 ∷ get_or (n_is i) 0 0 ∷ get_or (n_is i) 1 0 ∷ (front_is i ++ back_is i))
