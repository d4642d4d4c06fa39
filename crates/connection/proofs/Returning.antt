-- A connection comes back after a reset of its master. Assumes nothing.
use Rattle.std.proofs.Common.{◌≡◌, ℕ, suc, ◌+◌, ◌-◌, ◌*◌, ◌<◌, ◌≤◌, true, ◌⊎◌, List, refl, ap, ◌∙◌, inl, inr, le-div_iff_mul-le, arith}
use Rattle.std.proofs.lemmas.Bool.{cases_lt}
use Rattle.length.specs.Lawful.{pieces}
use Rattle.sink.specs.declared.Sink as sink
use Rattle.sink.specs.Lawful.{Lawful}
use Rattle.profile.specs.declared.profile.Profile as profile
use Rattle.shared_end.specs.Endpoints.{width}
use Rattle.master_end.specs.declared.master.Master.{Master}
use Rattle.outlet.specs.declared.blocks.Block.TheVariants.{Connection, Parameter}
use Rattle.slave_end.specs.declared.slave.Slave.{Slave}
use Rattle.history.proofs.Blocks.{in_full}
use Rattle.connection.specs.Fits.{Fits}
use Rattle.connection.specs.Exchanges.{Pair, Exchanged, Undisturbed, reset, set, next}
use Rattle.connection.specs.Returning.{needed, Returns, ComesBack}
use Rattle.connection.proofs.Carrying.{Kept}
use Rattle.connection.proofs.Stages.{bounded, Sending, Ready}
use Rattle.connection.proofs.Advancing.{on_to_next, on_to_parameter, on_to_data}
use Rattle.connection.proofs.Opening as opening
use Rattle.connection.proofs.Opening.{Started, Opening}
use Rattle.connection.proofs.Lighting.{lights}

module _ {S T P : Type 0} (t : sink.Ghosts T) (m₀ : Master S) (octets : List ℕ) where
  -- what is out after so many exchanges: the Session frame, piece j of the connection or the parameter block, or the first data frame
  data Stage (k : ℕ) (a : Pair S T P) : Type 0 where
    opened : k ≡ 1 → Opening t m₀ octets a → Stage k a
    connecting : (j at : ℕ) → k ≡ 2 + j → at ≡ j * width m₀.endpoint → Sending m₀ t octets Connection at a → Stage k a
    parametrizing : (j at : ℕ) → k ≡ 2 + pieces (width m₀.endpoint) 4 + j → at ≡ j * width m₀.endpoint → Sending m₀ t octets Parameter at a → Stage k a
    ready : k ≡ 2 + pieces (width m₀.endpoint) 4 + pieces (width m₀.endpoint) (6 + m₀.plan.draft.user_octets) → Ready m₀ t octets a → Stage k a

  stage_kept : {k : ℕ} {a : Pair S T P} → Stage k a → Kept t m₀ octets a
  stage_kept (opened e h) = h.kept
  stage_kept (connecting j at e f h) = h.kept
  stage_kept (parametrizing j at e f h) = h.kept
  stage_kept (ready e h) = h.kept

-- one piece more, or the block is in full
one_more : (d j at : ℕ) → at ≡ j * d → at + d ≡ suc j * d
one_more d j at e = ap (λ n. n + d) e ∙ omega arith

full : (d total j at : ℕ) → 2 ≤ d → at ≡ j * d → at < total → total ≤ at + d → suc j ≡ pieces d total
full d total j at low e some done =
    let sum : at + d ≡ suc j * d = one_more d j at e in
    in_full d total (suc j) low (omega arith) (omega arith)

not_full : (d total j at : ℕ) → 2 ≤ d → at ≡ j * d → at < total → j < pieces d total
not_full d total j at low e some =
    let sum : at + d ≡ suc j * d = one_more d j at e in
    let some_d : 0 < d = omega arith in
    (le-div_iff_mul-le {k = d} {x = suc j} {y = total + d - 1} some_d).1 (omega arith)

module _ {S T P : Type 0} (m : sink.Ghosts S) (t : sink.Ghosts T) (law : Lawful t) (p : profile.Ghosts P) (m₀ : Master S) (s₀ : Slave T P)
    (fits : Fits p m₀ s₀) (up : t.up s₀.endpoint.sink ≡ true) (octets : List ℕ) where
  abbrev d : ℕ
  d = width m₀.endpoint

  abbrev n : ℕ
  n = m₀.plan.draft.user_octets

  abbrev At : ℕ → Pair S T P → Type 0
  At = Stage t m₀ octets

  started : {a : Pair S T P} → Undisturbed m t p octets m₀ s₀ 0 a → Started t m₀ a
  started (reset {e' = e} buffer reply j j' r h) = opening.starts t m₀ m p s₀ fits up e buffer reply j j' r h

  -- the next exchange, before the last
  step : (k : ℕ) (a b : Pair S T P) → At k a → Exchanged m t p a b → suc k < needed m₀ → At (suc k) b
  step k a b (opened e h) ex less =
      connecting 0 0 (ap suc e) (omega arith) (opening.connecting m t law p m₀ octets a b ex h)
  step k a b (connecting j at e f h) ex less = go (cases_lt (at + d) 4)
    where
      go : (at + d < 4) ⊎ (4 ≤ at + d) → At (suc k) b
      go (inl more) = connecting (suc j) (at + d) (ap suc e ∙ omega arith) (one_more d j at f) (on_to_next m t p m₀ octets fits.count_agrees a b ex Connection at h more)
      go (inr done) =
          let all : suc j ≡ pieces d 4 = full d 4 j at (bounded m₀).low f h.within done in
          parametrizing 0 0 (ap suc e ∙ omega (arith, all)) (omega arith) (on_to_parameter m t p m₀ octets fits.count_agrees a b ex at h done)
  step k a b (parametrizing j at e f h) ex less = go (cases_lt (at + d) (6 + n))
    where
      go : (at + d < 6 + n) ⊎ (6 + n ≤ at + d) → At (suc k) b
      go (inl more) = parametrizing (suc j) (at + d) (ap suc e ∙ omega arith) (one_more d j at f) (on_to_next m t p m₀ octets fits.count_agrees a b ex Parameter at h more)
      go (inr done) =
          let all : suc j ≡ pieces d (6 + n) = full d (6 + n) j at (bounded m₀).low f h.within done in
          ready (ap suc e ∙ omega (arith, all)) (on_to_data m t p m₀ octets fits.count_agrees a b ex at h done)
  step k a b (ready e h) ex less = let no : ⊥ = omega (arith, e, less) in absurd no

  stage : {k : ℕ} {a : Pair S T P} → Undisturbed m t p octets m₀ s₀ k a → 1 ≤ k → k < needed m₀ → At k a
  stage (reset buffer reply j j' r h) some less = let no : ⊥ = omega (arith, some) in absurd no
  stage (set {a = a} {b = b} {e' = e} u ex h) some less = opened refl (opening.opening m t law p m₀ a b ex (started u) octets e h)
  stage (next {k = k} {a = a} {b = b} u ex) some less = step (suc k) a b (stage u (omega arith) (omega arith)) ex less

  -- before the last exchange the first data frame is out
  last : {k : ℕ} {a : Pair S T P} → At k a → k + 1 ≡ needed m₀ → Ready m₀ t octets a
  last (opened e h) is = let no : ⊥ = omega (arith, e, is) in absurd no
  last (connecting j at e f h) is =
      let before : j < pieces d 4 = not_full d 4 j at (bounded m₀).low f h.within in
      let no : ⊥ = omega (arith, e, is, before) in absurd no
  last (parametrizing j at e f h) is =
      let before : j < pieces d (6 + n) = not_full d (6 + n) j at (bounded m₀).low f h.within in
      let no : ⊥ = omega (arith, e, is, before) in absurd no
  last (ready e h) is = h

  returns : Returns m t p m₀ s₀ octets
  returns =
      record {
        dark = λ k a u some less. (stage_kept t m₀ octets (stage u some less)).dark_is;
        lit = λ k a b u ex is. lights m t law p m₀ s₀ fits octets a b ex (last (stage u (omega (arith, is)) (omega (arith, is))) is);
      }

pub comes_back : {S T P : Type 0} (m : sink.Ghosts S) (t : sink.Ghosts T) → Lawful t → (p : profile.Ghosts P) (m₀ : Master S) (s₀ : Slave T P) →
    ComesBack m t p m₀ s₀
comes_back m t law p m₀ s₀ fits up octets = returns m t law p m₀ s₀ fits up octets
