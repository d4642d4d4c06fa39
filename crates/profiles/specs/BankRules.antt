-- The bank profile's verdict. Assumes nothing.
use Rattle.std.specs.Prelude.{cond, List, ℕ, ◌==◌, length}
use Rattle.profile.specs.declared.verdict.Verdict.{Verdict}
use Rattle.profile.specs.declared.verdict.Verdict.TheVariants.{Accepted, Invalid}
use Rattle.profiles.specs.Numbers.{word_at, between}

-- there are two octets, and their number is from 10 to 3,000
abbrev pub bank_verdict : List ℕ → Verdict
bank_verdict octets = cond (length octets == 2) (cond (between 10 3000 (word_at octets 0)) Accepted Invalid) Invalid
