-- The drive profile's verdict. Assumes nothing.
use Rattle.std.specs.Prelude.{cond, List, ℕ, ◌==◌, length}
use Rattle.profile.specs.Verdicts.{device}
use Rattle.profile.specs.declared.verdict.Verdict.{Verdict}
use Rattle.profile.specs.declared.verdict.Verdict.TheVariants.{Accepted, Invalid}
use Rattle.profiles.specs.Numbers.{word_at, between}

-- the first number is from 1 to 6,000, and then the second from 1 to 10,000
abbrev pub two_numbers : ℕ → ℕ → Verdict
two_numbers first second =
    cond (between 1 6000 first) (cond (between 1 10000 second) Accepted (device 129)) (device 128)

-- of the four octets, of which there are no more
abbrev pub drive_verdict : List ℕ → Verdict
drive_verdict octets =
    cond (length octets == 4) (two_numbers (word_at octets 0) (word_at octets 2)) Invalid
