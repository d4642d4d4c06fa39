-- The switches of a drive. Assumes nothing.
use Rattle.std.specs.Prelude.{ℕ, ◌+◌, ◌*◌, ◌/◌, ◌%◌, Bool, cond, List, ◌∷◌, replicate, ◌==◌}
use Rattle.sinks.specs.declared.drive.Switches.{Switches}

-- as the four low bits of an octet say
abbrev pub switches_of : ℕ → Switches
switches_of n =
    record { first = (n % 2 == 1); second = (n / 2 % 2 == 1); third = (n / 4 % 2 == 1); fourth = (n / 8 % 2 == 1) }

abbrev pub bit : Bool → ℕ
bit b = cond b 1 0

-- the octet whose four low bits they are
abbrev pub octet_of : Switches → ℕ
octet_of s = bit s.first + 2 * bit s.second + 4 * bit s.third + 8 * bit s.fourth

abbrev pub octets_of : Switches → List ℕ
octets_of s = octet_of s ∷ replicate 31 0
