-- How a plan is printed. Assumes nothing.
use Rattle.std.specs.Prelude.{ℕ, List, ◌++◌, codes, decimal}
use Rattle.plan.specs.declared.draft.Draft.{Draft}

-- a number after its name, and then the rest of the row
abbrev pub named : List ℕ → ℕ → List ℕ → List ℕ
named name n rest = name ++ (decimal n ++ rest)

abbrev pub printed : Draft → List ℕ
printed d =
    named (codes "connection ID ") d.id
    (named (codes ", slave address ") d.address
    (named (codes ", watchdog ") d.watchdog
    (named (codes " ms, ") d.length.octets
    (named (codes " data octets, ") d.user_octets (codes " user octets")))))
