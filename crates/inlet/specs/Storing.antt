-- How the pieces of a block are stored. Assumes nothing.
use Rattle.std.specs.Prelude.{ℕ, ◌+◌, ◌*◌, List, [], ◌∷◌, ◌++◌, take, drop, slice_index}
use Rattle.history.specs.Live.{data_octets}
use Rattle.inlet.specs.declared.Inlet.{Inlet}

-- the first d octets of a piece stand in the block from there on
abbrev pub placed : (d at : ℕ) → List ℕ → List ℕ → List ℕ
placed d at block octets = take at block ++ (take d octets ++ drop (at + d) block)

-- the two-octet number that begins at a place
abbrev pub word : List ℕ → ℕ → ℕ
word octets at = slice_index octets at + 256 * slice_index octets (at + 1)

-- a piece is stored behind those before it, for the connection with that ID
abbrev pub with_piece : Inlet → (d id at : ℕ) → List ℕ → Inlet
with_piece x d id at octets =
    record { address = x.address; id = id; block = placed d at x.block octets; stored = at + d }

-- the octets of a block, from the frames that carried its pieces, the latest first
abbrev pub joined : (d : ℕ) → List (List ℕ) → List ℕ
joined d [] = []
joined d (o ∷ os) = joined d os ++ take d (data_octets d o)

-- the watchdog time that stands in the parameter block
abbrev pub watchdog_in : (d : ℕ) → (parameters : List (List ℕ)) → ℕ
watchdog_in d parameters = word (joined d parameters) 2
