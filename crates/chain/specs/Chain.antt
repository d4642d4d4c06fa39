-- Two ends whose numbers are in step stay in step. Assumes nothing.
use Rattle.std.specs.Prelude.{◌≡◌, ℕ, true, List, Some, ◌≢◌}
use Rattle.chain.specs.declared.numbers.Numbers.{Numbers}
use Rattle.chain.specs.Numbers.{passes, sent_number, sent_crc, sent, after_sending, taken, after_taking}

-- what one writes next is what the other reads next, both ways, after the same frame
pub record InStep (x y : Numbers) : Type 0 where
  pub own_peer : x.own ≡ y.peer
  pub peer_own : x.peer ≡ y.own
  pub old_own : x.old_own ≡ y.old_peer
  pub old_peer : x.old_peer ≡ y.old_own
  pub last : x.last ≡ y.last

-- the frame that x writes is taken by y, with the number that x used, and then they are in step again
pub record Follows (x y : Numbers) (d id command : ℕ) (octets : List ℕ) : Type 0 where
  pub right : taken y d (sent x d id command octets) ≡ Some (sent_number x id command octets)
  pub in_step : InStep (after_sending x id command octets) (after_taking y d (sent x d id command octets))

-- so does every end that is in step with x
abbrev pub Chains : Numbers → (d id command : ℕ) → List ℕ → Type 0
Chains x d id command octets = (y : Numbers) → InStep x y → Follows x y d id command octets

-- a frame that may pass over a number never has the CRC_0 of the frame written before it
abbrev pub Differs : Numbers → (id command : ℕ) → List ℕ → Type 0
Differs x id command octets = passes command ≡ true → sent_crc x id command octets ≢ x.old_own
