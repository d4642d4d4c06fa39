-- The frame that was written, in room for the longest one. Assumes nothing.
use Rattle.std.specs.Prelude.{◌≡◌, ℕ, ◌-◌, List, ◌++◌, replicate}
use Rattle.length.specs.Lawful.{frame_octets}
use Rattle.length.specs.declared.DataLength.{DataLength}
use Rattle.frame.specs.declared.outgoing.Outgoing.{Outgoing}
use Rattle.chain.specs.declared.numbers.Numbers.{Numbers}
use Rattle.chain.specs.Numbers.{sent}

pub record Written (n : Numbers) (size : DataLength) (id command : ℕ) (octets : List ℕ) (f : Outgoing) : Type 0 where
  pub octets_are : f.octets ≡ sent n size.octets id command octets ++ replicate (67 - frame_octets size.octets) 0
  pub size_is : f.size ≡ size
