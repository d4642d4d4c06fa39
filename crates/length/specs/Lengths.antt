-- What is answered where a data length is asked for. Assumes nothing.
use Rattle.std.specs.Prelude.{◌≡◌, ℕ, true, false, Ok, Err, Result}
use Rattle.codes.specs.declared.refusal.Refusal.{Refusal}
use Rattle.codes.specs.declared.refusal.Refusal.TheVariants.{UnlawfulLength}
use Rattle.length.specs.Lawful.{lawful}
use Rattle.length.specs.declared.DataLength.{DataLength}

-- a length of that many octets where that is lawful, and a refusal where it is not
abbrev pub Built : ℕ → Result DataLength Refusal → Type 0
Built octets (Ok d) = (lawful octets ≡ true) × (d.octets ≡ octets)
Built octets (Err e) = (lawful octets ≡ false) × (e ≡ UnlawfulLength)
