-- Which data lengths are lawful, and what follows from one. Assumes nothing.
use Rattle.std.specs.Prelude.{ℕ, ◌+◌, ◌-◌, ◌*◌, ◌/◌, ◌%◌, Bool, ◌&&◌, ◌==◌, nat_le}

-- an even number from 2 to 32
abbrev pub lawful : ℕ → Bool
lawful d = nat_le 2 d && nat_le d 32 && d % 2 == 0

-- how many octets a frame has: its command, two CRC octets for each two data octets, and the connection ID
abbrev pub frame_octets : ℕ → ℕ
frame_octets d = 2 * d + 3

-- how many pieces of d octets carry so many octets: the quotient, rounded up
abbrev pub pieces : ℕ → ℕ → ℕ
pieces d octets = (octets + d - 1) / d

-- how many exchanges bring a connection back: Reset, Session, the pieces of the connection block of 4 octets and of the
-- parameter block of 6 octets and n user octets, and the first data frame
abbrev pub exchanges : ℕ → ℕ → ℕ
exchanges d n = 3 + pieces d 4 + pieces d (6 + n)
