use Rattle.std.proofs.Common.{◌≡◌}
use Rattle.crc.specs.Register.{shifts}
use Rattle.crc.proofs.register.Register.feed.Given as goal

-- the register was shifted once for each turn so far
abbrev pub invariant-loop-i : goal.invariant-loop-i
invariant-loop-i l = l.bits ≡ shifts l._i l.initial.bits
