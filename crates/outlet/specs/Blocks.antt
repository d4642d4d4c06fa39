-- The blocks that a master sends, and their pieces. Assumes nothing.
use Rattle.std.specs.Prelude.{ℕ, ◌+◌, ◌-◌, min, List, ◌++◌, take, drop, replicate}
use Rattle.crc.specs.Register.{low_high}
use Rattle.faults.specs.declared.state.State.{State}
use Rattle.faults.specs.declared.state.State.TheVariants as s
use Rattle.frame.specs.declared.command.Command.{Command}
use Rattle.frame.specs.declared.command.Command.TheVariants as c
use Rattle.plan.specs.declared.sealed_plan.SealedPlan.{SealedPlan}
use Rattle.outlet.specs.declared.blocks.Block.{Block}
use Rattle.outlet.specs.declared.blocks.Block.TheVariants.{Connection, Parameter}
use Rattle.outlet.specs.declared.user.UserOctets.{UserOctets}

-- 64 octets: the connection ID and the slave address, and zeros
unfoldable pub connection_block : (id address : ℕ) → List ℕ
connection_block id address = low_high id ++ (low_high address ++ replicate 60 0)

-- 64 octets: 2, the watchdog time w, the count n, the first n user octets, and zeros
unfoldable pub parameter_block : (w n : ℕ) → (user : List ℕ) → List ℕ
parameter_block w n user = low_high 2 ++ (low_high w ++ (low_high n ++ (take n user ++ replicate (58 - n) 0)))

-- 32 octets: the d octets of a block that begin there, and zeros; no piece begins past 32
unfoldable pub piece : (d at : ℕ) → List ℕ → List ℕ
piece d at block = take d (drop (min at 32) block) ++ replicate (32 - d) 0

-- the state in which the pieces of a block are out, and the kind of frame that carries them
abbrev pub state_of : Block → State
state_of Connection = s.Connection
state_of Parameter = s.Parameter

abbrev pub command_of : Block → Command
command_of Connection = c.Connection
command_of Parameter = c.Parameter

module _ (p : SealedPlan) where
  -- how many octets of a block are sent
  abbrev pub count_of : Block → ℕ
  count_of Connection = 4
  count_of Parameter = 6 + p.draft.user_octets

  abbrev pub contents : UserOctets → Block → List ℕ
  contents user Connection = connection_block p.draft.id p.draft.address
  contents user Parameter = parameter_block p.draft.watchdog p.draft.user_octets user.octets
