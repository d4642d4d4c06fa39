use Rattle.length.proofs.Bounds.{bounds}
use Rattle.frame.specs.Commands.{octet}
use Rattle.chain.proofs.Law.{follows}
use Rattle.chain.proofs.numbers.Numbers.write.Goals as goal

pub returns-clause-chain : goal.returns-clause-chain
returns-clause-chain c =
    let d = bounds c.args.size.octets c.args.size.lawful in
    λ y s. follows c.args.self.now y s c.args.size.octets c.args.id (octet c.args.command) c.args.octets.now d.low d.even
