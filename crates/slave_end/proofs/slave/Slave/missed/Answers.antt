use Rattle.std.proofs.Common.{rules}
use Rattle.history.proofs.Lasting.{lawful}
use Rattle.slave_end.proofs.Lighting.{always_told}
use Rattle.slave_end.proofs.slave.Slave.missed.Goals as goal

pub returns : goal.returns
returns g c = record {
  value = search rules;
  told =
      always_told g.S.Sink (lawful g.met.S.Sink.effects g.met.S.Sink.within) g.P.Profile
      g.met.P.Profile.ranges c.args.self.now c.args.journal.now;
}
