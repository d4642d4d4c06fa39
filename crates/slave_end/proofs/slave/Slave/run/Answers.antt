use Rattle.history.proofs.Lasting.{lawful}
use Rattle.slave_end.proofs.Lighting.{whole}
use Rattle.slave_end.proofs.slave.Slave.run.Goals as goal

pub returns : goal.returns
returns g c =
    whole g.S.Sink (lawful g.met.S.Sink.effects g.met.S.Sink.within) g.P.Profile g.met.P.Profile.ranges
    c.args.size c.args.address c.args.sink c.args.profile c.args.calls.now c.args.journal.now c.new-slave.result
    c.make_all.new.end c.make_all.new.journal c.new-slave.ensures c.make_all.ensures
