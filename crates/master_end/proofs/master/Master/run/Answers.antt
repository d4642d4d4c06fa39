use Rattle.history.proofs.Lasting.{lawful}
use Rattle.master_end.proofs.Lighting.{whole}
use Rattle.master_end.proofs.master.Master.run.Goals as goal

pub returns : goal.returns
returns g c =
    whole g.S.Sink (lawful g.met.S.Sink.effects g.met.S.Sink.within) c.args.plan c.args.sink
    c.args.user c.args.calls.now c.args.journal.now c.new-master.result c.make_all.new.end
    c.make_all.new.journal c.new-master.ensures c.make_all.ensures
