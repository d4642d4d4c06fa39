use Rattle.std.proofs.Common.{rules}
use Rattle.history.proofs.Lasting.{lawful}
use Rattle.master_end.proofs.Lighting.{always_told}
use Rattle.master_end.proofs.master.Master.missed.Goals as goal

pub returns : goal.returns
returns g c = record {
  value = search rules;
  told =
      always_told g.S.Sink (lawful g.met.S.Sink.effects g.met.S.Sink.within) c.args.self.now c.args.journal.now;
}
