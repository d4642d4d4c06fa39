use Rattle.std.proofs.Common.{rules}
use Rattle.history.proofs.Lasting.{lawful}
use Rattle.master_end.proofs.Lighting.{always_live}
use Rattle.master_end.proofs.master.Master.shows.Goals as goal

pub returns : goal.returns
returns g c = record {
  value = search rules;
  live =
      always_live g.S.Sink (lawful g.met.S.Sink.effects g.met.S.Sink.within) c.args.self.now;
}
