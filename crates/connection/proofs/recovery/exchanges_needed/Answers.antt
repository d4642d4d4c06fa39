-- The law holds for any two ends.
use Rattle.std.proofs.Common.{rules}
use Rattle.history.proofs.Lasting.{lawful}
use Rattle.connection.proofs.Returning.{comes_back}
use Rattle.connection.proofs.recovery.exchanges_needed.Goals as goal

pub returns : goal.returns
returns g c =
    record {
      count = search rules;
      law = comes_back g.S.Sink g.T.Sink (lawful g.met.T.Sink.effects g.met.T.Sink.within) g.P.Profile c.args.master.now c.args._slave.now;
    }
