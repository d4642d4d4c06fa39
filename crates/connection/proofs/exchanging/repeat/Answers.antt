-- One exchange more is made; a refused one is the first.
use Rattle.connection.specs.Driving.{held, none}
use Rattle.connection.proofs.Making.{one_more}
use Rattle.connection.proofs.exchanging.repeat.Goals as goal

pub loop-made-init : goal.loop-made-init
loop-made-init g c = none

pub loop-made-preserved : goal.loop-made-preserved
loop-made-preserved g c =
    let l = c.loop-made in
    one_more g.S.Sink g.T.Sink g.P.Profile c.args.sessions l._made
    (held c.args.master.now c.args.slave.now c.args.first c.args.master_journal.now c.args.slave_journal.now)
    (held l.master l.slave l.latest l.master_journal l.slave_journal)
    (held c.exchange.new.master c.exchange.new.slave c.in_ok-latest.latest c.exchange.new.master_journal c.exchange.new.slave_journal)
    l.invariant c.in_ok-latest.ensures
