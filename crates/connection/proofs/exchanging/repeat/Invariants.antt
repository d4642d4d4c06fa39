-- So many exchanges were made, in order.
use Rattle.connection.specs.Driving.{held, InOrder}
use Rattle.connection.proofs.exchanging.repeat.Given as goal

abbrev pub invariant-loop-made : goal.invariant-loop-made
invariant-loop-made g l =
    InOrder g.S.Sink g.T.Sink g.P.Profile l.sessions l._made
    (held l.initial.master l.initial.slave l.initial.latest l.initial.master_journal l.initial.slave_journal)
    (held l.master l.slave l.latest l.master_journal l.slave_journal)
