-- The calls bring the connection back.
use Rattle.std.proofs.Common.{◌-◌, length, subst}
use Rattle.history.proofs.Lasting.{lawful}
use Rattle.connection.specs.Driving.{held, InOrder}
use Rattle.connection.proofs.Bringing.{nothing_against, brought}
use Rattle.connection.proofs.recovery.bring_back.Goals as goal

pub returns : goal.returns
returns g c =
    let e = c.args.master.now in
    let f = c.args.slave.now in
    let octets = c.args.octets.now in (
      nothing_against (length octets) c.octets-d.result c.octets.result e.endpoint.link.size f.endpoint.link.size c.size.result c.size-2.result
          c.if-octets-d.false c.if-octets-d-2.false c.octets-d.ensures.value c.size.ensures c.octets.ensures.value c.size-2.ensures,
      brought g.S.Sink g.T.Sink g.P.Profile e f octets
          (lawful g.met.T.Sink.effects g.met.T.Sink.within)
          c.args.sessions c.shows.result c.repeat.new.master c.repeat.new.slave
          c.args.master_journal.now c.repeat.new.master_journal c.args.slave_journal.now c.repeat.new.slave_journal
          (record {
            after_reset = c.reset.new.self;
            first = c.reset.new.reply;
            journal_after_reset = c.reset.new.journal;
            answer = c.in_ok-reset.field-0;
            resets = c.in_ok-reset.ensures;
            second = held c.exchange.new.master c.exchange.new.slave c.in_ok-second.second c.exchange.new.master_journal c.exchange.new.slave_journal;
            one = c.in_ok-second.ensures;
            after_setting = c.set.new.self;
            sets = c.in_ok-set.ensures;
            last = c.in_ok-repeat.field-0;
            rest =
                subst (λ n. InOrder g.S.Sink g.T.Sink g.P.Profile c.args.sessions (n - 1)
                (held c.set.new.self c.exchange.new.slave c.in_ok-second.second c.exchange.new.master_journal c.exchange.new.slave_journal)
                (held c.repeat.new.master c.repeat.new.slave c.in_ok-repeat.field-0 c.repeat.new.master_journal c.repeat.new.slave_journal))
                c.exchanges_needed-count.ensures.count c.in_ok-repeat.ensures;
          })
          c.shows.ensures.value,
    )
