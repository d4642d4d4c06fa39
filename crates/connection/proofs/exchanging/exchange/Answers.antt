-- The two frames make an exchange; the slave's reply is not refused.
use Rattle.std.proofs.Common.{◌≡◌, ℕ, ◌-◌, length, take, replicate, ap, ◌∙◌, arith, rules}
use Rattle.length.specs.Lawful.{frame_octets}
use Rattle.length.specs.declared.DataLength.{DataLength}
use Rattle.connection.proofs.Making.{made, accepted}
use Rattle.connection.proofs.exchanging.exchange.Goals as goal

-- the part of a buffer that is a frame
part : (count : ℕ) (size size' : DataLength) → count ≡ frame_octets size'.octets → size' ≡ size → count - 0 ≡ frame_octets size.octets
part count size size' e same = let whole : count - 0 ≡ count = omega arith in whole ∙ e ∙ ap (λ s. frame_octets s.octets) same

pub returns-in_err-frame-2 : goal.returns-in_err-frame-2
returns-in_err-frame-2 g c =
    let e = c.args.master.now in
    let latest = c.args.latest in
    let reply = c.frame.new.reply in
    let count : ℕ = c.frame_octets-count.result in
    let count_is = part count e.endpoint.link.size c.size.result c.frame_octets-count.ensures c.size.ensures in
    let all : length latest ≡ 67 = search rules in
    absurd (accepted g.S.Sink g.T.Sink g.P.Profile e c.frame-2.new.self c.args.slave.now c.frame.new.self latest reply
    (take (count - 0) latest) (ap (λ k. take k latest) count_is) all
    c.args.sessions (replicate 67 0) c.args.slave_journal.now c.frame.new.journal c.in_ok-frame.field-0 c.in_ok-frame.ensures
    (take (count - 0) reply) (ap (λ k. take k reply) count_is)
    c.frame-2.new.reply c.args.master_journal.now c.frame-2.new.journal (omega arith)
    c.in_err-frame-2.field-0.0 c.in_err-frame-2.ensures)

pub returns : goal.returns
returns g c =
    let e = c.args.master.now in
    let latest = c.args.latest in
    let reply = c.frame.new.reply in
    let count : ℕ = c.frame_octets-count.result in
    let count_is = part count e.endpoint.link.size c.size.result c.frame_octets-count.ensures c.size.ensures in
    let all : length latest ≡ 67 = search rules in
    made g.S.Sink g.T.Sink g.P.Profile e c.frame-2.new.self c.args.slave.now c.frame.new.self latest reply
    (take (count - 0) latest) (ap (λ k. take k latest) count_is) all
    c.args.sessions (replicate 67 0) c.args.slave_journal.now c.frame.new.journal c.in_ok-frame.field-0 c.in_ok-frame.ensures
    (take (count - 0) reply) (ap (λ k. take k reply) count_is)
    c.frame-2.new.reply c.args.master_journal.now c.frame-2.new.journal c.in_ok-frame-2.field-0
    c.in_ok-frame-2.ensures
