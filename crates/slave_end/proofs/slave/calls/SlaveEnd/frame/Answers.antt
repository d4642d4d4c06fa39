-- The step and its answer come to the outcome that the octets ask for.
use Rattle.std.proofs.Common.{ap, subst, rules}
use Rattle.shared_end.specs.Endpoints.{with_link}
use Rattle.shared_end.specs.Calls.{Answered}
use Rattle.shared_end.proofs.Framing.{framed, room}
use Rattle.slave_end.specs.Matching.{asked}
use Rattle.slave_end.proofs.slave.calls.SlaveEnd.frame.Goals as goal

pub answer-requires : goal.answer-requires
answer-requires g c =
    let e = c.args.self.now in
    let e' = c.step-step.new.self in
    room (asked g.P.Profile e c.args.octets.now c.args.session) e.endpoint.link e.inlet c.step-step.result
    e'.endpoint.link e'.inlet c.args.reply.now c.step-step.ensures.step (search rules)

pub returns : goal.returns
returns g c =
    let m = g.S.Sink in
    let e = c.args.self.now in
    let e' = c.step-step.new.self in
    let octets = c.args.octets.now in
    let answered =
    subst (λ p. Answered m p c.command.result c.step-step.result c.answer.result c.answer.new.self
    c.args.reply.now c.answer.new.reply c.args.journal.now c.answer.new.journal)
    (ap (λ x. x.endpoint) c.step-step.ensures.rest) c.answer.ensures in (
      search rules,
      ap (λ x. x.profile) c.step-step.ensures.rest,
      framed m e.endpoint e.inlet e'.endpoint.link e'.inlet octets c.answer.result c.answer.new.self
          c.args.reply.now c.answer.new.reply c.args.journal.now c.answer.new.journal
          (asked g.P.Profile e octets c.args.session) c.step-step.result c.step-step.ensures.step
          (subst (λ k. Answered m (with_link e.endpoint e'.endpoint.link) k c.step-step.result c.answer.result c.answer.new.self
          c.args.reply.now c.answer.new.reply c.args.journal.now c.answer.new.journal) c.command.ensures answered),
    )
