-- The step and the answer come to the outcome that the octets ask for.
use Rattle.std.proofs.Common.{ℕ, ap, subst, rules}
use Rattle.frame.specs.Reading.{command_octet}
use Rattle.shared_end.specs.Calls.{Answered}
use Rattle.shared_end.specs.declared.endpoint.Endpoint.{Endpoint}
use Rattle.shared_end.proofs.Framing.{framed}
use Rattle.master_end.specs.Matching.{asked}
use Rattle.master_end.proofs.master.calls.MasterEnd.frame.Goals as goal

pub returns : goal.returns
returns g c =
    let m = g.S.Sink in
    let e = c.args.self.now in
    let octets = c.args.octets.now in
    let reply = c.args.reply.now in
    let j = c.args.journal.now in
    let step = c.step-step in
    let done = c.answer in
    let Done : Endpoint g.row.S.Denot → ℕ → Type 0 =
    λ k command. Answered m k command step.result done.result done.new.self reply done.new.reply j done.new.journal in
    let answered : Done step.new.self.endpoint (command_octet octets) =
    subst (Done step.new.self.endpoint) c.command.ensures done.ensures in (
      search rules,
      ap (λ k. k.plan) step.ensures.rest,
      framed m e.endpoint e.outlet step.new.self.endpoint.link step.new.self.outlet octets
          done.result done.new.self reply done.new.reply j done.new.journal
          (asked e octets c.args.session) step.result step.ensures.step
          (subst (λ k. Done k.endpoint (command_octet octets)) step.ensures.rest answered),
    )
