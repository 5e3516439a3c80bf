use Rattle.std.proofs.Common.{◌∙◌, ap, None, Some, refl, subst, sym}
use Rattle.std.specs.Option.{option_map}
use Rattle.json.specs.Value.{value_view}
use Rattle.yl_rpc.specs.Views.{call_view, id_view}
use Rattle.yl_server.specs.declared.reply.Reply.TheVariants.{Nothing}
use Rattle.yl_server.specs.Events.{Read}
use Rattle.yl_server.specs.Steps.{IsMet}
use Rattle.yl_server.proofs.Handled.{exit_met, invalid_met, notice_met, request_met, response_met}
use Rattle.yl_server.proofs.Noticed.{no_end}
use Rattle.yl_server.proofs.server.Server.meet.Goals as goal

pub returns-in-Request : goal.returns-in-Request
returns-in-Request g c =
    let h = c.answer.ensures in
    subst (λ call. IsMet (Read (call_view call)) c.args.self.now c.answer.new.self c.answer.result None) (sym c.in-Request.is)
    (request_met h.0 (id_view c.in-Request.id) c.in-Request.method.now (option_map (λ v. value_view v.now) c.in-Request.params) c.args.self.now c.answer.new.self c.answer.result h.1 h.2)

pub returns-then-eq : goal.returns-then-eq
returns-then-eq g c =
    subst (λ call. IsMet (Read (call_view call)) c.args.self.now c.args.self.now Nothing (Some c.status.result)) (sym c.in-Notification.is)
    (exit_met c.in-Notification.method.now (option_map (λ v. value_view v.now) c.in-Notification.params) c.args.self.now c.args.self.now Nothing c.status.result (sym c.eq.ensures ∙ c.if-eq.true) c.status.ensures (refl, refl))

pub returns-else-eq : goal.returns-else-eq
returns-else-eq g c =
    let m = c.in-Notification.method.now in
    let params = option_map (λ v. value_view v.now) c.in-Notification.params in
    let h = c.notice.ensures in
    subst (λ call. IsMet (Read (call_view call)) c.args.self.now c.notice.new.self c.notice.result None) (sym c.in-Notification.is)
    (notice_met h.0 m params c.args.self.now c.notice.new.self c.notice.result (sym c.eq.ensures ∙ c.if-eq.false) h.1 (no_end m params c.args.self.now.phase) h.2)

pub returns-in-Response : goal.returns-in-Response
returns-in-Response g c =
    subst (λ call. IsMet (Read (call_view call)) c.args.self.now c.args.self.now Nothing None) (sym c.in-Response.is) (response_met c.args.self.now c.args.self.now Nothing (refl, refl))

pub returns-in-Invalid : goal.returns-in-Invalid
returns-in-Invalid g c = invalid_met (call_view c.args.call) (id_view c.in-Invalid.id) c.args.self.now c.args.self.now _ (ap (λ call. call_view call) c.in-Invalid.is) (refl, refl)
