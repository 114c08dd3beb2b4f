-- A call that has its reply asks nothing, and want of memory comes before any call on the desk.
use Rattle.std.proofs.Common.{sym, ap, ◌∙◌}
use Rattle.lsp_session.proofs.FailLemmas.{poll_fails_still}
use Rattle.lsp_session.proofs.RunningLemmas.{on_gives}
use Rattle.lsp_service.specs.Calls.{show_call}
use Rattle.lsp_service.specs.Replies.{show_reply}
use Rattle.lsp_sample_server.specs.Plan.{show_plan}
use Rattle.lsp_sample_server.proofs.PlanLemmas.{begins_replied}
use Rattle.lsp_sample_server.proofs.sample.SampleLanguageServer.call.Goals as goal

pub returns-in_err-reply-clause-failed : goal.returns-in_err-reply-clause-failed
returns-in_err-reply-clause-failed g c = on_gives c.from_residual.result _ _ c.from_residual.ensures.1 (poll_fails_still g.D.Caller.meaning c.args.client.now)

pub returns-in-Reply-clause-called : goal.returns-in-Reply-clause-called
returns-in-Reply-clause-called g c =
    begins_replied g.D.Caller.meaning c.args.client.now c.args.self.now (show_call c.args.call) (show_reply c.in-Reply.reply) (ap show_plan (sym c.in-Reply.is) ∙ c.in_ok-reply.ensures.plan)
