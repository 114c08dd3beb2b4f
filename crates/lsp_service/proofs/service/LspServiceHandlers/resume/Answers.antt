-- A poll of the service is one of its server, whose laws give the rest.
use Rattle.std.proofs.Common.{sym, ap, ◌∙◌}
use Rattle.lsp_session.proofs.RunningLemmas.{on_gives}
use Rattle.lsp_session.specs.Semantics.{Held}
use Rattle.lsp_service.specs.Calls.{target_of}
use Rattle.lsp_service.specs.Data.{MethodCall}
use Rattle.lsp_service.proofs.service.LspServiceHandlers.resume.Goals as goal

pub returns-in_err-outcome-in-Now-clause-failed : goal.returns-in_err-outcome-in-Now-clause-failed
returns-in_err-outcome-in-Now-clause-failed g c =
    let p = c.in_ok-reply.ensures.resumed in
    on_gives c.from_residual-in_err-outcome-in-Now.result _ _ c.from_residual-in_err-outcome-in-Now.ensures.1
    (record { trace = p.trace; grows = p.grows; asks = g.met.S.LanguageServer.laws.asks_client _ (Held (g.S.LanguageServer.semantics.show_task c.args.held.task)) _ _ _ p.holds; spends = tt })

pub invariant_of-result : goal.invariant_of-result
invariant_of-result g c =
    let p = rw c.in-Later.is at c.in_ok-reply.ensures.resumed in
    record { kept = ap (λ (x : MethodCall). target_of x c.args.held.kind) (g.met.S.LanguageServer.laws.keeps_call _ (Held (g.S.LanguageServer.semantics.show_task c.args.held.task)) _ _ _ p.holds) ∙ c.args.held.kept }
