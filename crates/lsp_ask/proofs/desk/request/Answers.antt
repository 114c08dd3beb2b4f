-- Out of memory before any call on the desk.
use Rattle.lsp_session.proofs.FailLemmas.{poll_fails_still}
use Rattle.lsp_session.proofs.RunningLemmas.{on_gives}
use Rattle.lsp_ask.proofs.desk.request.Goals as goal

pub returns-in_err-params-clause-failed : goal.returns-in_err-params-clause-failed
returns-in_err-params-clause-failed g c = on_gives c.from_residual-in_err-params.result _ _ c.from_residual-in_err-params.ensures.1 (poll_fails_still g.D.Caller.meaning c.args.client.now)
