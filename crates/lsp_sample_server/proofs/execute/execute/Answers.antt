-- A command that waits asks nothing, and want of memory comes before any call on the desk.
use Rattle.std.proofs.Common.{sym, ◌∙◌}
use Rattle.lsp_session.proofs.FailLemmas.{poll_fails_still}
use Rattle.lsp_session.proofs.RunningLemmas.{on_gives}
use Rattle.lsp_sample_server.proofs.PollLemmas.{begins_wait}
use Rattle.lsp_sample_server.proofs.execute.execute.Goals as goal

pub returns-in_err-new-in-Unknown-clause-failed : goal.returns-in_err-new-in-Unknown-clause-failed
returns-in_err-new-in-Unknown-clause-failed g c = on_gives c.from_residual.result _ _ c.from_residual.ensures.1 (poll_fails_still g.D.Caller.meaning c.args.client.now)

pub returns-in-Wait-clause-begun : goal.returns-in-Wait-clause-begun
returns-in-Wait-clause-begun g c = begins_wait g.D.Caller.meaning _ _ _ c.in-Wait.polls _ (sym c.read_command.ensures ∙ c.in-Wait.is) c.waits.ensures
