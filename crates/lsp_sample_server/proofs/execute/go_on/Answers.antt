-- A task that waits asks nothing.
use Rattle.std.proofs.Common.{ap}
use Rattle.lsp_sample_server.specs.Left.{show_left}
use Rattle.lsp_sample_server.specs.Shown.{show_task}
use Rattle.lsp_sample_server.proofs.PollLemmas.{goes_on_waiting}
use Rattle.lsp_sample_server.proofs.execute.go_on.Goals as goal

pub returns-in-Waiting-clause-resumed : goal.returns-in-Waiting-clause-resumed
returns-in-Waiting-clause-resumed g c =
    goes_on_waiting g.D.Caller.meaning c.args.client.now (show_task c.args.task) c.in-Waiting.left c.in-Waiting.polls _ c.args.task.tied (ap show_left c.in-Waiting.is) c.waits.ensures
