-- The answer is the folders, an error, or that none has come.
use Rattle.std.proofs.Common.{refl, ap}
use Rattle.lsp_work.specs.Workspace.{execute_command_params_row}
use Rattle.lsp_ask.specs.Shown.{ticket_number}
use Rattle.lsp_service.specs.Server.{Now}
use Rattle.lsp_sample_server.specs.Execute.{command_result}
use Rattle.lsp_sample_server.proofs.PollLemmas.{answers_as}
use Rattle.lsp_sample_server.proofs.execute.answer.Goals as goal

pub returns-in_ok-value-in-Value-clause-answered : goal.returns-in_ok-value-in-Value-clause-answered
returns-in_ok-value-in-Value-clause-answered g c =
    answers_as g.D.Caller.meaning c.args.client.now c.poll_answer.new.self (execute_command_params_row.shown c.args.params) (ticket_number c.args.ticket) _ _ c.in_ok-folders.ensures.answered
    (rw c.in-Value.is (ap (λ d. Now (command_result d)) c.in_ok-value-in-Value.ensures))

pub returns-in-Error-clause-answered : goal.returns-in-Error-clause-answered
returns-in-Error-clause-answered g c =
    answers_as g.D.Caller.meaning c.args.client.now c.poll_answer.new.self (execute_command_params_row.shown c.args.params) (ticket_number c.args.ticket) _ _ c.in_ok-folders.ensures.answered (rw c.in-Error.is refl)

pub returns-in-Pending-clause-answered : goal.returns-in-Pending-clause-answered
returns-in-Pending-clause-answered g c =
    answers_as g.D.Caller.meaning c.args.client.now c.poll_answer.new.self (execute_command_params_row.shown c.args.params) (ticket_number c.args.ticket) _ _ c.in_ok-folders.ensures.answered (rw c.in-Pending.is refl)
