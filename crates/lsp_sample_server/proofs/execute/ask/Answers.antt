-- What was asked has a ticket, or it was refused.
use Rattle.std.proofs.Common.{refl}
use Rattle.lsp_work.specs.Workspace.{execute_command_params_row}
use Rattle.lsp_sample_server.proofs.PollLemmas.{asks_as}
use Rattle.lsp_sample_server.proofs.execute.ask.Goals as goal

pub returns-in-Ticket-clause-asked : goal.returns-in-Ticket-clause-asked
returns-in-Ticket-clause-asked g c =
    asks_as g.D.Caller.meaning c.args.client.now c.workspace_folders.new.self (execute_command_params_row.shown c.args.params) _ _ c.in_ok-ticket.ensures.asked (rw c.in-Ticket.is refl)

pub returns-in-Refused-clause-asked : goal.returns-in-Refused-clause-asked
returns-in-Refused-clause-asked g c =
    asks_as g.D.Caller.meaning c.args.client.now c.workspace_folders.new.self (execute_command_params_row.shown c.args.params) _ _ c.in_ok-ticket.ensures.asked (rw c.in-Refused.is refl)
