-- The last argument is taken out.
use Rattle.std.proofs.Common.{arith}
use Rattle.lsp_sample_server.proofs.CommandLemmas.{last_popped}
use Rattle.lsp_sample_server.proofs.command.echoed.Goals as goal

pub returns : goal.returns
unfolding Rattle.lsp_work.specs.Workspace.execute_command_params_row
returns c = last_popped _ _ c.pop.result c.pop.ensures.items (λ h. c.pop.ensures.variant.1 (omega (arith, h, c.args.params.arguments.ok.0)))
