use Rattle.std.proofs.Common.{arith}
use Rattle.lsp_sample_server.proofs.CommandLemmas.{unknown_of_more}
use Rattle.lsp_sample_server.proofs.command.named.Goals as goal

pub returns-in_default : goal.returns-in_default
returns-in_default c = unknown_of_more c.args.name.now c.args.arguments.now (omega arith)
