use Rattle.lsp_laws.proofs.GateLemmas.{gated_calls_wait_lem}
use Rattle.lsp_laws.proofs.desk.gated_calls_wait.Goals as goal

pub returns : goal.returns
returns c = gated_calls_wait_lem
