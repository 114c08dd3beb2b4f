use Rattle.lsp_proxy.proofs.TakenLemmas.{server_cancels}
use Rattle.lsp_proxy.proofs.law.server_cancels_its_own.Goals as goal

pub returns : goal.returns
returns c = λ s r is. server_cancels r s is
