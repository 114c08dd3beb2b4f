use Rattle.lsp_proxy.proofs.TakenLemmas.{editor_cancels}
use Rattle.lsp_proxy.proofs.law.editor_cancels_its_own.Goals as goal

pub returns : goal.returns
returns c = λ s k r is. editor_cancels r s is k
