use Rattle.lsp_proxy.proofs.OriginLemmas.{all_have_origins}
use Rattle.lsp_proxy.proofs.law.responses_come.Goals as goal

pub returns : goal.returns
returns c = λ editors history event. all_have_origins editors history event
