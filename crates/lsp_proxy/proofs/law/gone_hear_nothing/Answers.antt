use Rattle.lsp_proxy.proofs.HereLemmas.{none_to_gone}
use Rattle.lsp_proxy.proofs.law.gone_hear_nothing.Goals as goal

pub returns : goal.returns
returns c = λ editors history event. none_to_gone editors history event
