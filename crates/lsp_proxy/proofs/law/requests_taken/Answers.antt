use Rattle.lsp_proxy.specs.Origin.{state_of}
use Rattle.lsp_proxy.proofs.HereLemmas.{not_gone_after}
use Rattle.lsp_proxy.proofs.TakenLemmas.{request_taken}
use Rattle.lsp_proxy.proofs.law.requests_taken.Goals as goal

pub returns : goal.returns
returns c = λ editors history k r i under here. request_taken k r i (state_of editors history) under (not_gone_after editors history k here)
