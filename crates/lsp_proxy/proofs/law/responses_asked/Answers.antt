use Rattle.lsp_proxy.proofs.CountLemmas.{at_most_sent}
use Rattle.lsp_proxy.proofs.law.responses_asked.Goals as goal

pub returns : goal.returns
returns c = λ editors events side i. at_most_sent side i editors events
