use Rattle.lsp_proxy.specs.Proxy.{opening_state}
use Rattle.lsp_proxy.proofs.IdLemmas.{ids_distinct}
use Rattle.lsp_proxy.proofs.law.ids_differ.Goals as goal

pub returns : goal.returns
returns c = λ editors events. ids_distinct events (opening_state editors)
