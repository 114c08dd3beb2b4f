use Rattle.lsp_docs.proofs.NoticeLemmas.{holds_documents}
use Rattle.lsp_docs.proofs.law.documents_are_those_told.Goals as goal

pub returns : goal.returns
returns g c = λ task kind. holds_documents task kind (record { gives = g.P.Pick.gives; later = g.P.Pick.later })
