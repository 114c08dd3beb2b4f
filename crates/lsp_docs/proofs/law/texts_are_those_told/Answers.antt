use Rattle.lsp_docs.proofs.NoticeLemmas.{answers_texts}
use Rattle.lsp_docs.proofs.law.texts_are_those_told.Goals as goal

pub returns : goal.returns
returns g c = λ task kind. answers_texts task kind (record { gives = g.P.Pick.gives; later = g.P.Pick.later })
