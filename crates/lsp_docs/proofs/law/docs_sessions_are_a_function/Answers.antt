use Rattle.lsp_docs.proofs.DeterminedLemmas.{sessions_are_a_function}
use Rattle.lsp_docs.proofs.law.docs_sessions_are_a_function.Goals as goal

pub returns : goal.returns
returns g c = λ task kind. sessions_are_a_function task kind g.D.Caller.meaning (record { gives = g.P.Pick.gives; later = g.P.Pick.later })
