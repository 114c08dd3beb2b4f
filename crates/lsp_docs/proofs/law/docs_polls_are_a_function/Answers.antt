use Rattle.lsp_docs.proofs.DeterminedLemmas.{polls_are_a_function}
use Rattle.lsp_docs.proofs.law.docs_polls_are_a_function.Goals as goal

pub returns : goal.returns
returns c = polls_are_a_function
