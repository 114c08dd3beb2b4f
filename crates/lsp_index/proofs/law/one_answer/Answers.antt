use Rattle.lsp_index.proofs.OneLemmas.{one_answer_lem}
use Rattle.lsp_index.proofs.law.one_answer.Goals as goal

pub returns : goal.returns
returns c = one_answer_lem
