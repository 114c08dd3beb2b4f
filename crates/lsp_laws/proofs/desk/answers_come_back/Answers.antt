use Rattle.lsp_laws.proofs.AnswerLemmas.{answers_come_back_lem}
use Rattle.lsp_laws.proofs.desk.answers_come_back.Goals as goal

pub returns : goal.returns
returns c = answers_come_back_lem
