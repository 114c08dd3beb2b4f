use Rattle.lsp_desk.proofs.FlowLaws.{answers_reach_oldest_lem}
use Rattle.lsp_desk.proofs.law.answers_reach_oldest.Goals as goal

pub returns : goal.returns
returns c = answers_reach_oldest_lem
