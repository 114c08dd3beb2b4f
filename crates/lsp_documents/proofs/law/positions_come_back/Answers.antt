use Rattle.lsp_documents.proofs.BackLemmas.{positions_back}
use Rattle.lsp_documents.proofs.law.positions_come_back.Goals as goal

pub returns : goal.returns
returns c = positions_back
