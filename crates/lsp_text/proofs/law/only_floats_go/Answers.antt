use Rattle.lsp_text.proofs.LetIn.{only_floats}
use Rattle.lsp_text.proofs.law.only_floats_go.Goals as goal

pub returns : goal.returns
returns c = only_floats
