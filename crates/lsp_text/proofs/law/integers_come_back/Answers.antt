use Rattle.lsp_text.proofs.Integers.{integers_back}
use Rattle.lsp_text.proofs.law.integers_come_back.Goals as goal

pub returns : goal.returns
returns c = integers_back
