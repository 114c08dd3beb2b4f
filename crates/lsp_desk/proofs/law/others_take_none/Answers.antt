use Rattle.lsp_desk.proofs.PlainLemmas.{others_take_none_lem}
use Rattle.lsp_desk.proofs.law.others_take_none.Goals as goal

pub returns : goal.returns
returns c = others_take_none_lem
