use Rattle.lsp_frame.proofs.RestLast.{told_is_items_lem}
use Rattle.lsp_frame.proofs.law.told_is_items.Goals as goal

pub returns : goal.returns
returns c = told_is_items_lem
