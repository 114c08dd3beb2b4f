use Rattle.lsp_frame.proofs.ToldGrows.{told_stays_lem}
use Rattle.lsp_frame.proofs.law.told_stays.Goals as goal

pub returns : goal.returns
returns c = told_stays_lem
