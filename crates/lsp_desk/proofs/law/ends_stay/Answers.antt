use Rattle.lsp_desk.proofs.LifeLaws.{ends_stay_lem}
use Rattle.lsp_desk.proofs.law.ends_stay.Goals as goal

pub returns : goal.returns
returns c = ends_stay_lem
