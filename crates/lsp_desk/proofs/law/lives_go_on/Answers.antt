use Rattle.lsp_desk.proofs.LifeLaws.{lives_go_on_lem}
use Rattle.lsp_desk.proofs.law.lives_go_on.Goals as goal

pub returns : goal.returns
returns c = lives_go_on_lem
