use Rattle.lsp_desk.proofs.LifeLaws.{clients_leave_life_lem}
use Rattle.lsp_desk.proofs.law.clients_leave_life.Goals as goal

pub returns : goal.returns
returns c = clients_leave_life_lem
