use Rattle.lsp_desk.proofs.FlowLaws.{tickets_add_up_lem}
use Rattle.lsp_desk.proofs.law.tickets_add_up.Goals as goal

pub returns : goal.returns
returns c = tickets_add_up_lem
