use Rattle.lsp_desk.proofs.FlowLaws.{messages_pass_lem}
use Rattle.lsp_desk.proofs.law.messages_pass.Goals as goal

pub returns : goal.returns
returns c = messages_pass_lem
