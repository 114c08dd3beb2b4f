use Rattle.lsp_frame.proofs.FramesRead.{messages_read_lem}
use Rattle.lsp_frame.proofs.law.messages_read.Goals as goal

pub returns : goal.returns
returns c = messages_read_lem
