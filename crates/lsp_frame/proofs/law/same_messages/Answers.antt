use Rattle.lsp_frame.proofs.FramesRead.{same_messages_lem}
use Rattle.lsp_frame.proofs.law.same_messages.Goals as goal

pub returns : goal.returns
returns c = same_messages_lem
