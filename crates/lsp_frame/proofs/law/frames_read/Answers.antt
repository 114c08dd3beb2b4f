use Rattle.lsp_frame.proofs.FramesRead.{frames_read_lem}
use Rattle.lsp_frame.proofs.law.frames_read.Goals as goal

pub returns : goal.returns
returns c = frames_read_lem
