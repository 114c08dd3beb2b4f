use Rattle.lsp_frame.proofs.EncodedRead.{encoded_read_lem}
use Rattle.lsp_frame.proofs.law.encoded_read.Goals as goal

pub returns : goal.returns
returns c = encoded_read_lem
