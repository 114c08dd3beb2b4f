use Rattle.lsp_frame.proofs.Sections.{good_blocks_lem}
use Rattle.lsp_frame.proofs.law.good_blocks.Goals as goal

pub returns : goal.returns
returns c = good_blocks_lem
