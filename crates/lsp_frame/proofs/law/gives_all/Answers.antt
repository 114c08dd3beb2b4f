use Rattle.lsp_frame.proofs.CallLists.{gives_all_lem}
use Rattle.lsp_frame.proofs.law.gives_all.Goals as goal

pub returns : goal.returns
returns c = gives_all_lem
