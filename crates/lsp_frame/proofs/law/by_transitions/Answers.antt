use Rattle.lsp_frame.proofs.ItemsByTransition.{by_transitions_lem}
use Rattle.lsp_frame.proofs.law.by_transitions.Goals as goal

pub returns : goal.returns
returns c = by_transitions_lem
