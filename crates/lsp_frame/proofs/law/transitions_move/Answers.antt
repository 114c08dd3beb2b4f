use Rattle.lsp_frame.proofs.TransitionMoves.{transitions_move_lem}
use Rattle.lsp_frame.proofs.law.transitions_move.Goals as goal

pub returns : goal.returns
returns c = transitions_move_lem
