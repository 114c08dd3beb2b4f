use Rattle.lsp_shared.specs.Steps.{item_for}
use Rattle.lsp_shared.proofs.turn.turn.Given as goal

abbrev pub ghosts-pass : goal.ghosts-pass
ghosts-pass g a = record { item = item_for g.C.DeskCall.replied g.N.Note.call a._result.now }
