use Rattle.lsp_shared.specs.declared.view.Asked.TheVariants.{Server}
use Rattle.lsp_shared.proofs.seat.DeskOwnerDesk.server.Given as goal

abbrev pub ghosts-turn : goal.ghosts-turn
ghosts-turn g a = record { call = Server a.call }
