use Rattle.lsp_shared.specs.declared.view.Asked.TheVariants.{Client}
use Rattle.lsp_shared.proofs.seat.DeskSeatCaller.client.Given as goal

abbrev pub ghosts-turn : goal.ghosts-turn
ghosts-turn g a = record { call = Client a.call }
