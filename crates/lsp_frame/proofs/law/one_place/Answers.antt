use Rattle.lsp_frame.proofs.PlacesCome.{one_place_lem}
use Rattle.lsp_frame.proofs.law.one_place.Goals as goal

pub returns : goal.returns
returns c = one_place_lem
