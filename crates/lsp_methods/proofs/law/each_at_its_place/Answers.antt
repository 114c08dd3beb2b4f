use Rattle.lsp_methods.proofs.PlaceLemmas as places
use Rattle.lsp_methods.proofs.law.each_at_its_place.Goals as goal

pub returns : goal.returns
returns c = places.each_at_its_place
