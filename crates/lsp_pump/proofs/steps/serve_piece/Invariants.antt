-- The steps of the first items were made, and no exit was among them.
use Rattle.std.proofs.Common.{◌≡◌, List, ◌++◌, map, length, false}
use Rattle.std.specs.Prelude.{Ok}
use Rattle.lsp_session.specs.Item.{ItemData, show_item}
use Rattle.lsp_pump.specs.Pieces.{piece_items, ItemsAreFloatFree}
use Rattle.lsp_pump.specs.Steps.{MakesSteps, MayGoOn}
use Rattle.lsp_pump.proofs.steps.serve_piece.Given as goal

abbrev pub invariant-items : goal.invariant-items
invariant-items g l = record {
  made : (first : List ItemData) × (first ++ map show_item l.rest.items ≡ piece_items l.fn.piece) × MakesSteps g.S.Steps.way l.fn.rounds l.initial.steps first (Ok false) l.steps;
  going : MayGoOn g.S.Steps.way l.steps;
  free : ItemsAreFloatFree (map show_item l.rest.items);
}

abbrev pub decreases-items : goal.decreases-items
decreases-items g l = length l.rest.items
