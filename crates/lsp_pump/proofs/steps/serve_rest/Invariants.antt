-- The steps of the items of the first pieces were made, and no exit was among them.
use Rattle.std.proofs.Common.{◌≡◌, List, ◌++◌, length, false}
use Rattle.std.specs.Prelude.{Ok}
use Rattle.rtrb.specs.Ring.{known_items}
use Rattle.lsp_session.specs.Item.{ItemData}
use Rattle.lsp_pump.specs.Pieces.{all_items}
use Rattle.lsp_pump.specs.Steps.{MakesSteps, MayGoOn}
use Rattle.lsp_pump.proofs.steps.serve_rest.Given as goal

abbrev pub invariant-pieces : goal.invariant-pieces
invariant-pieces g l = record {
  made : (first : List ItemData) × (first ++ all_items (known_items l.pieces) ≡ all_items (known_items l.initial.pieces)) × MakesSteps g.S.Steps.way l.fn.rounds l.initial.steps first (Ok false) l.steps;
  kept : l.back ≡ l.fn.back;
  going : MayGoOn g.S.Steps.way l.steps;
}

abbrev pub decreases-pieces : goal.decreases-pieces
decreases-pieces g l = length (known_items l.pieces)
