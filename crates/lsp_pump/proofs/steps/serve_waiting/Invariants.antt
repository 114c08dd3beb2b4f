-- The steps of all items that were received were made, and no exit was among them.
use Rattle.std.proofs.Common.{false}
use Rattle.std.specs.Prelude.{Ok}
use Rattle.rtrb.specs.Ring.{received, SameConsumer}
use Rattle.lsp_pump.specs.Pieces.{all_items}
use Rattle.lsp_pump.specs.Steps.{MakesSteps, MayGoOn}
use Rattle.lsp_pump.proofs.steps.serve_waiting.Given as goal

abbrev pub invariant-loop : goal.invariant-loop
invariant-loop g l = record {
  made : MakesSteps g.S.Steps.way l.fn.rounds l.initial.steps (all_items (received l.pieces)) (Ok false) l.steps;
  ring : SameConsumer l.initial.pieces l.pieces;
  going : MayGoOn g.S.Steps.way l.steps;
}
