-- One piece more, or none, and a tick.
use Rattle.std.proofs.Common.{[], sym, ◌∙◌, ap}
use Rattle.std.specs.Prelude.{Err}
use Rattle.std.proofs.lemmas.List.{append-nil}
use Rattle.rtrb.specs.Ring.{received}
use Rattle.lsp_pump.specs.Pieces.{piece_items, all_items}
use Rattle.lsp_pump.proofs.PiecesLemmas.{all_items-more}
use Rattle.lsp_pump.proofs.StepsLemmas.{makes_untick, makes_error}
use Rattle.lsp_pump.proofs.steps.serve_next.Goals as goal

pub returns-in-Ok-clause-makes : goal.returns-in-Ok-clause-makes
returns-in-Ok-clause-makes g c = (piece_items c.in-Ok.piece, ap all_items c.in-Ok.ensures.ok.0 ∙ all_items-more (received c.args.pieces.now) c.in-Ok.piece, c.serve_piece.ensures)

pub returns-in_ok-exits-in-Err-Empty-clause-makes : goal.returns-in_ok-exits-in-Err-Empty-clause-makes
returns-in_ok-exits-in-Err-Empty-clause-makes g c = (
  [],
  ap all_items c.in-Err-Empty.ensures.empty.0 ∙ sym (append-nil (all_items (received c.args.pieces.now))),
  makes_untick g.S.Steps.way c.args.rounds c.args.steps.now c.make_step.new.self [] _ c.in_ok-exits-in-Err-Empty.ensures,
)

pub returns-in_err-exits-in-Err-Empty-clause-makes : goal.returns-in_err-exits-in-Err-Empty-clause-makes
returns-in_err-exits-in-Err-Empty-clause-makes g c =
    let e = c.in_err-exits-in-Err-Empty.field-0.0 in
    let d = c.make_step.new.self in (
      [],
      ap all_items c.in-Err-Empty.ensures.empty.0 ∙ sym (append-nil (all_items (received c.args.pieces.now))),
      makes_error g.S.Steps.way c.args.rounds c.args.steps.now d [] e c.from_residual.result c.from_residual.ensures.1
          (makes_untick g.S.Steps.way c.args.rounds c.args.steps.now d [] (Err e) c.in_err-exits-in-Err-Empty.ensures),
    )
