use Rattle.std.proofs.Common.{option_map, ap}
use Rattle.std.specs.Prelude.{Err}
use Rattle.serde_json.specs.View.{view}
use Rattle.lsp_shape.specs.Write.{write}
use Rattle.lsp_shape.proofs.Told.{passed_none}
use Rattle.lsp_shape.proofs.Settled.{trims_again}
use Rattle.lsp_shape.proofs.law.trimmed.Goals as goal

pub returns-clause-again : goal.returns-clause-again
returns-clause-again g c =
    trims_again g.T.Wire.shape (view c.args.value.now) (view c.in_ok-to_value.field-0) (g.T.Wire.shown c.in_ok-read.read) c.in_ok-read.ensures.read c.in_ok-to_value.ensures.written c.in_ok-to_value.ensures.of_shape

pub returns-in_err-read-clause-unfit : goal.returns-in_err-read-clause-unfit
returns-in_err-read-clause-unfit g c = λ e.
    ap (option_map (write g.T.Wire.shape)) (passed_none c.from_residual.result c.in_err-read.field-0.0 c.from_residual.ensures.1 (λ why is. c.in_err-read.ensures.unfit why (ap Err is)) e)
