use Rattle.std.proofs.Common.{refl, ap}
use Rattle.std.specs.Prelude.{Err}
use Rattle.lsp_shape.proofs.Refusals.{passed}
use Rattle.lsp_lsif.specs.Vertex.{result_set_row}
use Rattle.lsp_lsif.proofs.vertex.ResultSetWire.from_value.Goals as goal

pub returns-in_err-key-clause-unfit : goal.returns-in_err-key-clause-unfit
unfolding result_set_row
returns-in_err-key-clause-unfit c = passed c.from_residual.result c.in_err-key.field-0.0 _ c.from_residual.ensures.1 (λ why is. c.in_err-key.ensures.unfit why (ap Err is) result_set_row.shape refl refl)
