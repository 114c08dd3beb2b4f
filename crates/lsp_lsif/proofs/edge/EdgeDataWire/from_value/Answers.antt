use Rattle.std.proofs.Common.{refl, ap}
use Rattle.std.specs.Prelude.{Err}
use Rattle.lsp_shape.proofs.Refusals.{passed}
use Rattle.lsp_lsif.specs.Edge.{edge_data_row}
use Rattle.lsp_lsif.proofs.edge.EdgeDataWire.from_value.Goals as goal

pub returns-in_err-in_v-clause-unfit : goal.returns-in_err-in_v-clause-unfit
unfolding edge_data_row
returns-in_err-in_v-clause-unfit c = passed c.from_residual.result c.in_err-in_v.field-0.0 _ c.from_residual.ensures.1 (λ why is. c.in_err-in_v.ensures.unfit why (ap Err is) edge_data_row.shape refl (refl, refl))
