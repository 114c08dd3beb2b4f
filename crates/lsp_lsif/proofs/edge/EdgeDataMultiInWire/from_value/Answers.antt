use Rattle.std.proofs.Common.{refl, ap}
use Rattle.std.specs.Prelude.{Err}
use Rattle.lsp_shape.proofs.Refusals.{passed}
use Rattle.lsp_lsif.specs.Edge.{edge_data_multi_in_row}
use Rattle.lsp_lsif.proofs.edge.EdgeDataMultiInWire.from_value.Goals as goal

pub returns-in_err-in_vs-clause-unfit : goal.returns-in_err-in_vs-clause-unfit
unfolding edge_data_multi_in_row
returns-in_err-in_vs-clause-unfit c = passed c.from_residual.result c.in_err-in_vs.field-0.0 _ c.from_residual.ensures.1 (λ why is. c.in_err-in_vs.ensures.unfit why (ap Err is) edge_data_multi_in_row.shape refl (refl, refl))
