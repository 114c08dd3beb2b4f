use Rattle.std.proofs.Common.{refl, ap, inl}
use Rattle.std.specs.Prelude.{Err}
use Rattle.lsp_shape.proofs.Refusals.{passed}
use Rattle.lsp_lsif.specs.Edge.{item_row}
use Rattle.lsp_lsif.specs.Edge.{edge_data_multi_in_row}
use Rattle.lsp_lsif.proofs.edge.ItemWire.from_value.Goals as goal

pub returns-in_err-document-clause-unfit : goal.returns-in_err-document-clause-unfit
unfolding item_row edge_data_multi_in_row
returns-in_err-document-clause-unfit c = passed c.from_residual.result c.in_err-document.field-0.0 _ c.from_residual.ensures.1 (λ why is. c.in_err-document.ensures.unfit why (ap Err is) item_row.shape refl (refl, refl, inl refl))
