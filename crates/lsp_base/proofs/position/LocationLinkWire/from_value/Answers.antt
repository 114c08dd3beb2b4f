use Rattle.std.proofs.Common.{refl, ap}
use Rattle.std.specs.Prelude.{Err}
use Rattle.lsp_shape.proofs.Refusals.{passed}
use Rattle.lsp_base.specs.Position.{location_link_row}
use Rattle.lsp_base.proofs.position.LocationLinkWire.from_value.Goals as goal

pub returns-in_err-origin_selection_range-clause-unfit : goal.returns-in_err-origin_selection_range-clause-unfit
unfolding location_link_row
returns-in_err-origin_selection_range-clause-unfit c = passed c.from_residual.result c.in_err-origin_selection_range.field-0.0 _ c.from_residual.ensures.1 (λ why is. c.in_err-origin_selection_range.ensures.unfit why (ap Err is) location_link_row.shape refl (refl, refl, refl, refl))
