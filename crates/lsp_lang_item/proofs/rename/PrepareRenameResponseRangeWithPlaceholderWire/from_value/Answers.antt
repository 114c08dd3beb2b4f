use Rattle.std.proofs.Common.{refl, ap}
use Rattle.std.specs.Prelude.{Err}
use Rattle.lsp_shape.proofs.Refusals.{passed}
use Rattle.lsp_lang_item.specs.Rename.{prepare_rename_response_range_with_placeholder_row}
use Rattle.lsp_lang_item.proofs.rename.PrepareRenameResponseRangeWithPlaceholderWire.from_value.Goals as goal

pub returns-in_err-range-clause-unfit : goal.returns-in_err-range-clause-unfit
unfolding prepare_rename_response_range_with_placeholder_row
returns-in_err-range-clause-unfit c = passed c.from_residual.result c.in_err-range.field-0.0 _ c.from_residual.ensures.1 (λ why is. c.in_err-range.ensures.unfit why (ap Err is) prepare_rename_response_range_with_placeholder_row.shape refl (refl, refl))
