use Rattle.std.proofs.Common.{refl, ap}
use Rattle.std.specs.Prelude.{Err}
use Rattle.lsp_shape.proofs.Refusals.{passed}
use Rattle.lsp_offer_work.specs.Files.{file_operation_filter_row}
use Rattle.lsp_offer_work.proofs.files.FileOperationFilterWire.from_value.Goals as goal

pub returns-in_err-scheme-clause-unfit : goal.returns-in_err-scheme-clause-unfit
unfolding file_operation_filter_row
returns-in_err-scheme-clause-unfit c = passed c.from_residual.result c.in_err-scheme.field-0.0 _ c.from_residual.ensures.1 (λ why is. c.in_err-scheme.ensures.unfit why (ap Err is) file_operation_filter_row.shape refl (refl, refl))
