use Rattle.std.proofs.Common.{refl, ap}
use Rattle.std.specs.Prelude.{Err}
use Rattle.lsp_shape.proofs.Refusals.{passed}
use Rattle.lsp_offer_work.specs.Files.{file_operation_pattern_row}
use Rattle.lsp_offer_work.proofs.files.FileOperationPatternWire.from_value.Goals as goal

pub returns-in_err-glob-clause-unfit : goal.returns-in_err-glob-clause-unfit
unfolding file_operation_pattern_row
returns-in_err-glob-clause-unfit c = passed c.from_residual.result c.in_err-glob.field-0.0 _ c.from_residual.ensures.1 (λ why is. c.in_err-glob.ensures.unfit why (ap Err is) file_operation_pattern_row.shape refl (refl, refl, refl))
