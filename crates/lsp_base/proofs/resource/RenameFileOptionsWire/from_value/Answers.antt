use Rattle.std.proofs.Common.{refl, ap}
use Rattle.std.specs.Prelude.{Err}
use Rattle.lsp_shape.proofs.Refusals.{passed}
use Rattle.lsp_base.specs.Resource.{rename_file_options_row}
use Rattle.lsp_base.proofs.resource.RenameFileOptionsWire.from_value.Goals as goal

pub returns-in_err-overwrite-clause-unfit : goal.returns-in_err-overwrite-clause-unfit
unfolding rename_file_options_row
returns-in_err-overwrite-clause-unfit c = passed c.from_residual.result c.in_err-overwrite.field-0.0 _ c.from_residual.ensures.1 (λ why is. c.in_err-overwrite.ensures.unfit why (ap Err is) rename_file_options_row.shape refl (refl, refl))
