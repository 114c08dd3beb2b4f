use Rattle.std.proofs.Common.{refl, ap}
use Rattle.std.specs.Prelude.{Err}
use Rattle.lsp_shape.proofs.Refusals.{passed}
use Rattle.lsp_work.specs.Files.{delete_files_params_row}
use Rattle.lsp_work.proofs.files.DeleteFilesParamsWire.from_value.Goals as goal

pub returns-in_err-files-clause-unfit : goal.returns-in_err-files-clause-unfit
unfolding delete_files_params_row
returns-in_err-files-clause-unfit c = passed c.from_residual.result c.in_err-files.field-0.0 _ c.from_residual.ensures.1 (λ why is. c.in_err-files.ensures.unfit why (ap Err is) delete_files_params_row.shape refl refl)
