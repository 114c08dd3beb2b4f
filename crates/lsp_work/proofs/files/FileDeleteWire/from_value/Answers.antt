use Rattle.std.proofs.Common.{refl, ap}
use Rattle.std.specs.Prelude.{Err}
use Rattle.lsp_shape.proofs.Refusals.{passed}
use Rattle.lsp_work.specs.Files.{file_delete_row}
use Rattle.lsp_work.proofs.files.FileDeleteWire.from_value.Goals as goal

pub returns-in_err-uri-clause-unfit : goal.returns-in_err-uri-clause-unfit
unfolding file_delete_row
returns-in_err-uri-clause-unfit c = passed c.from_residual.result c.in_err-uri.field-0.0 _ c.from_residual.ensures.1 (λ why is. c.in_err-uri.ensures.unfit why (ap Err is) file_delete_row.shape refl refl)
