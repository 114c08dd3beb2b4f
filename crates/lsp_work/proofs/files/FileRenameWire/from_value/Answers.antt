use Rattle.std.proofs.Common.{refl, ap}
use Rattle.std.specs.Prelude.{Err}
use Rattle.lsp_shape.proofs.Refusals.{passed}
use Rattle.lsp_work.specs.Files.{file_rename_row}
use Rattle.lsp_work.proofs.files.FileRenameWire.from_value.Goals as goal

pub returns-in_err-old_uri-clause-unfit : goal.returns-in_err-old_uri-clause-unfit
unfolding file_rename_row
returns-in_err-old_uri-clause-unfit c = passed c.from_residual.result c.in_err-old_uri.field-0.0 _ c.from_residual.ensures.1 (λ why is. c.in_err-old_uri.ensures.unfit why (ap Err is) file_rename_row.shape refl (refl, refl))
