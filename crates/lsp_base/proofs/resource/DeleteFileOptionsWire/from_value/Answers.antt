use Rattle.std.proofs.Common.{refl, ap}
use Rattle.std.specs.Prelude.{Err}
use Rattle.lsp_shape.proofs.Refusals.{passed}
use Rattle.lsp_base.specs.Resource.{delete_file_options_row}
use Rattle.lsp_base.proofs.resource.DeleteFileOptionsWire.from_value.Goals as goal

pub returns-in_err-recursive-clause-unfit : goal.returns-in_err-recursive-clause-unfit
unfolding delete_file_options_row
returns-in_err-recursive-clause-unfit c = passed c.from_residual.result c.in_err-recursive.field-0.0 _ c.from_residual.ensures.1 (λ why is. c.in_err-recursive.ensures.unfit why (ap Err is) delete_file_options_row.shape refl (refl, refl, refl))
