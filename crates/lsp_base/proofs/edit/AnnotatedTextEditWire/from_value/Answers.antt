use Rattle.std.proofs.Common.{refl, ap, inl}
use Rattle.std.specs.Prelude.{Err}
use Rattle.lsp_shape.proofs.Refusals.{passed}
use Rattle.lsp_base.specs.Edit.{annotated_text_edit_row}
use Rattle.lsp_base.specs.Edit.{text_edit_row}
use Rattle.lsp_base.proofs.edit.AnnotatedTextEditWire.from_value.Goals as goal

pub returns-in_err-text_edit-clause-unfit : goal.returns-in_err-text_edit-clause-unfit
unfolding annotated_text_edit_row text_edit_row
returns-in_err-text_edit-clause-unfit c = passed c.from_residual.result c.in_err-text_edit.field-0.0 _ c.from_residual.ensures.1 (λ why is. c.in_err-text_edit.ensures.unfit why (ap Err is) annotated_text_edit_row.shape refl (inl refl, refl))
