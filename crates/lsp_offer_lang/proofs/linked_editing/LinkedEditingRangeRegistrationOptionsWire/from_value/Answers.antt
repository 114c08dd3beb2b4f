use Rattle.std.proofs.Common.{refl, ap, inl, inr}
use Rattle.std.specs.Prelude.{Err}
use Rattle.lsp_shape.proofs.Refusals.{passed, passed_in}
use Rattle.lsp_offer_lang.specs.LinkedEditing.{linked_editing_range_registration_options_row}
use Rattle.lsp_base.specs.Registration.{text_document_registration_options_row}
use Rattle.lsp_offer_lang.specs.LinkedEditing.{linked_editing_range_options_row}
use Rattle.lsp_names.specs.Progress.{work_done_progress_options_row}
use Rattle.lsp_base.specs.Registration.{static_registration_options_row}
use Rattle.lsp_offer_lang.proofs.linked_editing.LinkedEditingRangeRegistrationOptionsWire.from_value.Goals as goal

pub returns-in_err-flat-clause-unfit : goal.returns-in_err-flat-clause-unfit
unfolding linked_editing_range_registration_options_row text_document_registration_options_row linked_editing_range_options_row work_done_progress_options_row static_registration_options_row
returns-in_err-flat-clause-unfit c = passed c.from_residual.result c.in_err-flat.field-0.0 _ c.from_residual.ensures.1 (λ why is. c.in_err-flat.ensures.unfit why (ap Err is) linked_editing_range_registration_options_row.shape (inl refl))

pub returns-in_err-flat-2-clause-unfit : goal.returns-in_err-flat-2-clause-unfit
unfolding linked_editing_range_registration_options_row text_document_registration_options_row linked_editing_range_options_row work_done_progress_options_row static_registration_options_row
returns-in_err-flat-2-clause-unfit c = passed c.from_residual-in_err-flat-2.result c.in_err-flat-2.field-0.0 _ c.from_residual-in_err-flat-2.ensures.1 (λ why is. c.in_err-flat-2.ensures.unfit why (ap Err is) linked_editing_range_registration_options_row.shape (inr (inl refl)))

pub returns-in_err-flat-3-clause-unfit : goal.returns-in_err-flat-3-clause-unfit
unfolding linked_editing_range_registration_options_row text_document_registration_options_row linked_editing_range_options_row work_done_progress_options_row static_registration_options_row
returns-in_err-flat-3-clause-unfit c = passed c.from_residual-in_err-flat-3.result c.in_err-flat-3.field-0.0 _ c.from_residual-in_err-flat-3.ensures.1 (λ why is. c.in_err-flat-3.ensures.unfit why (ap Err is) linked_editing_range_registration_options_row.shape (inr (inr (inl refl))))
