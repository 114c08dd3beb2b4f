-- Rows: renaming.
use Rattle.lsp_shape.specs.Plain.{Plain, choice}
use Rattle.lsp_shape.specs.Row.{Row, fields, flat, required, string, truth, union, variant, ◌&◌, ◌or◌}
use Rattle.lsp_base.specs.Document.{text_document_position_params_row}
use Rattle.lsp_base.specs.Position.{range_row}
use Rattle.lsp_base.specs.Progress.{work_done_progress_params_row}
use Rattle.lsp_lang_item.specs.declared.rename.PrepareRenameResponse.{PrepareRenameResponse}
use Rattle.lsp_lang_item.specs.declared.rename.PrepareRenameResponse.TheVariants as prepare_rename_response
use Rattle.lsp_lang_item.specs.declared.rename.PrepareRenameResponseDefaultBehavior.{PrepareRenameResponseDefaultBehavior}
use Rattle.lsp_lang_item.specs.declared.rename.PrepareRenameResponseRangeWithPlaceholder.{PrepareRenameResponseRangeWithPlaceholder}
use Rattle.lsp_lang_item.specs.declared.rename.RenameParams.{RenameParams}

unfoldable pub rename_params_row : Row RenameParams
rename_params_row = fields (
    flat text_document_position_params_row (λ x. x.text_document_position) &
    required "newName" string (λ x. x.new_name) &
    flat work_done_progress_params_row (λ x. x.work_done_progress_params))

unfoldable pub prepare_rename_response_range_with_placeholder_row : Row PrepareRenameResponseRangeWithPlaceholder
prepare_rename_response_range_with_placeholder_row = fields (
    required "range" range_row (λ x. x.range) &
    required "placeholder" string (λ x. x.placeholder))

unfoldable pub prepare_rename_response_default_behavior_row : Row PrepareRenameResponseDefaultBehavior
prepare_rename_response_default_behavior_row = fields (
    required "defaultBehavior" truth (λ x. x.default_behavior))

abbrev pub show_prepare_rename_response : PrepareRenameResponse → Plain
show_prepare_rename_response (prepare_rename_response.Range x) = choice 0 (range_row.shown x)
show_prepare_rename_response (prepare_rename_response.RangeWithPlaceholder range placeholder) = choice 1 (prepare_rename_response_range_with_placeholder_row.shown (record { range = range; placeholder = placeholder }))
show_prepare_rename_response (prepare_rename_response.DefaultBehavior default_behavior) = choice 2 (prepare_rename_response_default_behavior_row.shown (record { default_behavior = default_behavior }))

unfoldable pub prepare_rename_response_row : Row PrepareRenameResponse
prepare_rename_response_row = union (
    variant range_row or
    variant prepare_rename_response_range_with_placeholder_row or
    variant prepare_rename_response_default_behavior_row) show_prepare_rename_response
