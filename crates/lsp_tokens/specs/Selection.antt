-- Rows: ranges that can be selected, and ranges that are edited together.
use Rattle.lsp_shape.specs.Row.{Row, fields, flat, list, omitted, required, string, ◌&◌}
use Rattle.lsp_base.specs.Document.{text_document_identifier_row, text_document_position_params_row}
use Rattle.lsp_base.specs.Position.{position_row, range_row}
use Rattle.lsp_base.specs.Progress.{partial_result_params_row, work_done_progress_params_row}
use Rattle.lsp_tokens.specs.declared.selection.LinkedEditingRangeParams.{LinkedEditingRangeParams}
use Rattle.lsp_tokens.specs.declared.selection.LinkedEditingRanges.{LinkedEditingRanges}
use Rattle.lsp_tokens.specs.declared.selection.SelectionRangeParams.{SelectionRangeParams}

unfoldable pub selection_range_params_row : Row SelectionRangeParams
selection_range_params_row = fields (
    required "textDocument" text_document_identifier_row (λ x. x.text_document) &
    required "positions" (list position_row) (λ x. x.positions) &
    flat work_done_progress_params_row (λ x. x.work_done_progress_params) &
    flat partial_result_params_row (λ x. x.partial_result_params))

unfoldable pub linked_editing_range_params_row : Row LinkedEditingRangeParams
linked_editing_range_params_row = fields (
    flat text_document_position_params_row (λ x. x.text_document_position_params) &
    flat work_done_progress_params_row (λ x. x.work_done_progress_params))

unfoldable pub linked_editing_ranges_row : Row LinkedEditingRanges
linked_editing_ranges_row = fields (
    required "ranges" (list range_row) (λ x. x.ranges) &
    omitted "wordPattern" string (λ x. x.word_pattern))
