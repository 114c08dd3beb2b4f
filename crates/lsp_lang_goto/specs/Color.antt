-- Rows: colors.
use Rattle.lsp_shape.specs.Row.{Row, fields, flat, required, ◌&◌}
use Rattle.lsp_base.specs.Document.{text_document_identifier_row}
use Rattle.lsp_base.specs.Progress.{partial_result_params_row, work_done_progress_params_row}
use Rattle.lsp_lang_goto.specs.declared.color.DocumentColorParams.{DocumentColorParams}

unfoldable pub document_color_params_row : Row DocumentColorParams
document_color_params_row = fields (
    required "textDocument" text_document_identifier_row (λ x. x.text_document) &
    flat work_done_progress_params_row (λ x. x.work_done_progress_params) &
    flat partial_result_params_row (λ x. x.partial_result_params))
