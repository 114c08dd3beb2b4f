-- Rows: parameters of a request on a place.
use Rattle.lsp_shape.specs.Row.{Row, fields, flat, ◌&◌}
use Rattle.lsp_base.specs.Document.{text_document_position_params_row}
use Rattle.lsp_base.specs.Progress.{partial_result_params_row, work_done_progress_params_row}
use Rattle.lsp_lang_goto.specs.declared.generic.GenericParams.{GenericParams}

unfoldable pub generic_params_row : Row GenericParams
generic_params_row = fields (
    flat text_document_position_params_row (λ x. x.text_document_position_params) &
    flat work_done_progress_params_row (λ x. x.work_done_progress_params) &
    flat partial_result_params_row (λ x. x.partial_result_params))
