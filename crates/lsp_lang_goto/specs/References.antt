-- Rows: references and highlights.
use Rattle.lsp_shape.specs.Row.{Row, fields, flat, i32, omitted, required, truth, ◌&◌}
use Rattle.lsp_base.specs.Document.{text_document_position_params_row}
use Rattle.lsp_base.specs.Position.{range_row}
use Rattle.lsp_base.specs.Progress.{partial_result_params_row, work_done_progress_params_row}
use Rattle.lsp_lang_goto.specs.declared.references.DocumentHighlight.{DocumentHighlight}
use Rattle.lsp_lang_goto.specs.declared.references.DocumentHighlightParams.{DocumentHighlightParams}
use Rattle.lsp_lang_goto.specs.declared.references.ReferenceContext.{ReferenceContext}
use Rattle.lsp_lang_goto.specs.declared.references.ReferenceParams.{ReferenceParams}

unfoldable pub reference_context_row : Row ReferenceContext
reference_context_row = fields (
    required "includeDeclaration" truth (λ x. x.include_declaration))

unfoldable pub reference_params_row : Row ReferenceParams
reference_params_row = fields (
    flat text_document_position_params_row (λ x. x.text_document_position) &
    flat work_done_progress_params_row (λ x. x.work_done_progress_params) &
    flat partial_result_params_row (λ x. x.partial_result_params) &
    required "context" reference_context_row (λ x. x.context))

unfoldable pub document_highlight_params_row : Row DocumentHighlightParams
document_highlight_params_row = fields (
    flat text_document_position_params_row (λ x. x.text_document_position_params) &
    flat work_done_progress_params_row (λ x. x.work_done_progress_params) &
    flat partial_result_params_row (λ x. x.partial_result_params))

unfoldable pub document_highlight_row : Row DocumentHighlight
document_highlight_row = fields (
    required "range" range_row (λ x. x.range) &
    omitted "kind" i32 (λ x. x.kind))
