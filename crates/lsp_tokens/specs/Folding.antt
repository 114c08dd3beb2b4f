-- Rows: ranges that can be folded.
use Rattle.lsp_shape.specs.Row.{Row, fields, flat, omitted, required, string, u32, ◌&◌}
use Rattle.lsp_names.specs.Folding.{folding_range_kind_row}
use Rattle.lsp_base.specs.Document.{text_document_identifier_row}
use Rattle.lsp_base.specs.Progress.{partial_result_params_row, work_done_progress_params_row}
use Rattle.lsp_tokens.specs.declared.folding.FoldingRange.{FoldingRange}
use Rattle.lsp_tokens.specs.declared.folding.FoldingRangeParams.{FoldingRangeParams}

unfoldable pub folding_range_params_row : Row FoldingRangeParams
folding_range_params_row = fields (
    required "textDocument" text_document_identifier_row (λ x. x.text_document) &
    flat work_done_progress_params_row (λ x. x.work_done_progress_params) &
    flat partial_result_params_row (λ x. x.partial_result_params))

unfoldable pub folding_range_row : Row FoldingRange
folding_range_row = fields (
    required "startLine" u32 (λ x. x.start_line) &
    omitted "startCharacter" u32 (λ x. x.start_character) &
    required "endLine" u32 (λ x. x.end_line) &
    omitted "endCharacter" u32 (λ x. x.end_character) &
    omitted "kind" folding_range_kind_row (λ x. x.kind) &
    omitted "collapsedText" string (λ x. x.collapsed_text))
