-- Rows: what is asked of semantic tokens, and the results.
use Rattle.lsp_shape.specs.Plain.{Plain, choice}
use Rattle.lsp_shape.specs.Row.{Row, fields, flat, list, omitted, required, string, union, variant, ◌&◌, ◌or◌}
use Rattle.lsp_base.specs.Document.{text_document_identifier_row}
use Rattle.lsp_base.specs.Position.{range_row}
use Rattle.lsp_base.specs.Progress.{partial_result_params_row, work_done_progress_params_row}
use Rattle.lsp_tokens.specs.Tokens.{semantic_tokens_edit_row, semantic_tokens_partial_result_row, semantic_tokens_row}
use Rattle.lsp_tokens.specs.declared.results.SemanticTokensDelta.{SemanticTokensDelta}
use Rattle.lsp_tokens.specs.declared.results.SemanticTokensDeltaParams.{SemanticTokensDeltaParams}
use Rattle.lsp_tokens.specs.declared.results.SemanticTokensFullDeltaResult.{SemanticTokensFullDeltaResult}
use Rattle.lsp_tokens.specs.declared.results.SemanticTokensFullDeltaResult.TheVariants as semantic_tokens_full_delta_result
use Rattle.lsp_tokens.specs.declared.results.SemanticTokensFullDeltaResultPartialTokensDelta.{SemanticTokensFullDeltaResultPartialTokensDelta}
use Rattle.lsp_tokens.specs.declared.results.SemanticTokensParams.{SemanticTokensParams}
use Rattle.lsp_tokens.specs.declared.results.SemanticTokensRangeParams.{SemanticTokensRangeParams}
use Rattle.lsp_tokens.specs.declared.results.SemanticTokensRangeResult.{SemanticTokensRangeResult}
use Rattle.lsp_tokens.specs.declared.results.SemanticTokensRangeResult.TheVariants as semantic_tokens_range_result
use Rattle.lsp_tokens.specs.declared.results.SemanticTokensResult.{SemanticTokensResult}
use Rattle.lsp_tokens.specs.declared.results.SemanticTokensResult.TheVariants as semantic_tokens_result

unfoldable pub semantic_tokens_params_row : Row SemanticTokensParams
semantic_tokens_params_row = fields (
    flat work_done_progress_params_row (λ x. x.work_done_progress_params) &
    flat partial_result_params_row (λ x. x.partial_result_params) &
    required "textDocument" text_document_identifier_row (λ x. x.text_document))

unfoldable pub semantic_tokens_delta_params_row : Row SemanticTokensDeltaParams
semantic_tokens_delta_params_row = fields (
    flat work_done_progress_params_row (λ x. x.work_done_progress_params) &
    flat partial_result_params_row (λ x. x.partial_result_params) &
    required "textDocument" text_document_identifier_row (λ x. x.text_document) &
    required "previousResultId" string (λ x. x.previous_result_id))

unfoldable pub semantic_tokens_range_params_row : Row SemanticTokensRangeParams
semantic_tokens_range_params_row = fields (
    flat work_done_progress_params_row (λ x. x.work_done_progress_params) &
    flat partial_result_params_row (λ x. x.partial_result_params) &
    required "textDocument" text_document_identifier_row (λ x. x.text_document) &
    required "range" range_row (λ x. x.range))

abbrev pub show_semantic_tokens_result : SemanticTokensResult → Plain
show_semantic_tokens_result (semantic_tokens_result.Tokens x) = choice 0 (semantic_tokens_row.shown x)
show_semantic_tokens_result (semantic_tokens_result.Partial x) = choice 1 (semantic_tokens_partial_result_row.shown x)

unfoldable pub semantic_tokens_result_row : Row SemanticTokensResult
semantic_tokens_result_row = union (variant semantic_tokens_row or variant semantic_tokens_partial_result_row) show_semantic_tokens_result

unfoldable pub semantic_tokens_full_delta_result_partial_tokens_delta_row : Row SemanticTokensFullDeltaResultPartialTokensDelta
semantic_tokens_full_delta_result_partial_tokens_delta_row = fields (
    required "edits" (list semantic_tokens_edit_row) (λ x. x.edits))

unfoldable pub semantic_tokens_delta_row : Row SemanticTokensDelta
semantic_tokens_delta_row = fields (
    omitted "resultId" string (λ x. x.result_id) &
    required "edits" (list semantic_tokens_edit_row) (λ x. x.edits))

abbrev pub show_semantic_tokens_full_delta_result : SemanticTokensFullDeltaResult → Plain
show_semantic_tokens_full_delta_result (semantic_tokens_full_delta_result.Tokens x) = choice 0 (semantic_tokens_row.shown x)
show_semantic_tokens_full_delta_result (semantic_tokens_full_delta_result.TokensDelta x) = choice 1 (semantic_tokens_delta_row.shown x)
show_semantic_tokens_full_delta_result (semantic_tokens_full_delta_result.PartialTokensDelta edits) = choice 2 (semantic_tokens_full_delta_result_partial_tokens_delta_row.shown (record { edits = edits }))

unfoldable pub semantic_tokens_full_delta_result_row : Row SemanticTokensFullDeltaResult
semantic_tokens_full_delta_result_row = union (
    variant semantic_tokens_row or
    variant semantic_tokens_delta_row or
    variant semantic_tokens_full_delta_result_partial_tokens_delta_row) show_semantic_tokens_full_delta_result

abbrev pub show_semantic_tokens_range_result : SemanticTokensRangeResult → Plain
show_semantic_tokens_range_result (semantic_tokens_range_result.Tokens x) = choice 0 (semantic_tokens_row.shown x)
show_semantic_tokens_range_result (semantic_tokens_range_result.Partial x) = choice 1 (semantic_tokens_partial_result_row.shown x)

unfoldable pub semantic_tokens_range_result_row : Row SemanticTokensRangeResult
semantic_tokens_range_result_row = union (variant semantic_tokens_row or variant semantic_tokens_partial_result_row) show_semantic_tokens_range_result
