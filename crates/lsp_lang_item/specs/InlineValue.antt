-- Rows: inline values.
use Rattle.lsp_shape.specs.Plain.{Plain, choice}
use Rattle.lsp_shape.specs.Row.{Row, fields, flat, i32, omitted, required, string, truth, union, variant, ◌&◌, ◌or◌}
use Rattle.lsp_base.specs.Document.{text_document_identifier_row}
use Rattle.lsp_base.specs.Position.{range_row}
use Rattle.lsp_base.specs.Progress.{work_done_progress_params_row}
use Rattle.lsp_lang_item.specs.declared.inline_value.InlineValue.{InlineValue}
use Rattle.lsp_lang_item.specs.declared.inline_value.InlineValue.TheVariants as inline_value
use Rattle.lsp_lang_item.specs.declared.inline_value.InlineValueContext.{InlineValueContext}
use Rattle.lsp_lang_item.specs.declared.inline_value.InlineValueEvaluatableExpression.{InlineValueEvaluatableExpression}
use Rattle.lsp_lang_item.specs.declared.inline_value.InlineValueParams.{InlineValueParams}
use Rattle.lsp_lang_item.specs.declared.inline_value.InlineValueText.{InlineValueText}
use Rattle.lsp_lang_item.specs.declared.inline_value.InlineValueVariableLookup.{InlineValueVariableLookup}

unfoldable pub inline_value_context_row : Row InlineValueContext
inline_value_context_row = fields (
    required "frameId" i32 (λ x. x.frame_id) &
    required "stoppedLocation" range_row (λ x. x.stopped_location))

unfoldable pub inline_value_params_row : Row InlineValueParams
inline_value_params_row = fields (
    flat work_done_progress_params_row (λ x. x.work_done_progress_params) &
    required "textDocument" text_document_identifier_row (λ x. x.text_document) &
    required "range" range_row (λ x. x.range) &
    required "context" inline_value_context_row (λ x. x.context))

unfoldable pub inline_value_text_row : Row InlineValueText
inline_value_text_row = fields (
    required "range" range_row (λ x. x.range) &
    required "text" string (λ x. x.text))

unfoldable pub inline_value_variable_lookup_row : Row InlineValueVariableLookup
inline_value_variable_lookup_row = fields (
    required "range" range_row (λ x. x.range) &
    omitted "variableName" string (λ x. x.variable_name) &
    required "caseSensitiveLookup" truth (λ x. x.case_sensitive_lookup))

unfoldable pub inline_value_evaluatable_expression_row : Row InlineValueEvaluatableExpression
inline_value_evaluatable_expression_row = fields (
    required "range" range_row (λ x. x.range) &
    omitted "expression" string (λ x. x.expression))

abbrev pub show_inline_value : InlineValue → Plain
show_inline_value (inline_value.Text x) = choice 0 (inline_value_text_row.shown x)
show_inline_value (inline_value.VariableLookup x) = choice 1 (inline_value_variable_lookup_row.shown x)
show_inline_value (inline_value.EvaluatableExpression x) = choice 2 (inline_value_evaluatable_expression_row.shown x)

unfoldable pub inline_value_row : Row InlineValue
inline_value_row = union (
    variant inline_value_text_row or
    variant inline_value_variable_lookup_row or
    variant inline_value_evaluatable_expression_row) show_inline_value
