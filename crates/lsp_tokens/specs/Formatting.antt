-- Rows: formatting.
use Rattle.lsp_shape.specs.Plain.{Plain, choice}
use Rattle.lsp_shape.specs.Row.{Row, fields, fields_and, flat, i32, omitted, required, string, truth, u32, union, variant, ◌&◌, ◌or◌}
use Rattle.lsp_base.specs.Document.{text_document_identifier_row, text_document_position_params_row}
use Rattle.lsp_base.specs.Position.{range_row}
use Rattle.lsp_base.specs.Progress.{work_done_progress_params_row}
use Rattle.lsp_tokens.specs.declared.formatting.DocumentFormattingParams.{DocumentFormattingParams}
use Rattle.lsp_tokens.specs.declared.formatting.DocumentOnTypeFormattingParams.{DocumentOnTypeFormattingParams}
use Rattle.lsp_tokens.specs.declared.formatting.DocumentRangeFormattingParams.{DocumentRangeFormattingParams}
use Rattle.lsp_tokens.specs.declared.formatting.FormattingOptions.{FormattingOptions}
use Rattle.lsp_tokens.specs.declared.formatting.FormattingProperty.{FormattingProperty}
use Rattle.lsp_tokens.specs.declared.formatting.FormattingProperty.TheVariants as formatting_property

abbrev pub show_formatting_property : FormattingProperty → Plain
show_formatting_property (formatting_property.Bool x) = choice 0 (truth.shown x)
show_formatting_property (formatting_property.Number x) = choice 1 (i32.shown x)
show_formatting_property (formatting_property.String x) = choice 2 (string.shown x)

unfoldable pub formatting_property_row : Row FormattingProperty
formatting_property_row = union (variant truth or variant i32 or variant string) show_formatting_property

unfoldable pub formatting_options_row : Row FormattingOptions
formatting_options_row = fields_and formatting_property_row (λ x. x.properties) (
    required "tabSize" u32 (λ x. x.tab_size) &
    required "insertSpaces" truth (λ x. x.insert_spaces) &
    omitted "trimTrailingWhitespace" truth (λ x. x.trim_trailing_whitespace) &
    omitted "insertFinalNewline" truth (λ x. x.insert_final_newline) &
    omitted "trimFinalNewlines" truth (λ x. x.trim_final_newlines))

unfoldable pub document_formatting_params_row : Row DocumentFormattingParams
document_formatting_params_row = fields (
    required "textDocument" text_document_identifier_row (λ x. x.text_document) &
    required "options" formatting_options_row (λ x. x.options) &
    flat work_done_progress_params_row (λ x. x.work_done_progress_params))

unfoldable pub document_range_formatting_params_row : Row DocumentRangeFormattingParams
document_range_formatting_params_row = fields (
    required "textDocument" text_document_identifier_row (λ x. x.text_document) &
    required "range" range_row (λ x. x.range) &
    required "options" formatting_options_row (λ x. x.options) &
    flat work_done_progress_params_row (λ x. x.work_done_progress_params))

unfoldable pub document_on_type_formatting_params_row : Row DocumentOnTypeFormattingParams
document_on_type_formatting_params_row = fields (
    flat text_document_position_params_row (λ x. x.text_document_position) &
    required "ch" string (λ x. x.ch) &
    required "options" formatting_options_row (λ x. x.options))
