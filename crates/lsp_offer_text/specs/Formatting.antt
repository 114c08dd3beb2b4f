-- Rows: formatting and renaming.
use Rattle.lsp_shape.specs.Row.{Row, fields, flat, list, nullable, omitted, required, string, truth, ◌&◌}
use Rattle.lsp_names.specs.Progress.{work_done_progress_options_row}
use Rattle.lsp_base.specs.Document.{document_filter_row}
use Rattle.lsp_offer_text.specs.declared.formatting.DocumentFormattingOptions.{DocumentFormattingOptions}
use Rattle.lsp_offer_text.specs.declared.formatting.DocumentOnTypeFormattingOptions.{DocumentOnTypeFormattingOptions}
use Rattle.lsp_offer_text.specs.declared.formatting.DocumentOnTypeFormattingRegistrationOptions.{DocumentOnTypeFormattingRegistrationOptions}
use Rattle.lsp_offer_text.specs.declared.formatting.DocumentRangeFormattingOptions.{DocumentRangeFormattingOptions}
use Rattle.lsp_offer_text.specs.declared.formatting.RenameOptions.{RenameOptions}

unfoldable pub document_formatting_options_row : Row DocumentFormattingOptions
document_formatting_options_row = fields (
    flat work_done_progress_options_row (λ x. x.work_done_progress_options))

unfoldable pub document_range_formatting_options_row : Row DocumentRangeFormattingOptions
document_range_formatting_options_row = fields (
    flat work_done_progress_options_row (λ x. x.work_done_progress_options))

unfoldable pub document_on_type_formatting_options_row : Row DocumentOnTypeFormattingOptions
document_on_type_formatting_options_row = fields (
    required "firstTriggerCharacter" string (λ x. x.first_trigger_character) &
    omitted "moreTriggerCharacter" (list string) (λ x. x.more_trigger_character))

unfoldable pub document_on_type_formatting_registration_options_row : Row DocumentOnTypeFormattingRegistrationOptions
document_on_type_formatting_registration_options_row = fields (
    nullable "documentSelector" (list document_filter_row) (λ x. x.document_selector) &
    required "firstTriggerCharacter" string (λ x. x.first_trigger_character) &
    omitted "moreTriggerCharacter" (list string) (λ x. x.more_trigger_character))

unfoldable pub rename_options_row : Row RenameOptions
rename_options_row = fields (
    omitted "prepareProvider" truth (λ x. x.prepare_provider) &
    flat work_done_progress_options_row (λ x. x.work_done_progress_options))
