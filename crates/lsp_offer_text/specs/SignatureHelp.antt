-- Rows: help on signatures.
use Rattle.lsp_shape.specs.Row.{Row, fields, flat, list, omitted, string, ◌&◌}
use Rattle.lsp_names.specs.Progress.{work_done_progress_options_row}
use Rattle.lsp_base.specs.Registration.{text_document_registration_options_row}
use Rattle.lsp_offer_text.specs.declared.signature_help.SignatureHelpOptions.{SignatureHelpOptions}
use Rattle.lsp_offer_text.specs.declared.signature_help.SignatureHelpRegistrationOptions.{SignatureHelpRegistrationOptions}

unfoldable pub signature_help_options_row : Row SignatureHelpOptions
signature_help_options_row = fields (
    omitted "triggerCharacters" (list string) (λ x. x.trigger_characters) &
    omitted "retriggerCharacters" (list string) (λ x. x.retrigger_characters) &
    flat work_done_progress_options_row (λ x. x.work_done_progress_options))

unfoldable pub signature_help_registration_options_row : Row SignatureHelpRegistrationOptions
signature_help_registration_options_row = fields (
    flat text_document_registration_options_row (λ x. x.text_document_registration_options))
