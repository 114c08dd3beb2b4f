-- Rows: documents that are opened, changed, saved and closed.
use Rattle.lsp_shape.specs.Plain.{Plain, choice}
use Rattle.lsp_shape.specs.Row.{Row, fields, flat, i32, list, nullable, omitted, required, truth, union, variant, ◌&◌, ◌or◌}
use Rattle.lsp_base.specs.Document.{document_filter_row}
use Rattle.lsp_base.specs.Registration.{text_document_registration_options_row}
use Rattle.lsp_offer_text.specs.declared.sync.SaveOptions.{SaveOptions}
use Rattle.lsp_offer_text.specs.declared.sync.TextDocumentChangeRegistrationOptions.{TextDocumentChangeRegistrationOptions}
use Rattle.lsp_offer_text.specs.declared.sync.TextDocumentSaveRegistrationOptions.{TextDocumentSaveRegistrationOptions}
use Rattle.lsp_offer_text.specs.declared.sync.TextDocumentSyncCapability.{TextDocumentSyncCapability}
use Rattle.lsp_offer_text.specs.declared.sync.TextDocumentSyncCapability.TheVariants as text_document_sync_capability
use Rattle.lsp_offer_text.specs.declared.sync.TextDocumentSyncOptions.{TextDocumentSyncOptions}
use Rattle.lsp_offer_text.specs.declared.sync.TextDocumentSyncSaveOptions.{TextDocumentSyncSaveOptions}
use Rattle.lsp_offer_text.specs.declared.sync.TextDocumentSyncSaveOptions.TheVariants as text_document_sync_save_options

unfoldable pub save_options_row : Row SaveOptions
save_options_row = fields (
    omitted "includeText" truth (λ x. x.include_text))

abbrev pub show_text_document_sync_save_options : TextDocumentSyncSaveOptions → Plain
show_text_document_sync_save_options (text_document_sync_save_options.Supported x) = choice 0 (truth.shown x)
show_text_document_sync_save_options (text_document_sync_save_options.SaveOptions x) = choice 1 (save_options_row.shown x)

unfoldable pub text_document_sync_save_options_row : Row TextDocumentSyncSaveOptions
text_document_sync_save_options_row = union (variant truth or variant save_options_row) show_text_document_sync_save_options

unfoldable pub text_document_sync_options_row : Row TextDocumentSyncOptions
text_document_sync_options_row = fields (
    omitted "openClose" truth (λ x. x.open_close) &
    omitted "change" i32 (λ x. x.change) &
    omitted "willSave" truth (λ x. x.will_save) &
    omitted "willSaveWaitUntil" truth (λ x. x.will_save_wait_until) &
    omitted "save" text_document_sync_save_options_row (λ x. x.save))

abbrev pub show_text_document_sync_capability : TextDocumentSyncCapability → Plain
show_text_document_sync_capability (text_document_sync_capability.Kind x) = choice 0 (i32.shown x)
show_text_document_sync_capability (text_document_sync_capability.Options x) = choice 1 (text_document_sync_options_row.shown x)

unfoldable pub text_document_sync_capability_row : Row TextDocumentSyncCapability
text_document_sync_capability_row = union (variant i32 or variant text_document_sync_options_row) show_text_document_sync_capability

unfoldable pub text_document_change_registration_options_row : Row TextDocumentChangeRegistrationOptions
text_document_change_registration_options_row = fields (
    nullable "documentSelector" (list document_filter_row) (λ x. x.document_selector) &
    required "syncKind" i32 (λ x. x.sync_kind))

unfoldable pub text_document_save_registration_options_row : Row TextDocumentSaveRegistrationOptions
text_document_save_registration_options_row = fields (
    omitted "includeText" truth (λ x. x.include_text) &
    flat text_document_registration_options_row (λ x. x.text_document_registration_options))
