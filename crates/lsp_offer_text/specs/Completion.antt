-- Rows: completion.
use Rattle.lsp_shape.specs.Row.{Row, fields, flat, list, omitted, string, truth, ◌&◌}
use Rattle.lsp_names.specs.Progress.{work_done_progress_options_row}
use Rattle.lsp_base.specs.Registration.{text_document_registration_options_row}
use Rattle.lsp_offer_text.specs.declared.completion.CompletionOptions.{CompletionOptions}
use Rattle.lsp_offer_text.specs.declared.completion.CompletionOptionsCompletionItem.{CompletionOptionsCompletionItem}
use Rattle.lsp_offer_text.specs.declared.completion.CompletionRegistrationOptions.{CompletionRegistrationOptions}

unfoldable pub completion_options_completion_item_row : Row CompletionOptionsCompletionItem
completion_options_completion_item_row = fields (
    omitted "labelDetailsSupport" truth (λ x. x.label_details_support))

unfoldable pub completion_options_row : Row CompletionOptions
completion_options_row = fields (
    omitted "resolveProvider" truth (λ x. x.resolve_provider) &
    omitted "triggerCharacters" (list string) (λ x. x.trigger_characters) &
    omitted "allCommitCharacters" (list string) (λ x. x.all_commit_characters) &
    flat work_done_progress_options_row (λ x. x.work_done_progress_options) &
    omitted "completionItem" completion_options_completion_item_row (λ x. x.completion_item))

unfoldable pub completion_registration_options_row : Row CompletionRegistrationOptions
completion_registration_options_row = fields (
    flat text_document_registration_options_row (λ x. x.text_document_registration_options) &
    flat completion_options_row (λ x. x.completion_options))
