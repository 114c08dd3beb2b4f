-- Rows: code actions, code lenses and links.
use Rattle.lsp_shape.specs.Plain.{Plain, choice}
use Rattle.lsp_shape.specs.Row.{Row, fields, flat, list, omitted, truth, union, variant, ◌&◌, ◌or◌}
use Rattle.lsp_names.specs.KindText.{text_kind_row}
use Rattle.lsp_names.specs.Progress.{work_done_progress_options_row}
use Rattle.lsp_offer_text.specs.declared.code_action.CodeActionOptions.{CodeActionOptions}
use Rattle.lsp_offer_text.specs.declared.code_action.CodeActionProviderCapability.{CodeActionProviderCapability}
use Rattle.lsp_offer_text.specs.declared.code_action.CodeActionProviderCapability.TheVariants as code_action_provider_capability
use Rattle.lsp_offer_text.specs.declared.code_action.CodeLensOptions.{CodeLensOptions}
use Rattle.lsp_offer_text.specs.declared.code_action.DocumentLinkOptions.{DocumentLinkOptions}

unfoldable pub code_action_options_row : Row CodeActionOptions
code_action_options_row = fields (
    omitted "codeActionKinds" (list text_kind_row) (λ x. x.code_action_kinds) &
    flat work_done_progress_options_row (λ x. x.work_done_progress_options) &
    omitted "resolveProvider" truth (λ x. x.resolve_provider))

abbrev pub show_code_action_provider_capability : CodeActionProviderCapability → Plain
show_code_action_provider_capability (code_action_provider_capability.Simple x) = choice 0 (truth.shown x)
show_code_action_provider_capability (code_action_provider_capability.Options x) = choice 1 (code_action_options_row.shown x)

unfoldable pub code_action_provider_capability_row : Row CodeActionProviderCapability
code_action_provider_capability_row = union (variant truth or variant code_action_options_row) show_code_action_provider_capability

unfoldable pub code_lens_options_row : Row CodeLensOptions
code_lens_options_row = fields (
    omitted "resolveProvider" truth (λ x. x.resolve_provider))

unfoldable pub document_link_options_row : Row DocumentLinkOptions
document_link_options_row = fields (
    omitted "resolveProvider" truth (λ x. x.resolve_provider) &
    flat work_done_progress_options_row (λ x. x.work_done_progress_options))
