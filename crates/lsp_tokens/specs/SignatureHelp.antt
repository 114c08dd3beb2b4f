-- Rows: help on signatures.
use Rattle.lsp_shape.specs.Plain.{Plain, choice}
use Rattle.lsp_shape.specs.Row.{Row, fields, flat, i32, list, omitted, pair, required, string, truth, u32, union, variant, ◌&◌, ◌or◌}
use Rattle.lsp_names.specs.Markup.{documentation_row}
use Rattle.lsp_base.specs.Document.{text_document_position_params_row}
use Rattle.lsp_base.specs.Progress.{work_done_progress_params_row}
use Rattle.lsp_tokens.specs.declared.signature_help.ParameterInformation.{ParameterInformation}
use Rattle.lsp_tokens.specs.declared.signature_help.ParameterLabel.{ParameterLabel}
use Rattle.lsp_tokens.specs.declared.signature_help.ParameterLabel.TheVariants as parameter_label
use Rattle.lsp_tokens.specs.declared.signature_help.SignatureHelp.{SignatureHelp}
use Rattle.lsp_tokens.specs.declared.signature_help.SignatureHelpContext.{SignatureHelpContext}
use Rattle.lsp_tokens.specs.declared.signature_help.SignatureHelpParams.{SignatureHelpParams}
use Rattle.lsp_tokens.specs.declared.signature_help.SignatureInformation.{SignatureInformation}

abbrev pub show_parameter_label : ParameterLabel → Plain
show_parameter_label (parameter_label.Simple x) = choice 0 (string.shown x)
show_parameter_label (parameter_label.LabelOffsets x) = choice 1 (pair.shown x)

unfoldable pub parameter_label_row : Row ParameterLabel
parameter_label_row = union (variant string or variant pair) show_parameter_label

unfoldable pub parameter_information_row : Row ParameterInformation
parameter_information_row = fields (
    required "label" parameter_label_row (λ x. x.label) &
    omitted "documentation" documentation_row (λ x. x.documentation))

unfoldable pub signature_information_row : Row SignatureInformation
signature_information_row = fields (
    required "label" string (λ x. x.label) &
    omitted "documentation" documentation_row (λ x. x.documentation) &
    omitted "parameters" (list parameter_information_row) (λ x. x.parameters) &
    omitted "activeParameter" u32 (λ x. x.active_parameter))

unfoldable pub signature_help_row : Row SignatureHelp
signature_help_row = fields (
    required "signatures" (list signature_information_row) (λ x. x.signatures) &
    omitted "activeSignature" u32 (λ x. x.active_signature) &
    omitted "activeParameter" u32 (λ x. x.active_parameter))

unfoldable pub signature_help_context_row : Row SignatureHelpContext
signature_help_context_row = fields (
    required "triggerKind" i32 (λ x. x.trigger_kind) &
    omitted "triggerCharacter" string (λ x. x.trigger_character) &
    required "isRetrigger" truth (λ x. x.is_retrigger) &
    omitted "activeSignatureHelp" signature_help_row (λ x. x.active_signature_help))

unfoldable pub signature_help_params_row : Row SignatureHelpParams
signature_help_params_row = fields (
    omitted "context" signature_help_context_row (λ x. x.context) &
    flat text_document_position_params_row (λ x. x.text_document_position_params) &
    flat work_done_progress_params_row (λ x. x.work_done_progress_params))
