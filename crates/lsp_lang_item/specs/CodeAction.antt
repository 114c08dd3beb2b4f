-- Rows: code actions.
use Rattle.lsp_shape.specs.Plain.{Plain, choice}
use Rattle.lsp_shape.specs.Row.{Row, any, fields, flat, i32, list, omitted, required, string, truth, union, variant, ◌&◌, ◌or◌}
use Rattle.lsp_names.specs.KindText.{text_kind_row}
use Rattle.lsp_base.specs.Command.{command_row}
use Rattle.lsp_base.specs.Diagnostic.{diagnostic_row}
use Rattle.lsp_base.specs.Document.{text_document_identifier_row}
use Rattle.lsp_base.specs.Position.{range_row}
use Rattle.lsp_base.specs.Progress.{partial_result_params_row, work_done_progress_params_row}
use Rattle.lsp_base.specs.WorkspaceEdit.{workspace_edit_row}
use Rattle.lsp_lang_item.specs.declared.code_action.CodeAction.{CodeAction}
use Rattle.lsp_lang_item.specs.declared.code_action.CodeActionContext.{CodeActionContext}
use Rattle.lsp_lang_item.specs.declared.code_action.CodeActionDisabled.{CodeActionDisabled}
use Rattle.lsp_lang_item.specs.declared.code_action.CodeActionOrCommand.{CodeActionOrCommand}
use Rattle.lsp_lang_item.specs.declared.code_action.CodeActionOrCommand.TheVariants as code_action_or_command
use Rattle.lsp_lang_item.specs.declared.code_action.CodeActionParams.{CodeActionParams}

unfoldable pub code_action_context_row : Row CodeActionContext
code_action_context_row = fields (
    required "diagnostics" (list diagnostic_row) (λ x. x.diagnostics) &
    omitted "only" (list text_kind_row) (λ x. x.only) &
    omitted "triggerKind" i32 (λ x. x.trigger_kind))

unfoldable pub code_action_params_row : Row CodeActionParams
code_action_params_row = fields (
    required "textDocument" text_document_identifier_row (λ x. x.text_document) &
    required "range" range_row (λ x. x.range) &
    required "context" code_action_context_row (λ x. x.context) &
    flat work_done_progress_params_row (λ x. x.work_done_progress_params) &
    flat partial_result_params_row (λ x. x.partial_result_params))

unfoldable pub code_action_disabled_row : Row CodeActionDisabled
code_action_disabled_row = fields (
    required "reason" string (λ x. x.reason))

unfoldable pub code_action_row : Row CodeAction
code_action_row = fields (
    required "title" string (λ x. x.title) &
    omitted "kind" text_kind_row (λ x. x.kind) &
    omitted "diagnostics" (list diagnostic_row) (λ x. x.diagnostics) &
    omitted "edit" workspace_edit_row (λ x. x.edit) &
    omitted "command" command_row (λ x. x.command) &
    omitted "isPreferred" truth (λ x. x.is_preferred) &
    omitted "disabled" code_action_disabled_row (λ x. x.disabled) &
    omitted "data" any (λ x. x.payload))

abbrev pub show_code_action_or_command : CodeActionOrCommand → Plain
show_code_action_or_command (code_action_or_command.Command x) = choice 0 (command_row.shown x)
show_code_action_or_command (code_action_or_command.CodeAction x) = choice 1 (code_action_row.shown x)

unfoldable pub code_action_or_command_row : Row CodeActionOrCommand
code_action_or_command_row = union (variant command_row or variant code_action_row) show_code_action_or_command
