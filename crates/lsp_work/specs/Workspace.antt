-- Rows: the workspace: configuration, folders, watched files, commands and edits.
use Rattle.lsp_shape.specs.Row.{Row, any, fields, flat, i32, list, omitted, or_empty, required, string, truth, u32, ◌&◌}
use Rattle.lsp_uri.specs.Uri.{uri_row}
use Rattle.lsp_base.specs.Document.{workspace_folder_row}
use Rattle.lsp_base.specs.Progress.{work_done_progress_params_row}
use Rattle.lsp_base.specs.WorkspaceEdit.{workspace_edit_row}
use Rattle.lsp_work.specs.declared.workspace.ApplyWorkspaceEditParams.{ApplyWorkspaceEditParams}
use Rattle.lsp_work.specs.declared.workspace.ApplyWorkspaceEditResponse.{ApplyWorkspaceEditResponse}
use Rattle.lsp_work.specs.declared.workspace.ConfigurationItem.{ConfigurationItem}
use Rattle.lsp_work.specs.declared.workspace.ConfigurationParams.{ConfigurationParams}
use Rattle.lsp_work.specs.declared.workspace.DidChangeConfigurationParams.{DidChangeConfigurationParams}
use Rattle.lsp_work.specs.declared.workspace.DidChangeWatchedFilesParams.{DidChangeWatchedFilesParams}
use Rattle.lsp_work.specs.declared.workspace.DidChangeWorkspaceFoldersParams.{DidChangeWorkspaceFoldersParams}
use Rattle.lsp_work.specs.declared.workspace.ExecuteCommandParams.{ExecuteCommandParams}
use Rattle.lsp_work.specs.declared.workspace.FileEvent.{FileEvent}
use Rattle.lsp_work.specs.declared.workspace.WorkspaceFoldersChangeEvent.{WorkspaceFoldersChangeEvent}

unfoldable pub did_change_configuration_params_row : Row DidChangeConfigurationParams
did_change_configuration_params_row = fields (
    required "settings" any (λ x. x.settings))

unfoldable pub configuration_item_row : Row ConfigurationItem
configuration_item_row = fields (
    omitted "scopeUri" uri_row (λ x. x.scope_uri) &
    omitted "section" string (λ x. x.section))

unfoldable pub configuration_params_row : Row ConfigurationParams
configuration_params_row = fields (
    required "items" (list configuration_item_row) (λ x. x.items))

unfoldable pub file_event_row : Row FileEvent
file_event_row = fields (
    required "uri" uri_row (λ x. x.uri) &
    required "type" i32 (λ x. x.typ))

unfoldable pub did_change_watched_files_params_row : Row DidChangeWatchedFilesParams
did_change_watched_files_params_row = fields (
    required "changes" (list file_event_row) (λ x. x.changes))

unfoldable pub workspace_folders_change_event_row : Row WorkspaceFoldersChangeEvent
workspace_folders_change_event_row = fields (
    required "added" (list workspace_folder_row) (λ x. x.added) &
    required "removed" (list workspace_folder_row) (λ x. x.removed))

unfoldable pub did_change_workspace_folders_params_row : Row DidChangeWorkspaceFoldersParams
did_change_workspace_folders_params_row = fields (
    required "event" workspace_folders_change_event_row (λ x. x.event))

unfoldable pub execute_command_params_row : Row ExecuteCommandParams
execute_command_params_row = fields (
    required "command" string (λ x. x.command) &
    or_empty "arguments" any (λ x. x.arguments) &
    flat work_done_progress_params_row (λ x. x.work_done_progress_params))

unfoldable pub apply_workspace_edit_params_row : Row ApplyWorkspaceEditParams
apply_workspace_edit_params_row = fields (
    omitted "label" string (λ x. x.label) &
    required "edit" workspace_edit_row (λ x. x.edit))

unfoldable pub apply_workspace_edit_response_row : Row ApplyWorkspaceEditResponse
apply_workspace_edit_response_row = fields (
    required "applied" truth (λ x. x.applied) &
    omitted "failureReason" string (λ x. x.failure_reason) &
    omitted "failedChange" u32 (λ x. x.failed_change))
