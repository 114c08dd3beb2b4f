-- Rows: the workspace.
use Rattle.lsp_shape.specs.Row.{Row, fields, omitted, string, truth, ◌&◌}
use Rattle.lsp_base.specs.Edit.{one_of_row}
use Rattle.lsp_offer_work.specs.Files.{workspace_file_operations_server_capabilities_row}
use Rattle.lsp_offer_work.specs.declared.workspace.WorkspaceFoldersServerCapabilities.{WorkspaceFoldersServerCapabilities}
use Rattle.lsp_offer_work.specs.declared.workspace.WorkspaceServerCapabilities.{WorkspaceServerCapabilities}

unfoldable pub workspace_folders_server_capabilities_row : Row WorkspaceFoldersServerCapabilities
workspace_folders_server_capabilities_row = fields (
    omitted "supported" truth (λ x. x.supported) &
    omitted "changeNotifications" (one_of_row truth string) (λ x. x.change_notifications))

unfoldable pub workspace_server_capabilities_row : Row WorkspaceServerCapabilities
workspace_server_capabilities_row = fields (
    omitted "workspaceFolders" workspace_folders_server_capabilities_row (λ x. x.workspace_folders) &
    omitted "fileOperations" workspace_file_operations_server_capabilities_row (λ x. x.file_operations))
