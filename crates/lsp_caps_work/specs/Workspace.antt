-- Rows: all features of the workspace.
use Rattle.lsp_shape.specs.Row.{Fields, Row, fields, omitted, truth, ◌&◌}
use Rattle.lsp_base.specs.Registration.{dynamic_registration_client_capabilities_row}
use Rattle.lsp_caps_work.specs.Configuration.{did_change_watched_files_client_capabilities_row}
use Rattle.lsp_caps_work.specs.Edit.{workspace_edit_client_capabilities_row}
use Rattle.lsp_caps_work.specs.Files.{workspace_file_operations_client_capabilities_row}
use Rattle.lsp_caps_work.specs.Refresh.{code_lens_workspace_client_capabilities_row, diagnostic_workspace_client_capabilities_row, inlay_hint_workspace_client_capabilities_row, inline_value_workspace_client_capabilities_row, semantic_tokens_workspace_client_capabilities_row}
use Rattle.lsp_caps_work.specs.Symbols.{workspace_symbol_client_capabilities_row}
use Rattle.lsp_caps_work.specs.declared.workspace.WorkspaceClientCapabilities.{WorkspaceClientCapabilities}

unfoldable pub workspace_client_capabilities_fields : Fields WorkspaceClientCapabilities
workspace_client_capabilities_fields =
    omitted "applyEdit" truth (λ x. x.apply_edit) &
    omitted "workspaceEdit" workspace_edit_client_capabilities_row (λ x. x.workspace_edit) &
    omitted "didChangeConfiguration" dynamic_registration_client_capabilities_row (λ x. x.did_change_configuration) &
    omitted "didChangeWatchedFiles" did_change_watched_files_client_capabilities_row (λ x. x.did_change_watched_files) &
    omitted "symbol" workspace_symbol_client_capabilities_row (λ x. x.symbol) &
    omitted "executeCommand" dynamic_registration_client_capabilities_row (λ x. x.execute_command) &
    omitted "workspaceFolders" truth (λ x. x.workspace_folders) &
    omitted "configuration" truth (λ x. x.configuration) &
    omitted "semanticTokens" semantic_tokens_workspace_client_capabilities_row (λ x. x.semantic_tokens) &
    omitted "codeLens" code_lens_workspace_client_capabilities_row (λ x. x.code_lens) &
    omitted "fileOperations" workspace_file_operations_client_capabilities_row (λ x. x.file_operations) &
    omitted "inlineValue" inline_value_workspace_client_capabilities_row (λ x. x.inline_value) &
    omitted "inlayHint" inlay_hint_workspace_client_capabilities_row (λ x. x.inlay_hint) &
    omitted "diagnostic" diagnostic_workspace_client_capabilities_row (λ x. x.diagnostic)

unfoldable pub workspace_client_capabilities_row : Row WorkspaceClientCapabilities
workspace_client_capabilities_row = fields workspace_client_capabilities_fields
