-- Rows: files that are created, renamed and deleted.
use Rattle.lsp_shape.specs.Row.{Row, fields, omitted, truth, ◌&◌}
use Rattle.lsp_caps_work.specs.declared.files.WorkspaceFileOperationsClientCapabilities.{WorkspaceFileOperationsClientCapabilities}

unfoldable pub workspace_file_operations_client_capabilities_row : Row WorkspaceFileOperationsClientCapabilities
workspace_file_operations_client_capabilities_row = fields (
    omitted "dynamicRegistration" truth (λ x. x.dynamic_registration) &
    omitted "didCreate" truth (λ x. x.did_create) &
    omitted "willCreate" truth (λ x. x.will_create) &
    omitted "didRename" truth (λ x. x.did_rename) &
    omitted "willRename" truth (λ x. x.will_rename) &
    omitted "didDelete" truth (λ x. x.did_delete) &
    omitted "willDelete" truth (λ x. x.will_delete))
