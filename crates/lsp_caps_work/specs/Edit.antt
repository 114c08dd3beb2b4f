-- Rows: edits of the workspace.
use Rattle.std.specs.Prelude.{List, [], codes, ℕ, ◌∷◌}
use Rattle.lsp_shape.specs.Row.{Row, fields, list, names, omitted, truth, ◌&◌}
use Rattle.lsp_caps_work.specs.declared.edit.ChangeAnnotationWorkspaceEditClientCapabilities.{ChangeAnnotationWorkspaceEditClientCapabilities}
use Rattle.lsp_caps_work.specs.declared.edit.FailureHandlingKind.{FailureHandlingKind}
use Rattle.lsp_caps_work.specs.declared.edit.FailureHandlingKind.TheVariants as failure_handling_kind
use Rattle.lsp_caps_work.specs.declared.edit.ResourceOperationKind.{ResourceOperationKind}
use Rattle.lsp_caps_work.specs.declared.edit.ResourceOperationKind.TheVariants as resource_operation_kind
use Rattle.lsp_caps_work.specs.declared.edit.WorkspaceEditClientCapabilities.{WorkspaceEditClientCapabilities}

abbrev pub resource_operation_kind_name : ResourceOperationKind → List ℕ
resource_operation_kind_name resource_operation_kind.Create = codes "create"
resource_operation_kind_name resource_operation_kind.Rename = codes "rename"
resource_operation_kind_name resource_operation_kind.Delete = codes "delete"

unfoldable pub resource_operation_kind_row : Row ResourceOperationKind
resource_operation_kind_row = names (codes "create" ∷ codes "rename" ∷ codes "delete" ∷ []) resource_operation_kind_name

abbrev pub failure_handling_kind_name : FailureHandlingKind → List ℕ
failure_handling_kind_name failure_handling_kind.Abort = codes "abort"
failure_handling_kind_name failure_handling_kind.Transactional = codes "transactional"
failure_handling_kind_name failure_handling_kind.TextOnlyTransactional = codes "textOnlyTransactional"
failure_handling_kind_name failure_handling_kind.Undo = codes "undo"

unfoldable pub failure_handling_kind_row : Row FailureHandlingKind
failure_handling_kind_row = names (codes "abort" ∷ codes "transactional" ∷ codes "textOnlyTransactional" ∷ codes "undo" ∷ []) failure_handling_kind_name

unfoldable pub change_annotation_workspace_edit_client_capabilities_row : Row ChangeAnnotationWorkspaceEditClientCapabilities
change_annotation_workspace_edit_client_capabilities_row = fields (
    omitted "groupsOnLabel" truth (λ x. x.groups_on_label))

unfoldable pub workspace_edit_client_capabilities_row : Row WorkspaceEditClientCapabilities
workspace_edit_client_capabilities_row = fields (
    omitted "documentChanges" truth (λ x. x.document_changes) &
    omitted "resourceOperations" (list resource_operation_kind_row) (λ x. x.resource_operations) &
    omitted "failureHandling" failure_handling_kind_row (λ x. x.failure_handling) &
    omitted "normalizesLineEndings" truth (λ x. x.normalizes_line_endings) &
    omitted "changeAnnotationSupport" change_annotation_workspace_edit_client_capabilities_row (λ x. x.change_annotation_support))
