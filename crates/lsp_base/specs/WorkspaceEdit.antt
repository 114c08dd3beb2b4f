-- Rows of edits of a workspace.
use Rattle.lsp_shape.specs.Plain.{Plain, choice}
use Rattle.lsp_shape.specs.Row.{Row, fields, list, map_of, omitted, texts, union, variant, ◌&◌, ◌or◌}
use Rattle.lsp_uri.specs.Uri.{uris}
use Rattle.lsp_base.specs.Edit.{change_annotation_row, text_document_edit_row, text_edit_row}
use Rattle.lsp_base.specs.Resource.{resource_op_row}
use Rattle.lsp_base.specs.declared.workspace_edit.DocumentChangeOperation.{DocumentChangeOperation}
use Rattle.lsp_base.specs.declared.workspace_edit.DocumentChangeOperation.TheVariants as document_change_operation
use Rattle.lsp_base.specs.declared.workspace_edit.DocumentChanges.{DocumentChanges}
use Rattle.lsp_base.specs.declared.workspace_edit.DocumentChanges.TheVariants as document_changes
use Rattle.lsp_base.specs.declared.workspace_edit.WorkspaceEdit.{WorkspaceEdit}

abbrev pub show_document_change_operation : DocumentChangeOperation → Plain
show_document_change_operation (document_change_operation.Op x) = choice 0 (resource_op_row.shown x)
show_document_change_operation (document_change_operation.Edit x) = choice 1 (text_document_edit_row.shown x)

unfoldable pub document_change_operation_row : Row DocumentChangeOperation
document_change_operation_row = union (variant resource_op_row or variant text_document_edit_row) show_document_change_operation

abbrev pub show_document_changes : DocumentChanges → Plain
show_document_changes (document_changes.Edits x) = choice 0 ((list text_document_edit_row).shown x)
show_document_changes (document_changes.Operations x) = choice 1 ((list document_change_operation_row).shown x)

unfoldable pub document_changes_row : Row DocumentChanges
document_changes_row = union (
    variant (list text_document_edit_row) or
    variant (list document_change_operation_row)) show_document_changes

unfoldable pub workspace_edit_row : Row WorkspaceEdit
workspace_edit_row = fields (
    omitted "changes" (map_of uris (list text_edit_row)) (λ x. x.changes) &
    omitted "documentChanges" document_changes_row (λ x. x.document_changes) &
    omitted "changeAnnotations" (map_of texts change_annotation_row) (λ x. x.change_annotations))
