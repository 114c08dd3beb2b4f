-- Rows of changes of files.
use Rattle.lsp_shape.specs.Plain.{Plain, choice}
use Rattle.lsp_shape.specs.Row.{Row, fields, omitted, required, string, tag, tagged, truth, ◌&◌, ◌or◌}
use Rattle.lsp_uri.specs.Uri.{uri_row}
use Rattle.lsp_base.specs.declared.resource.CreateFile.{CreateFile}
use Rattle.lsp_base.specs.declared.resource.CreateFileOptions.{CreateFileOptions}
use Rattle.lsp_base.specs.declared.resource.DeleteFile.{DeleteFile}
use Rattle.lsp_base.specs.declared.resource.DeleteFileOptions.{DeleteFileOptions}
use Rattle.lsp_base.specs.declared.resource.RenameFile.{RenameFile}
use Rattle.lsp_base.specs.declared.resource.RenameFileOptions.{RenameFileOptions}
use Rattle.lsp_base.specs.declared.resource.ResourceOp.{ResourceOp}
use Rattle.lsp_base.specs.declared.resource.ResourceOp.TheVariants as resource_op

unfoldable pub create_file_options_row : Row CreateFileOptions
create_file_options_row = fields (
    omitted "overwrite" truth (λ x. x.overwrite) &
    omitted "ignoreIfExists" truth (λ x. x.ignore_if_exists))

unfoldable pub create_file_row : Row CreateFile
create_file_row = fields (
    required "uri" uri_row (λ x. x.uri) &
    omitted "options" create_file_options_row (λ x. x.options) &
    omitted "annotationId" string (λ x. x.annotation_id))

unfoldable pub rename_file_options_row : Row RenameFileOptions
rename_file_options_row = fields (
    omitted "overwrite" truth (λ x. x.overwrite) &
    omitted "ignoreIfExists" truth (λ x. x.ignore_if_exists))

unfoldable pub rename_file_row : Row RenameFile
rename_file_row = fields (
    required "oldUri" uri_row (λ x. x.old_uri) &
    required "newUri" uri_row (λ x. x.new_uri) &
    omitted "options" rename_file_options_row (λ x. x.options) &
    omitted "annotationId" string (λ x. x.annotation_id))

unfoldable pub delete_file_options_row : Row DeleteFileOptions
delete_file_options_row = fields (
    omitted "recursive" truth (λ x. x.recursive) &
    omitted "ignoreIfNotExists" truth (λ x. x.ignore_if_not_exists) &
    omitted "annotationId" string (λ x. x.annotation_id))

unfoldable pub delete_file_row : Row DeleteFile
delete_file_row = fields (
    required "uri" uri_row (λ x. x.uri) &
    omitted "options" delete_file_options_row (λ x. x.options))

abbrev pub show_resource_op : ResourceOp → Plain
show_resource_op (resource_op.Create x) = choice 0 (create_file_row.shown x)
show_resource_op (resource_op.Rename x) = choice 1 (rename_file_row.shown x)
show_resource_op (resource_op.Delete x) = choice 2 (delete_file_row.shown x)

unfoldable pub resource_op_row : Row ResourceOp
resource_op_row = tagged "kind" (
    tag "create" create_file_row or
    tag "rename" rename_file_row or
    tag "delete" delete_file_row) show_resource_op
