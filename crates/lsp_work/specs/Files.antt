-- Rows: files that are created, renamed and deleted.
use Rattle.lsp_shape.specs.Row.{Row, fields, list, required, string, ◌&◌}
use Rattle.lsp_work.specs.declared.files.CreateFilesParams.{CreateFilesParams}
use Rattle.lsp_work.specs.declared.files.DeleteFilesParams.{DeleteFilesParams}
use Rattle.lsp_work.specs.declared.files.FileCreate.{FileCreate}
use Rattle.lsp_work.specs.declared.files.FileDelete.{FileDelete}
use Rattle.lsp_work.specs.declared.files.FileRename.{FileRename}
use Rattle.lsp_work.specs.declared.files.RenameFilesParams.{RenameFilesParams}

unfoldable pub file_create_row : Row FileCreate
file_create_row = fields (
    required "uri" string (λ x. x.uri))

unfoldable pub create_files_params_row : Row CreateFilesParams
create_files_params_row = fields (
    required "files" (list file_create_row) (λ x. x.files))

unfoldable pub file_rename_row : Row FileRename
file_rename_row = fields (
    required "oldUri" string (λ x. x.old_uri) &
    required "newUri" string (λ x. x.new_uri))

unfoldable pub rename_files_params_row : Row RenameFilesParams
rename_files_params_row = fields (
    required "files" (list file_rename_row) (λ x. x.files))

unfoldable pub file_delete_row : Row FileDelete
file_delete_row = fields (
    required "uri" string (λ x. x.uri))

unfoldable pub delete_files_params_row : Row DeleteFilesParams
delete_files_params_row = fields (
    required "files" (list file_delete_row) (λ x. x.files))
