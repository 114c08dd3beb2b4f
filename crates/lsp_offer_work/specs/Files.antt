-- Rows: files that are created, renamed and deleted.
use Rattle.std.specs.Prelude.{List, [], codes, ℕ, ◌∷◌}
use Rattle.lsp_shape.specs.Row.{Row, fields, list, names, nullable, omitted, required, string, truth, ◌&◌}
use Rattle.lsp_offer_work.specs.declared.files.FileOperationFilter.{FileOperationFilter}
use Rattle.lsp_offer_work.specs.declared.files.FileOperationPattern.{FileOperationPattern}
use Rattle.lsp_offer_work.specs.declared.files.FileOperationPatternKind.{FileOperationPatternKind}
use Rattle.lsp_offer_work.specs.declared.files.FileOperationPatternKind.TheVariants as file_operation_pattern_kind
use Rattle.lsp_offer_work.specs.declared.files.FileOperationPatternOptions.{FileOperationPatternOptions}
use Rattle.lsp_offer_work.specs.declared.files.FileOperationRegistrationOptions.{FileOperationRegistrationOptions}
use Rattle.lsp_offer_work.specs.declared.files.WorkspaceFileOperationsServerCapabilities.{WorkspaceFileOperationsServerCapabilities}

abbrev pub file_operation_pattern_kind_name : FileOperationPatternKind → List ℕ
file_operation_pattern_kind_name file_operation_pattern_kind.File = codes "file"
file_operation_pattern_kind_name file_operation_pattern_kind.Folder = codes "folder"

unfoldable pub file_operation_pattern_kind_row : Row FileOperationPatternKind
file_operation_pattern_kind_row = names (codes "file" ∷ codes "folder" ∷ []) file_operation_pattern_kind_name

unfoldable pub file_operation_pattern_options_row : Row FileOperationPatternOptions
file_operation_pattern_options_row = fields (
    omitted "ignoreCase" truth (λ x. x.ignore_case))

unfoldable pub file_operation_pattern_row : Row FileOperationPattern
file_operation_pattern_row = fields (
    required "glob" string (λ x. x.glob) &
    omitted "matches" file_operation_pattern_kind_row (λ x. x.matches) &
    omitted "options" file_operation_pattern_options_row (λ x. x.options))

unfoldable pub file_operation_filter_row : Row FileOperationFilter
file_operation_filter_row = fields (
    nullable "scheme" string (λ x. x.scheme) &
    required "pattern" file_operation_pattern_row (λ x. x.pattern))

unfoldable pub file_operation_registration_options_row : Row FileOperationRegistrationOptions
file_operation_registration_options_row = fields (
    required "filters" (list file_operation_filter_row) (λ x. x.filters))

unfoldable pub workspace_file_operations_server_capabilities_row : Row WorkspaceFileOperationsServerCapabilities
workspace_file_operations_server_capabilities_row = fields (
    omitted "didCreate" file_operation_registration_options_row (λ x. x.did_create) &
    omitted "willCreate" file_operation_registration_options_row (λ x. x.will_create) &
    omitted "didRename" file_operation_registration_options_row (λ x. x.did_rename) &
    omitted "willRename" file_operation_registration_options_row (λ x. x.will_rename) &
    omitted "didDelete" file_operation_registration_options_row (λ x. x.did_delete) &
    omitted "willDelete" file_operation_registration_options_row (λ x. x.will_delete))
