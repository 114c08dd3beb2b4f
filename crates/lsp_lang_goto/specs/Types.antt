-- Rows: hierarchies of types.
use Rattle.lsp_shape.specs.Row.{Row, any, fields, flat, i32, list, omitted, required, string, ◌&◌}
use Rattle.lsp_uri.specs.Uri.{uri_row}
use Rattle.lsp_base.specs.Document.{text_document_position_params_row}
use Rattle.lsp_base.specs.Position.{range_row}
use Rattle.lsp_base.specs.Progress.{partial_result_params_row, work_done_progress_params_row}
use Rattle.lsp_lang_goto.specs.declared.types.TypeHierarchyItem.{TypeHierarchyItem}
use Rattle.lsp_lang_goto.specs.declared.types.TypeHierarchyPrepareParams.{TypeHierarchyPrepareParams}
use Rattle.lsp_lang_goto.specs.declared.types.TypeHierarchySubtypesParams.{TypeHierarchySubtypesParams}
use Rattle.lsp_lang_goto.specs.declared.types.TypeHierarchySupertypesParams.{TypeHierarchySupertypesParams}

unfoldable pub type_hierarchy_prepare_params_row : Row TypeHierarchyPrepareParams
type_hierarchy_prepare_params_row = fields (
    flat text_document_position_params_row (λ x. x.text_document_position_params) &
    flat work_done_progress_params_row (λ x. x.work_done_progress_params))

unfoldable pub type_hierarchy_item_row : Row TypeHierarchyItem
type_hierarchy_item_row = fields (
    required "name" string (λ x. x.name) &
    required "kind" i32 (λ x. x.kind) &
    omitted "tags" (list i32) (λ x. x.tags) &
    omitted "detail" string (λ x. x.detail) &
    required "uri" uri_row (λ x. x.uri) &
    required "range" range_row (λ x. x.range) &
    required "selectionRange" range_row (λ x. x.selection_range) &
    omitted "data" any (λ x. x.payload))

unfoldable pub type_hierarchy_supertypes_params_row : Row TypeHierarchySupertypesParams
type_hierarchy_supertypes_params_row = fields (
    required "item" type_hierarchy_item_row (λ x. x.item) &
    flat work_done_progress_params_row (λ x. x.work_done_progress_params) &
    flat partial_result_params_row (λ x. x.partial_result_params))

unfoldable pub type_hierarchy_subtypes_params_row : Row TypeHierarchySubtypesParams
type_hierarchy_subtypes_params_row = fields (
    required "item" type_hierarchy_item_row (λ x. x.item) &
    flat work_done_progress_params_row (λ x. x.work_done_progress_params) &
    flat partial_result_params_row (λ x. x.partial_result_params))
