-- Rows: hierarchies of calls.
use Rattle.lsp_shape.specs.Row.{Row, any, fields, flat, i32, list, omitted, required, string, ◌&◌}
use Rattle.lsp_uri.specs.Uri.{uri_row}
use Rattle.lsp_base.specs.Document.{text_document_position_params_row}
use Rattle.lsp_base.specs.Position.{range_row}
use Rattle.lsp_base.specs.Progress.{partial_result_params_row, work_done_progress_params_row}
use Rattle.lsp_lang_goto.specs.declared.calls.CallHierarchyIncomingCall.{CallHierarchyIncomingCall}
use Rattle.lsp_lang_goto.specs.declared.calls.CallHierarchyIncomingCallsParams.{CallHierarchyIncomingCallsParams}
use Rattle.lsp_lang_goto.specs.declared.calls.CallHierarchyItem.{CallHierarchyItem}
use Rattle.lsp_lang_goto.specs.declared.calls.CallHierarchyOutgoingCall.{CallHierarchyOutgoingCall}
use Rattle.lsp_lang_goto.specs.declared.calls.CallHierarchyOutgoingCallsParams.{CallHierarchyOutgoingCallsParams}
use Rattle.lsp_lang_goto.specs.declared.calls.CallHierarchyPrepareParams.{CallHierarchyPrepareParams}

unfoldable pub call_hierarchy_prepare_params_row : Row CallHierarchyPrepareParams
call_hierarchy_prepare_params_row = fields (
    flat text_document_position_params_row (λ x. x.text_document_position_params) &
    flat work_done_progress_params_row (λ x. x.work_done_progress_params))

unfoldable pub call_hierarchy_item_row : Row CallHierarchyItem
call_hierarchy_item_row = fields (
    required "name" string (λ x. x.name) &
    required "kind" i32 (λ x. x.kind) &
    omitted "tags" (list i32) (λ x. x.tags) &
    omitted "detail" string (λ x. x.detail) &
    required "uri" uri_row (λ x. x.uri) &
    required "range" range_row (λ x. x.range) &
    required "selectionRange" range_row (λ x. x.selection_range) &
    omitted "data" any (λ x. x.payload))

unfoldable pub call_hierarchy_incoming_calls_params_row : Row CallHierarchyIncomingCallsParams
call_hierarchy_incoming_calls_params_row = fields (
    required "item" call_hierarchy_item_row (λ x. x.item) &
    flat work_done_progress_params_row (λ x. x.work_done_progress_params) &
    flat partial_result_params_row (λ x. x.partial_result_params))

unfoldable pub call_hierarchy_incoming_call_row : Row CallHierarchyIncomingCall
call_hierarchy_incoming_call_row = fields (
    required "from" call_hierarchy_item_row (λ x. x.from) &
    required "fromRanges" (list range_row) (λ x. x.from_ranges))

unfoldable pub call_hierarchy_outgoing_calls_params_row : Row CallHierarchyOutgoingCallsParams
call_hierarchy_outgoing_calls_params_row = fields (
    required "item" call_hierarchy_item_row (λ x. x.item) &
    flat work_done_progress_params_row (λ x. x.work_done_progress_params) &
    flat partial_result_params_row (λ x. x.partial_result_params))

unfoldable pub call_hierarchy_outgoing_call_row : Row CallHierarchyOutgoingCall
call_hierarchy_outgoing_call_row = fields (
    required "to" call_hierarchy_item_row (λ x. x.to) &
    required "fromRanges" (list range_row) (λ x. x.from_ranges))
