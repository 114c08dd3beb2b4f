-- Rows: messages and documents that are shown, and traces.
use Rattle.lsp_shape.specs.Plain.{Plain, choice}
use Rattle.lsp_shape.specs.Row.{Row, any, fields, fields_and, i32, list, omitted, required, string, truth, union, variant, ◌&◌, ◌or◌}
use Rattle.lsp_uri.specs.Uri.{uri_row}
use Rattle.lsp_names.specs.Trace.{trace_value_row}
use Rattle.lsp_base.specs.Position.{range_row}
use Rattle.lsp_work.specs.declared.window.LogMessageParams.{LogMessageParams}
use Rattle.lsp_work.specs.declared.window.LogTraceParams.{LogTraceParams}
use Rattle.lsp_work.specs.declared.window.MessageActionItem.{MessageActionItem}
use Rattle.lsp_work.specs.declared.window.MessageActionItemProperty.{MessageActionItemProperty}
use Rattle.lsp_work.specs.declared.window.MessageActionItemProperty.TheVariants as message_action_item_property
use Rattle.lsp_work.specs.declared.window.SetTraceParams.{SetTraceParams}
use Rattle.lsp_work.specs.declared.window.ShowDocumentParams.{ShowDocumentParams}
use Rattle.lsp_work.specs.declared.window.ShowDocumentResult.{ShowDocumentResult}
use Rattle.lsp_work.specs.declared.window.ShowMessageParams.{ShowMessageParams}
use Rattle.lsp_work.specs.declared.window.ShowMessageRequestParams.{ShowMessageRequestParams}

unfoldable pub show_message_params_row : Row ShowMessageParams
show_message_params_row = fields (
    required "type" i32 (λ x. x.typ) &
    required "message" string (λ x. x.message))

abbrev pub show_message_action_item_property : MessageActionItemProperty → Plain
show_message_action_item_property (message_action_item_property.String x) = choice 0 (string.shown x)
show_message_action_item_property (message_action_item_property.Boolean x) = choice 1 (truth.shown x)
show_message_action_item_property (message_action_item_property.Integer x) = choice 2 (i32.shown x)
show_message_action_item_property (message_action_item_property.Object x) = choice 3 (any.shown x)

unfoldable pub message_action_item_property_row : Row MessageActionItemProperty
message_action_item_property_row = union (variant string or variant truth or variant i32 or variant any) show_message_action_item_property

unfoldable pub message_action_item_row : Row MessageActionItem
message_action_item_row = fields_and message_action_item_property_row (λ x. x.properties) (
    required "title" string (λ x. x.title))

unfoldable pub show_message_request_params_row : Row ShowMessageRequestParams
show_message_request_params_row = fields (
    required "type" i32 (λ x. x.typ) &
    required "message" string (λ x. x.message) &
    omitted "actions" (list message_action_item_row) (λ x. x.actions))

unfoldable pub log_message_params_row : Row LogMessageParams
log_message_params_row = fields (
    required "type" i32 (λ x. x.typ) &
    required "message" string (λ x. x.message))

unfoldable pub show_document_params_row : Row ShowDocumentParams
show_document_params_row = fields (
    required "uri" uri_row (λ x. x.uri) &
    omitted "external" truth (λ x. x.external) &
    omitted "takeFocus" truth (λ x. x.take_focus) &
    omitted "selection" range_row (λ x. x.selection))

unfoldable pub show_document_result_row : Row ShowDocumentResult
show_document_result_row = fields (
    required "success" truth (λ x. x.success))

unfoldable pub set_trace_params_row : Row SetTraceParams
set_trace_params_row = fields (
    required "value" trace_value_row (λ x. x.value))

unfoldable pub log_trace_params_row : Row LogTraceParams
log_trace_params_row = fields (
    required "message" string (λ x. x.message) &
    omitted "verbose" string (λ x. x.verbose))
