-- Rows: completion.
use Rattle.lsp_shape.specs.Plain.{Plain, choice}
use Rattle.lsp_shape.specs.Row.{Fields, Row, any, fields, flat, i32, list, omitted, required, string, truth, union, variant, ◌&◌, ◌or◌}
use Rattle.lsp_names.specs.Markup.{documentation_row}
use Rattle.lsp_base.specs.Command.{command_row}
use Rattle.lsp_base.specs.Document.{text_document_position_params_row}
use Rattle.lsp_base.specs.Edit.{text_edit_row}
use Rattle.lsp_base.specs.Position.{range_row}
use Rattle.lsp_base.specs.Progress.{partial_result_params_row, work_done_progress_params_row}
use Rattle.lsp_lang_item.specs.declared.completion.CompletionContext.{CompletionContext}
use Rattle.lsp_lang_item.specs.declared.completion.CompletionItem.{CompletionItem}
use Rattle.lsp_lang_item.specs.declared.completion.CompletionItemLabelDetails.{CompletionItemLabelDetails}
use Rattle.lsp_lang_item.specs.declared.completion.CompletionList.{CompletionList}
use Rattle.lsp_lang_item.specs.declared.completion.CompletionParams.{CompletionParams}
use Rattle.lsp_lang_item.specs.declared.completion.CompletionResponse.{CompletionResponse}
use Rattle.lsp_lang_item.specs.declared.completion.CompletionResponse.TheVariants as completion_response
use Rattle.lsp_lang_item.specs.declared.completion.CompletionTextEdit.{CompletionTextEdit}
use Rattle.lsp_lang_item.specs.declared.completion.CompletionTextEdit.TheVariants as completion_text_edit
use Rattle.lsp_lang_item.specs.declared.completion.InsertReplaceEdit.{InsertReplaceEdit}

unfoldable pub completion_context_row : Row CompletionContext
completion_context_row = fields (
    required "triggerKind" i32 (λ x. x.trigger_kind) &
    omitted "triggerCharacter" string (λ x. x.trigger_character))

unfoldable pub completion_params_row : Row CompletionParams
completion_params_row = fields (
    flat text_document_position_params_row (λ x. x.text_document_position) &
    flat work_done_progress_params_row (λ x. x.work_done_progress_params) &
    flat partial_result_params_row (λ x. x.partial_result_params) &
    omitted "context" completion_context_row (λ x. x.context))

unfoldable pub completion_item_label_details_row : Row CompletionItemLabelDetails
completion_item_label_details_row = fields (
    omitted "detail" string (λ x. x.detail) &
    omitted "description" string (λ x. x.description))

unfoldable pub insert_replace_edit_row : Row InsertReplaceEdit
insert_replace_edit_row = fields (
    required "newText" string (λ x. x.new_text) &
    required "insert" range_row (λ x. x.insert) &
    required "replace" range_row (λ x. x.replace))

abbrev pub show_completion_text_edit : CompletionTextEdit → Plain
show_completion_text_edit (completion_text_edit.Edit x) = choice 0 (text_edit_row.shown x)
show_completion_text_edit (completion_text_edit.InsertAndReplace x) = choice 1 (insert_replace_edit_row.shown x)

unfoldable pub completion_text_edit_row : Row CompletionTextEdit
completion_text_edit_row = union (variant text_edit_row or variant insert_replace_edit_row) show_completion_text_edit

unfoldable pub completion_item_fields : Fields CompletionItem
completion_item_fields =
    required "label" string (λ x. x.label) &
    omitted "labelDetails" completion_item_label_details_row (λ x. x.label_details) &
    omitted "kind" i32 (λ x. x.kind) &
    omitted "detail" string (λ x. x.detail) &
    omitted "documentation" documentation_row (λ x. x.documentation) &
    omitted "deprecated" truth (λ x. x.deprecated) &
    omitted "preselect" truth (λ x. x.preselect) &
    omitted "sortText" string (λ x. x.sort_text) &
    omitted "filterText" string (λ x. x.filter_text) &
    omitted "insertText" string (λ x. x.insert_text) &
    omitted "insertTextFormat" i32 (λ x. x.insert_text_format) &
    omitted "insertTextMode" i32 (λ x. x.insert_text_mode) &
    omitted "textEdit" completion_text_edit_row (λ x. x.text_edit) &
    omitted "additionalTextEdits" (list text_edit_row) (λ x. x.additional_text_edits) &
    omitted "command" command_row (λ x. x.command) &
    omitted "commitCharacters" (list string) (λ x. x.commit_characters) &
    omitted "data" any (λ x. x.payload) &
    omitted "tags" (list i32) (λ x. x.tags)

unfoldable pub completion_item_row : Row CompletionItem
completion_item_row = fields completion_item_fields

unfoldable pub completion_list_row : Row CompletionList
completion_list_row = fields (
    required "isIncomplete" truth (λ x. x.is_incomplete) &
    required "items" (list completion_item_row) (λ x. x.items))

abbrev pub show_completion_response : CompletionResponse → Plain
show_completion_response (completion_response.Array x) = choice 0 ((list completion_item_row).shown x)
show_completion_response (completion_response.List x) = choice 1 (completion_list_row.shown x)

unfoldable pub completion_response_row : Row CompletionResponse
completion_response_row = union (variant (list completion_item_row) or variant completion_list_row) show_completion_response
