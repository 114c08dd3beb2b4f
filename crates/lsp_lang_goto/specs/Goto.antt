-- Rows: declarations, definitions, types and implementations.
use Rattle.lsp_shape.specs.Plain.{Plain, choice}
use Rattle.lsp_shape.specs.Row.{Row, fields, flat, list, union, variant, ◌&◌, ◌or◌}
use Rattle.lsp_base.specs.Document.{text_document_position_params_row}
use Rattle.lsp_base.specs.Position.{location_link_row, location_row}
use Rattle.lsp_base.specs.Progress.{partial_result_params_row, work_done_progress_params_row}
use Rattle.lsp_lang_goto.specs.declared.goto.GotoDefinitionParams.{GotoDefinitionParams}
use Rattle.lsp_lang_goto.specs.declared.goto.GotoDefinitionResponse.{GotoDefinitionResponse}
use Rattle.lsp_lang_goto.specs.declared.goto.GotoDefinitionResponse.TheVariants as goto_definition_response

unfoldable pub goto_definition_params_row : Row GotoDefinitionParams
goto_definition_params_row = fields (
    flat text_document_position_params_row (λ x. x.text_document_position_params) &
    flat work_done_progress_params_row (λ x. x.work_done_progress_params) &
    flat partial_result_params_row (λ x. x.partial_result_params))

abbrev pub show_goto_definition_response : GotoDefinitionResponse → Plain
show_goto_definition_response (goto_definition_response.Scalar x) = choice 0 (location_row.shown x)
show_goto_definition_response (goto_definition_response.Array x) = choice 1 ((list location_row).shown x)
show_goto_definition_response (goto_definition_response.Link x) = choice 2 ((list location_link_row).shown x)

unfoldable pub goto_definition_response_row : Row GotoDefinitionResponse
goto_definition_response_row = union (
    variant location_row or
    variant (list location_row) or
    variant (list location_link_row)) show_goto_definition_response
