-- Rows: symbols of a document and of the workspace.
use Rattle.lsp_shape.specs.Plain.{Plain, choice}
use Rattle.lsp_shape.specs.Row.{Row, any, fields, flat, i32, list, omitted, required, string, truth, union, variant, ◌&◌, ◌or◌}
use Rattle.lsp_uri.specs.Uri.{uri_row}
use Rattle.lsp_base.specs.Document.{text_document_identifier_row}
use Rattle.lsp_base.specs.Edit.{one_of_row}
use Rattle.lsp_base.specs.Position.{location_row}
use Rattle.lsp_base.specs.Progress.{partial_result_params_row, work_done_progress_params_row}
use Rattle.lsp_lang_goto.specs.Tree.{document_symbol_row}
use Rattle.lsp_lang_goto.specs.declared.symbols.DocumentSymbolParams.{DocumentSymbolParams}
use Rattle.lsp_lang_goto.specs.declared.symbols.DocumentSymbolResponse.{DocumentSymbolResponse}
use Rattle.lsp_lang_goto.specs.declared.symbols.DocumentSymbolResponse.TheVariants as document_symbol_response
use Rattle.lsp_lang_goto.specs.declared.symbols.SymbolInformation.{SymbolInformation}
use Rattle.lsp_lang_goto.specs.declared.symbols.WorkspaceLocation.{WorkspaceLocation}
use Rattle.lsp_lang_goto.specs.declared.symbols.WorkspaceSymbol.{WorkspaceSymbol}
use Rattle.lsp_lang_goto.specs.declared.symbols.WorkspaceSymbolParams.{WorkspaceSymbolParams}
use Rattle.lsp_lang_goto.specs.declared.symbols.WorkspaceSymbolResponse.{WorkspaceSymbolResponse}
use Rattle.lsp_lang_goto.specs.declared.symbols.WorkspaceSymbolResponse.TheVariants as workspace_symbol_response

unfoldable pub document_symbol_params_row : Row DocumentSymbolParams
document_symbol_params_row = fields (
    required "textDocument" text_document_identifier_row (λ x. x.text_document) &
    flat work_done_progress_params_row (λ x. x.work_done_progress_params) &
    flat partial_result_params_row (λ x. x.partial_result_params))

unfoldable pub symbol_information_row : Row SymbolInformation
symbol_information_row = fields (
    required "name" string (λ x. x.name) &
    required "kind" i32 (λ x. x.kind) &
    omitted "tags" (list i32) (λ x. x.tags) &
    omitted "deprecated" truth (λ x. x.deprecated) &
    required "location" location_row (λ x. x.location) &
    omitted "containerName" string (λ x. x.container_name))

abbrev pub show_document_symbol_response : DocumentSymbolResponse → Plain
show_document_symbol_response (document_symbol_response.Flat x) = choice 0 ((list symbol_information_row).shown x)
show_document_symbol_response (document_symbol_response.Nested x) = choice 1 ((list document_symbol_row).shown x)

unfoldable pub document_symbol_response_row : Row DocumentSymbolResponse
document_symbol_response_row = union (variant (list symbol_information_row) or variant (list document_symbol_row)) show_document_symbol_response

unfoldable pub workspace_symbol_params_row : Row WorkspaceSymbolParams
workspace_symbol_params_row = fields (
    flat partial_result_params_row (λ x. x.partial_result_params) &
    flat work_done_progress_params_row (λ x. x.work_done_progress_params) &
    required "query" string (λ x. x.query))

unfoldable pub workspace_location_row : Row WorkspaceLocation
workspace_location_row = fields (
    required "uri" uri_row (λ x. x.uri))

unfoldable pub workspace_symbol_row : Row WorkspaceSymbol
workspace_symbol_row = fields (
    required "name" string (λ x. x.name) &
    required "kind" i32 (λ x. x.kind) &
    omitted "tags" (list i32) (λ x. x.tags) &
    omitted "containerName" string (λ x. x.container_name) &
    required "location" (one_of_row location_row workspace_location_row) (λ x. x.location) &
    omitted "data" any (λ x. x.payload))

abbrev pub show_workspace_symbol_response : WorkspaceSymbolResponse → Plain
show_workspace_symbol_response (workspace_symbol_response.Flat x) = choice 0 ((list symbol_information_row).shown x)
show_workspace_symbol_response (workspace_symbol_response.Nested x) = choice 1 ((list workspace_symbol_row).shown x)

unfoldable pub workspace_symbol_response_row : Row WorkspaceSymbolResponse
workspace_symbol_response_row = union (variant (list symbol_information_row) or variant (list workspace_symbol_row)) show_workspace_symbol_response
