-- Rows: links in documents.
use Rattle.lsp_shape.specs.Row.{Row, any, fields, flat, omitted, required, string, ◌&◌}
use Rattle.lsp_uri.specs.Uri.{uri_row}
use Rattle.lsp_base.specs.Document.{text_document_identifier_row}
use Rattle.lsp_base.specs.Position.{range_row}
use Rattle.lsp_base.specs.Progress.{partial_result_params_row, work_done_progress_params_row}
use Rattle.lsp_lang_goto.specs.declared.link.DocumentLink.{DocumentLink}
use Rattle.lsp_lang_goto.specs.declared.link.DocumentLinkParams.{DocumentLinkParams}

unfoldable pub document_link_params_row : Row DocumentLinkParams
document_link_params_row = fields (
    required "textDocument" text_document_identifier_row (λ x. x.text_document) &
    flat work_done_progress_params_row (λ x. x.work_done_progress_params) &
    flat partial_result_params_row (λ x. x.partial_result_params))

unfoldable pub document_link_row : Row DocumentLink
document_link_row = fields (
    required "range" range_row (λ x. x.range) &
    omitted "target" uri_row (λ x. x.target) &
    omitted "tooltip" string (λ x. x.tooltip) &
    omitted "data" any (λ x. x.payload))
