-- Rows: symbols.
use Rattle.lsp_shape.specs.Row.{Row, fields, flat, omitted, string, truth, ◌&◌}
use Rattle.lsp_names.specs.Progress.{work_done_progress_options_row}
use Rattle.lsp_offer_text.specs.declared.symbols.DocumentSymbolOptions.{DocumentSymbolOptions}
use Rattle.lsp_offer_text.specs.declared.symbols.WorkspaceSymbolOptions.{WorkspaceSymbolOptions}

unfoldable pub document_symbol_options_row : Row DocumentSymbolOptions
document_symbol_options_row = fields (
    omitted "label" string (λ x. x.label) &
    flat work_done_progress_options_row (λ x. x.work_done_progress_options))

unfoldable pub workspace_symbol_options_row : Row WorkspaceSymbolOptions
workspace_symbol_options_row = fields (
    flat work_done_progress_options_row (λ x. x.work_done_progress_options) &
    omitted "resolveProvider" truth (λ x. x.resolve_provider))
