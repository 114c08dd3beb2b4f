-- Rows: notebooks.
use Rattle.lsp_shape.specs.Plain.{Plain, choice}
use Rattle.lsp_shape.specs.Row.{Row, fields, list, omitted, required, string, truth, union, variant, ◌&◌, ◌or◌}
use Rattle.lsp_offer_work.specs.declared.notebook.Notebook.{Notebook}
use Rattle.lsp_offer_work.specs.declared.notebook.Notebook.TheVariants as notebook
use Rattle.lsp_offer_work.specs.declared.notebook.NotebookCellSelector.{NotebookCellSelector}
use Rattle.lsp_offer_work.specs.declared.notebook.NotebookCellTextDocumentFilter.{NotebookCellTextDocumentFilter}
use Rattle.lsp_offer_work.specs.declared.notebook.NotebookDocumentFilter.{NotebookDocumentFilter}
use Rattle.lsp_offer_work.specs.declared.notebook.NotebookDocumentFilter.TheVariants as notebook_document_filter
use Rattle.lsp_offer_work.specs.declared.notebook.NotebookDocumentFilterByPattern.{NotebookDocumentFilterByPattern}
use Rattle.lsp_offer_work.specs.declared.notebook.NotebookDocumentFilterByScheme.{NotebookDocumentFilterByScheme}
use Rattle.lsp_offer_work.specs.declared.notebook.NotebookDocumentFilterByType.{NotebookDocumentFilterByType}
use Rattle.lsp_offer_work.specs.declared.notebook.NotebookDocumentSyncOptions.{NotebookDocumentSyncOptions}
use Rattle.lsp_offer_work.specs.declared.notebook.NotebookDocumentSyncRegistrationOptions.{NotebookDocumentSyncRegistrationOptions}
use Rattle.lsp_offer_work.specs.declared.notebook.NotebookSelector.{NotebookSelector}
use Rattle.lsp_offer_work.specs.declared.notebook.NotebookSelector.TheVariants as notebook_selector
use Rattle.lsp_offer_work.specs.declared.notebook.NotebookSelectorByCells.{NotebookSelectorByCells}
use Rattle.lsp_offer_work.specs.declared.notebook.NotebookSelectorByNotebook.{NotebookSelectorByNotebook}

unfoldable pub notebook_document_filter_by_type_row : Row NotebookDocumentFilterByType
notebook_document_filter_by_type_row = fields (
    required "notebookType" string (λ x. x.notebook_type) &
    omitted "scheme" string (λ x. x.scheme) &
    omitted "pattern" string (λ x. x.pattern))

unfoldable pub notebook_document_filter_by_scheme_row : Row NotebookDocumentFilterByScheme
notebook_document_filter_by_scheme_row = fields (
    omitted "notebookType" string (λ x. x.notebook_type) &
    required "scheme" string (λ x. x.scheme) &
    omitted "pattern" string (λ x. x.pattern))

unfoldable pub notebook_document_filter_by_pattern_row : Row NotebookDocumentFilterByPattern
notebook_document_filter_by_pattern_row = fields (
    omitted "notebookType" string (λ x. x.notebook_type) &
    omitted "scheme" string (λ x. x.scheme) &
    required "pattern" string (λ x. x.pattern))

abbrev pub show_notebook_document_filter : NotebookDocumentFilter → Plain
show_notebook_document_filter (notebook_document_filter.ByType notebook_type scheme pattern) = choice 0 (notebook_document_filter_by_type_row.shown (record { notebook_type = notebook_type; scheme = scheme; pattern = pattern }))
show_notebook_document_filter (notebook_document_filter.ByScheme notebook_type scheme pattern) = choice 1 (notebook_document_filter_by_scheme_row.shown (record { notebook_type = notebook_type; scheme = scheme; pattern = pattern }))
show_notebook_document_filter (notebook_document_filter.ByPattern notebook_type scheme pattern) = choice 2 (notebook_document_filter_by_pattern_row.shown (record { notebook_type = notebook_type; scheme = scheme; pattern = pattern }))

unfoldable pub notebook_document_filter_row : Row NotebookDocumentFilter
notebook_document_filter_row = union (
    variant notebook_document_filter_by_type_row or
    variant notebook_document_filter_by_scheme_row or
    variant notebook_document_filter_by_pattern_row) show_notebook_document_filter

abbrev pub show_notebook : Notebook → Plain
show_notebook (notebook.String x) = choice 0 (string.shown x)
show_notebook (notebook.NotebookDocumentFilter x) = choice 1 (notebook_document_filter_row.shown x)

unfoldable pub notebook_row : Row Notebook
notebook_row = union (variant string or variant notebook_document_filter_row) show_notebook

unfoldable pub notebook_cell_selector_row : Row NotebookCellSelector
notebook_cell_selector_row = fields (
    required "language" string (λ x. x.language))

unfoldable pub notebook_selector_by_notebook_row : Row NotebookSelectorByNotebook
notebook_selector_by_notebook_row = fields (
    required "notebook" notebook_row (λ x. x.notebook) &
    omitted "cells" (list notebook_cell_selector_row) (λ x. x.cells))

unfoldable pub notebook_selector_by_cells_row : Row NotebookSelectorByCells
notebook_selector_by_cells_row = fields (
    omitted "notebook" notebook_row (λ x. x.notebook) &
    required "cells" (list notebook_cell_selector_row) (λ x. x.cells))

abbrev pub show_notebook_selector : NotebookSelector → Plain
show_notebook_selector (notebook_selector.ByNotebook notebook cells) = choice 0 (notebook_selector_by_notebook_row.shown (record { notebook = notebook; cells = cells }))
show_notebook_selector (notebook_selector.ByCells notebook cells) = choice 1 (notebook_selector_by_cells_row.shown (record { notebook = notebook; cells = cells }))

unfoldable pub notebook_selector_row : Row NotebookSelector
notebook_selector_row = union (
    variant notebook_selector_by_notebook_row or
    variant notebook_selector_by_cells_row) show_notebook_selector

unfoldable pub notebook_document_sync_options_row : Row NotebookDocumentSyncOptions
notebook_document_sync_options_row = fields (
    required "notebookSelector" (list notebook_selector_row) (λ x. x.notebook_selector) &
    omitted "save" truth (λ x. x.save))

unfoldable pub notebook_document_sync_registration_options_row : Row NotebookDocumentSyncRegistrationOptions
notebook_document_sync_registration_options_row = fields (
    required "notebookSelector" (list notebook_selector_row) (λ x. x.notebook_selector) &
    omitted "save" truth (λ x. x.save) &
    omitted "id" string (λ x. x.id))

unfoldable pub notebook_cell_text_document_filter_row : Row NotebookCellTextDocumentFilter
notebook_cell_text_document_filter_row = fields (
    required "notebook" notebook_row (λ x. x.notebook) &
    omitted "language" string (λ x. x.language))
