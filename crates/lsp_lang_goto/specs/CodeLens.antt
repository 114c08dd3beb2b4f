-- Rows: code lenses.
use Rattle.lsp_shape.specs.Row.{Row, any, fields, flat, omitted, required, ◌&◌}
use Rattle.lsp_base.specs.Command.{command_row}
use Rattle.lsp_base.specs.Document.{text_document_identifier_row}
use Rattle.lsp_base.specs.Position.{range_row}
use Rattle.lsp_base.specs.Progress.{partial_result_params_row, work_done_progress_params_row}
use Rattle.lsp_lang_goto.specs.declared.code_lens.CodeLens.{CodeLens}
use Rattle.lsp_lang_goto.specs.declared.code_lens.CodeLensParams.{CodeLensParams}

unfoldable pub code_lens_params_row : Row CodeLensParams
code_lens_params_row = fields (
    required "textDocument" text_document_identifier_row (λ x. x.text_document) &
    flat work_done_progress_params_row (λ x. x.work_done_progress_params) &
    flat partial_result_params_row (λ x. x.partial_result_params))

unfoldable pub code_lens_row : Row CodeLens
code_lens_row = fields (
    required "range" range_row (λ x. x.range) &
    omitted "command" command_row (λ x. x.command) &
    omitted "data" any (λ x. x.payload))
