-- Rows of tokens of progress.
use Rattle.lsp_shape.specs.Row.{Row, fields, omitted}
use Rattle.lsp_base.specs.Position.{number_or_string_row}
use Rattle.lsp_base.specs.declared.progress.PartialResultParams.{PartialResultParams}
use Rattle.lsp_base.specs.declared.progress.WorkDoneProgressParams.{WorkDoneProgressParams}

unfoldable pub partial_result_params_row : Row PartialResultParams
partial_result_params_row = fields (
    omitted "partialResultToken" number_or_string_row (λ x. x.partial_result_token))

unfoldable pub work_done_progress_params_row : Row WorkDoneProgressParams
work_done_progress_params_row = fields (
    omitted "workDoneToken" number_or_string_row (λ x. x.work_done_token))
