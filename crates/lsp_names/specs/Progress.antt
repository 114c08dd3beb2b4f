-- What a server offers to tell of work in progress.
use Rattle.lsp_shape.specs.Row.{Row, fields, omitted, truth}
use Rattle.lsp_names.specs.declared.progress.WorkDoneProgressOptions.{WorkDoneProgressOptions}

unfoldable pub work_done_progress_options_row : Row WorkDoneProgressOptions
work_done_progress_options_row = fields (
    omitted "workDoneProgress" truth (λ x. x.work_done_progress))
