-- Rows: the progress of work.
use Rattle.lsp_shape.specs.Plain.{Plain, choice}
use Rattle.lsp_shape.specs.Row.{Row, fields, omitted, required, string, tag, tagged, truth, u32, union, variant, ◌&◌, ◌or◌}
use Rattle.lsp_base.specs.Position.{number_or_string_row}
use Rattle.lsp_work.specs.declared.progress.ProgressParams.{ProgressParams}
use Rattle.lsp_work.specs.declared.progress.ProgressParamsValue.{ProgressParamsValue}
use Rattle.lsp_work.specs.declared.progress.ProgressParamsValue.TheVariants as progress_params_value
use Rattle.lsp_work.specs.declared.progress.WorkDoneProgress.{WorkDoneProgress}
use Rattle.lsp_work.specs.declared.progress.WorkDoneProgress.TheVariants as work_done_progress
use Rattle.lsp_work.specs.declared.progress.WorkDoneProgressBegin.{WorkDoneProgressBegin}
use Rattle.lsp_work.specs.declared.progress.WorkDoneProgressCancelParams.{WorkDoneProgressCancelParams}
use Rattle.lsp_work.specs.declared.progress.WorkDoneProgressCreateParams.{WorkDoneProgressCreateParams}
use Rattle.lsp_work.specs.declared.progress.WorkDoneProgressEnd.{WorkDoneProgressEnd}
use Rattle.lsp_work.specs.declared.progress.WorkDoneProgressReport.{WorkDoneProgressReport}

unfoldable pub work_done_progress_begin_row : Row WorkDoneProgressBegin
work_done_progress_begin_row = fields (
    required "title" string (λ x. x.title) &
    omitted "cancellable" truth (λ x. x.cancellable) &
    omitted "message" string (λ x. x.message) &
    omitted "percentage" u32 (λ x. x.percentage))

unfoldable pub work_done_progress_report_row : Row WorkDoneProgressReport
work_done_progress_report_row = fields (
    omitted "cancellable" truth (λ x. x.cancellable) &
    omitted "message" string (λ x. x.message) &
    omitted "percentage" u32 (λ x. x.percentage))

unfoldable pub work_done_progress_end_row : Row WorkDoneProgressEnd
work_done_progress_end_row = fields (
    omitted "message" string (λ x. x.message))

abbrev pub show_work_done_progress : WorkDoneProgress → Plain
show_work_done_progress (work_done_progress.Begin x) = choice 0 (work_done_progress_begin_row.shown x)
show_work_done_progress (work_done_progress.Report x) = choice 1 (work_done_progress_report_row.shown x)
show_work_done_progress (work_done_progress.End x) = choice 2 (work_done_progress_end_row.shown x)

unfoldable pub work_done_progress_row : Row WorkDoneProgress
work_done_progress_row = tagged "kind" (
    tag "begin" work_done_progress_begin_row or
    tag "report" work_done_progress_report_row or
    tag "end" work_done_progress_end_row) show_work_done_progress

abbrev pub show_progress_params_value : ProgressParamsValue → Plain
show_progress_params_value (progress_params_value.WorkDone x) = choice 0 (work_done_progress_row.shown x)

unfoldable pub progress_params_value_row : Row ProgressParamsValue
progress_params_value_row = union (variant work_done_progress_row) show_progress_params_value

unfoldable pub progress_params_row : Row ProgressParams
progress_params_row = fields (
    required "token" number_or_string_row (λ x. x.token) &
    required "value" progress_params_value_row (λ x. x.value))

unfoldable pub work_done_progress_create_params_row : Row WorkDoneProgressCreateParams
work_done_progress_create_params_row = fields (
    required "token" number_or_string_row (λ x. x.token))

unfoldable pub work_done_progress_cancel_params_row : Row WorkDoneProgressCancelParams
work_done_progress_cancel_params_row = fields (
    required "token" number_or_string_row (λ x. x.token))
