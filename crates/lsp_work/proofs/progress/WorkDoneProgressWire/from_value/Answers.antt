use Rattle.std.proofs.Common.{refl, ap, rules}
use Rattle.std.specs.Prelude.{Err}
use Rattle.serde_json.specs.View.{view}
use Rattle.lsp_shape.specs.declared.why.Wanted.TheVariants as wants
use Rattle.lsp_shape.proofs.Told.{form_told, wants_other}
use Rattle.lsp_work.specs.Progress.{work_done_progress_row}
use Rattle.lsp_work.specs.Progress.{work_done_progress_begin_row}
use Rattle.lsp_work.specs.Progress.{work_done_progress_report_row}
use Rattle.lsp_work.specs.Progress.{work_done_progress_end_row}
use Rattle.lsp_work.proofs.progress.WorkDoneProgressWire.from_value.Goals as goal

pub returns-in_err-form-in-Some-begin-clause-unfit : goal.returns-in_err-form-in-Some-begin-clause-unfit
unfolding work_done_progress_row work_done_progress_begin_row work_done_progress_report_row work_done_progress_end_row
returns-in_err-form-in-Some-begin-clause-unfit c =
    form_told c.from_residual.result c.in_err-form-in-Some-begin.field-0.0 work_done_progress_row.shape (view c.args.value.now) refl c.from_residual.ensures.1 (λ why is. c.in_err-form-in-Some-begin.ensures.refuses why (ap Err is))
    (λ why is. let none = c.in_err-form-in-Some-begin.ensures.unfit why (ap Err is) in search rules)

pub returns-in_err-form-in-Some-report-clause-unfit : goal.returns-in_err-form-in-Some-report-clause-unfit
unfolding work_done_progress_row work_done_progress_begin_row work_done_progress_report_row work_done_progress_end_row
returns-in_err-form-in-Some-report-clause-unfit c =
    form_told c.from_residual-in_err-form-in-Some-report.result c.in_err-form-in-Some-report.field-0.0 work_done_progress_row.shape (view c.args.value.now) refl c.from_residual-in_err-form-in-Some-report.ensures.1 (λ why is. c.in_err-form-in-Some-report.ensures.refuses why (ap Err is))
    (λ why is. let none = c.in_err-form-in-Some-report.ensures.unfit why (ap Err is) in search rules)

pub returns-in_err-form-in-Some-end-clause-unfit : goal.returns-in_err-form-in-Some-end-clause-unfit
unfolding work_done_progress_row work_done_progress_begin_row work_done_progress_report_row work_done_progress_end_row
returns-in_err-form-in-Some-end-clause-unfit c =
    form_told c.from_residual-in_err-form-in-Some-end.result c.in_err-form-in-Some-end.field-0.0 work_done_progress_row.shape (view c.args.value.now) refl c.from_residual-in_err-form-in-Some-end.ensures.1 (λ why is. c.in_err-form-in-Some-end.ensures.refuses why (ap Err is))
    (λ why is. let none = c.in_err-form-in-Some-end.ensures.unfit why (ap Err is) in search rules)

pub returns-in_default-clause-unfit : goal.returns-in_default-clause-unfit
unfolding work_done_progress_row work_done_progress_begin_row work_done_progress_report_row work_done_progress_end_row
returns-in_default-clause-unfit c =
    wants_other wants.Form work_done_progress_row.shape (view c.args.value.now) c.wanted.result c.wanted.ensures.refuses refl refl (search rules)
