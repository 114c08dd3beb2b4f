use Rattle.std.proofs.Common.{refl, ap, inl, inr}
use Rattle.std.specs.Prelude.{Err}
use Rattle.lsp_shape.proofs.Refusals.{passed}
use Rattle.lsp_report.specs.Workspace.{workspace_diagnostic_params_row}
use Rattle.lsp_base.specs.Progress.{work_done_progress_params_row}
use Rattle.lsp_base.specs.Progress.{partial_result_params_row}
use Rattle.lsp_report.proofs.workspace.WorkspaceDiagnosticParamsWire.from_value.Goals as goal

pub returns-in_err-identifier-clause-unfit : goal.returns-in_err-identifier-clause-unfit
unfolding workspace_diagnostic_params_row work_done_progress_params_row partial_result_params_row
returns-in_err-identifier-clause-unfit c = passed c.from_residual.result c.in_err-identifier.field-0.0 _ c.from_residual.ensures.1 (λ why is. c.in_err-identifier.ensures.unfit why (ap Err is) workspace_diagnostic_params_row.shape refl (refl, refl, inl refl, inr (inl refl)))
