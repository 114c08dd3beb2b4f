use Rattle.std.proofs.Common.{refl, ap}
use Rattle.std.specs.Prelude.{Err}
use Rattle.lsp_shape.proofs.Refusals.{passed}
use Rattle.lsp_report.specs.Notebook.{execution_summary_row}
use Rattle.lsp_report.proofs.notebook.ExecutionSummaryWire.from_value.Goals as goal

pub returns-in_err-execution_order-clause-unfit : goal.returns-in_err-execution_order-clause-unfit
unfolding execution_summary_row
returns-in_err-execution_order-clause-unfit c = passed c.from_residual.result c.in_err-execution_order.field-0.0 _ c.from_residual.ensures.1 (λ why is. c.in_err-execution_order.ensures.unfit why (ap Err is) execution_summary_row.shape refl (refl, refl))
