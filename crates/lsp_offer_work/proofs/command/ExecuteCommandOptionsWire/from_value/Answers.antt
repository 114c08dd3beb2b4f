use Rattle.std.proofs.Common.{refl, ap, inl}
use Rattle.std.specs.Prelude.{Err}
use Rattle.lsp_shape.proofs.Refusals.{passed}
use Rattle.lsp_offer_work.specs.Command.{execute_command_options_row}
use Rattle.lsp_names.specs.Progress.{work_done_progress_options_row}
use Rattle.lsp_offer_work.proofs.command.ExecuteCommandOptionsWire.from_value.Goals as goal

pub returns-in_err-commands-clause-unfit : goal.returns-in_err-commands-clause-unfit
unfolding execute_command_options_row work_done_progress_options_row
returns-in_err-commands-clause-unfit c = passed c.from_residual.result c.in_err-commands.field-0.0 _ c.from_residual.ensures.1 (λ why is. c.in_err-commands.ensures.unfit why (ap Err is) execute_command_options_row.shape refl (refl, inl refl))
