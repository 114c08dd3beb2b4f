use Rattle.std.proofs.Common.{refl, ap, inl}
use Rattle.std.specs.Prelude.{Err}
use Rattle.lsp_shape.proofs.Refusals.{passed}
use Rattle.lsp_offer_text.specs.SignatureHelp.{signature_help_options_row}
use Rattle.lsp_names.specs.Progress.{work_done_progress_options_row}
use Rattle.lsp_offer_text.proofs.signature_help.SignatureHelpOptionsWire.from_value.Goals as goal

pub returns-in_err-trigger_characters-clause-unfit : goal.returns-in_err-trigger_characters-clause-unfit
unfolding signature_help_options_row work_done_progress_options_row
returns-in_err-trigger_characters-clause-unfit c = passed c.from_residual.result c.in_err-trigger_characters.field-0.0 _ c.from_residual.ensures.1 (λ why is. c.in_err-trigger_characters.ensures.unfit why (ap Err is) signature_help_options_row.shape refl (refl, refl, inl refl))
