use Rattle.std.proofs.Common.{refl, ap}
use Rattle.std.specs.Prelude.{Err}
use Rattle.lsp_shape.proofs.Refusals.{passed}
use Rattle.lsp_offer_text.specs.Sync.{save_options_row}
use Rattle.lsp_offer_text.proofs.sync.SaveOptionsWire.from_value.Goals as goal

pub returns-in_err-include_text-clause-unfit : goal.returns-in_err-include_text-clause-unfit
unfolding save_options_row
returns-in_err-include_text-clause-unfit c = passed c.from_residual.result c.in_err-include_text.field-0.0 _ c.from_residual.ensures.1 (λ why is. c.in_err-include_text.ensures.unfit why (ap Err is) save_options_row.shape refl refl)
