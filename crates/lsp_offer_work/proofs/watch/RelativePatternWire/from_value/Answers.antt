use Rattle.std.proofs.Common.{refl, ap}
use Rattle.std.specs.Prelude.{Err}
use Rattle.lsp_shape.proofs.Refusals.{passed}
use Rattle.lsp_offer_work.specs.Watch.{relative_pattern_row}
use Rattle.lsp_offer_work.proofs.watch.RelativePatternWire.from_value.Goals as goal

pub returns-in_err-base_uri-clause-unfit : goal.returns-in_err-base_uri-clause-unfit
unfolding relative_pattern_row
returns-in_err-base_uri-clause-unfit c = passed c.from_residual.result c.in_err-base_uri.field-0.0 _ c.from_residual.ensures.1 (λ why is. c.in_err-base_uri.ensures.unfit why (ap Err is) relative_pattern_row.shape refl (refl, refl))
