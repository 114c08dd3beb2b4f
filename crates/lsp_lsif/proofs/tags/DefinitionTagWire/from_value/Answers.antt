use Rattle.std.proofs.Common.{refl, ap}
use Rattle.std.specs.Prelude.{Err}
use Rattle.lsp_shape.proofs.Refusals.{passed}
use Rattle.lsp_lsif.specs.Tags.{definition_tag_row}
use Rattle.lsp_lsif.proofs.tags.DefinitionTagWire.from_value.Goals as goal

pub returns-in_err-text-clause-unfit : goal.returns-in_err-text-clause-unfit
unfolding definition_tag_row
returns-in_err-text-clause-unfit c = passed c.from_residual.result c.in_err-text.field-0.0 _ c.from_residual.ensures.1 (λ why is. c.in_err-text.ensures.unfit why (ap Err is) definition_tag_row.shape refl (refl, refl, refl, refl, refl))
