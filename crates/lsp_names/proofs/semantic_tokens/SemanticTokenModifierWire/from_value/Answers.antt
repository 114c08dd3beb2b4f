use Rattle.std.proofs.Common.{ap}
use Rattle.std.specs.Prelude.{Err}
use Rattle.lsp_shape.proofs.Refusals.{passed}
use Rattle.lsp_names.specs.KindText.{text_kind_row}
use Rattle.lsp_names.proofs.semantic_tokens.SemanticTokenModifierWire.from_value.Goals as goal

pub returns-in_err-from_value-clause-unfit : goal.returns-in_err-from_value-clause-unfit
unfolding text_kind_row
returns-in_err-from_value-clause-unfit c = passed c.from_residual.result c.in_err-from_value.field-0.0 _ c.from_residual.ensures.1 (λ why is. c.in_err-from_value.ensures.unfit why (ap Err is))
