use Rattle.std.proofs.Common.{ap, refl}
use Rattle.std.specs.Prelude.{Err}
use Rattle.lsp_shape.proofs.Refusals.{passed, item_told}
use Rattle.lsp_shape.proofs.std_types.read_two.Goals as goal

pub returns-in_err-told_item-clause-unfit : goal.returns-in_err-told_item-clause-unfit
returns-in_err-told_item-clause-unfit c =
    passed c.from_residual.result c.in_err-told_item.field-0.0 _ c.from_residual.ensures.1 (λ why is. item_told refl c.from_value.ensures.unfit (c.in_err-told_item.ensures.unfit why (ap Err is)))

pub returns-in_err-told_item-2-clause-unfit : goal.returns-in_err-told_item-2-clause-unfit
returns-in_err-told_item-2-clause-unfit c =
    passed c.from_residual-in_err-told_item-2.result c.in_err-told_item-2.field-0.0 _ c.from_residual-in_err-told_item-2.ensures.1
    (λ why is. item_told refl c.from_value-2.ensures.unfit (c.in_err-told_item-2.ensures.unfit why (ap Err is)))
