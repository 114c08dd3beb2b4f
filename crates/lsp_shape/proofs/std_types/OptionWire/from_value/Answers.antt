use Rattle.std.proofs.Common.{◌≡◌, false, ap, rules}
use Rattle.std.specs.Prelude.{Err, is_some}
use Rattle.serde_json.specs.Find.{as_null}
use Rattle.serde_json.specs.View.{view}
use Rattle.lsp_shape.proofs.Refusals.{passed, maybe_refuses}
use Rattle.lsp_shape.proofs.std_types.OptionWire.from_value.Goals as goal

pub returns-in_err-from_value-clause-unfit : goal.returns-in_err-from_value-clause-unfit
returns-in_err-from_value-clause-unfit g c =
    let apart : is_some (as_null (view c.args.value.now)) ≡ false = search rules in
    passed c.from_residual.result c.in_err-from_value.field-0.0 _ c.from_residual.ensures.1 (λ why is. maybe_refuses apart (c.in_err-from_value.ensures.unfit why (ap Err is)))
