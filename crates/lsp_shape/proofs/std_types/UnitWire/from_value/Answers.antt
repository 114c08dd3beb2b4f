use Rattle.std.proofs.Common.{◌≡◌, false, refl, rules, is_some}
use Rattle.serde_json.specs.Find.{as_null}
use Rattle.serde_json.specs.View.{view}
use Rattle.lsp_shape.specs.Shape.{nil}
use Rattle.lsp_shape.specs.declared.why.Wanted.TheVariants as wants
use Rattle.lsp_shape.proofs.Told.{wants_kind}
use Rattle.lsp_shape.proofs.std_types.UnitWire.from_value.Goals as goal

pub returns-else-is_null-clause-unfit : goal.returns-else-is_null-clause-unfit
returns-else-is_null-clause-unfit c =
    let other : is_some (as_null (view c.args.value.now)) ≡ false = search rules in
    wants_kind wants.Null nil (view c.args.value.now) c.wanted.result c.wanted.ensures.refuses refl other
