use Rattle.std.proofs.Common.{ap, sym, subst, refl, ◌∙◌, is_some}
use Rattle.std.proofs.lemmas.Result.{IfOk-weaker}
use Rattle.serde_json.specs.Data.{Data, array}
use Rattle.serde_json.specs.View.{view, items_view}
use Rattle.lsp_shape.specs.Shape.{pair}
use Rattle.lsp_shape.specs.Read.{read}
use Rattle.lsp_shape.specs.Why.{Refuses}
use Rattle.lsp_shape.specs.declared.why.Wanted.TheVariants as wants
use Rattle.lsp_shape.proofs.Told.{wants_kind, gave, gave_none, is_array}
use Rattle.lsp_shape.proofs.std_types.ArrayU322Wire.from_value.Goals as goal

pub returns-in-Some-clause-read : goal.returns-in-Some-clause-read
returns-in-Some-clause-read c =
    let is = is_array (view c.args.value.now) _ (gave _ c.as_array.ensures c.in-Some.is) ∙ ap (λ xs. array (items_view xs)) (sym c.as_slice.ensures.value) in
    IfOk-weaker c.read_pair.result _ _ (λ x h. ap (read pair) is ∙ h) c.read_pair.ensures.read

pub returns-in-Some-clause-unfit : goal.returns-in-Some-clause-unfit
returns-in-Some-clause-unfit c = λ why h.
    let is = is_array (view c.args.value.now) _ (gave _ c.as_array.ensures c.in-Some.is) ∙ ap (λ xs. array (items_view xs)) (sym c.as_slice.ensures.value) in
    subst (λ (d : Data). Refuses pair d why) (sym is) (c.read_pair.ensures.unfit why h)

pub returns-in-None-clause-unfit : goal.returns-in-None-clause-unfit
returns-in-None-clause-unfit c = wants_kind wants.List pair (view c.args.value.now) c.wanted.result c.wanted.ensures.refuses refl (ap is_some (gave_none _ c.as_array.ensures c.in-None.is))
