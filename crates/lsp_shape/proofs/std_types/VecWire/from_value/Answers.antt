use Rattle.std.proofs.Common.{ap, sym, refl, subst, is_some}
use Rattle.serde_json.specs.Data.{Data}
use Rattle.serde_json.specs.View.{view}
use Rattle.lsp_shape.specs.Shape.{list}
use Rattle.lsp_shape.specs.Why.{Refuses}
use Rattle.lsp_shape.specs.declared.why.Wanted.TheVariants as wants
use Rattle.lsp_shape.proofs.Told.{wants_kind, gave, gave_none, is_array}
use Rattle.lsp_shape.proofs.std_types.VecWire.from_value.Goals as goal

pub returns-in-Some-clause-unfit : goal.returns-in-Some-clause-unfit
returns-in-Some-clause-unfit g c = λ why is. subst (λ (d : Data). Refuses (list g.T.Wire.shape) d why) (sym (is_array (view c.args.value.now) _ (gave _ c.as_array.ensures c.in-Some.is))) (c.read_all.ensures.unfit why is)

pub returns-in-None-clause-unfit : goal.returns-in-None-clause-unfit
returns-in-None-clause-unfit g c = wants_kind wants.List (list g.T.Wire.shape) (view c.args.value.now) c.wanted.result c.wanted.ensures.refuses refl (ap is_some (gave_none _ c.as_array.ensures c.in-None.is))
