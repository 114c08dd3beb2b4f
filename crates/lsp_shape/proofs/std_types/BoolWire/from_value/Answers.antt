use Rattle.std.proofs.Common.{ap, sym, refl, ◌∙◌, is_some}
use Rattle.serde_json.specs.View.{view}
use Rattle.lsp_shape.specs.Shape.{truth}
use Rattle.lsp_shape.specs.Read.{read}
use Rattle.lsp_shape.specs.declared.why.Wanted.TheVariants as wants
use Rattle.lsp_shape.proofs.Told.{wants_kind, is_boolean}
use Rattle.lsp_shape.proofs.std_types.BoolWire.from_value.Goals as goal

pub returns-in-Some-clause-read : goal.returns-in-Some-clause-read
returns-in-Some-clause-read c = ap (read truth) (is_boolean (view c.args.value.now) c.in-Some.b (sym c.as_bool.ensures ∙ c.in-Some.is))

pub returns-in-None-clause-unfit : goal.returns-in-None-clause-unfit
returns-in-None-clause-unfit c = wants_kind wants.Boolean truth (view c.args.value.now) c.wanted.result c.wanted.ensures.refuses refl (ap is_some (sym c.as_bool.ensures ∙ c.in-None.is))
