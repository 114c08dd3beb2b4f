use Rattle.std.proofs.Common.{ap, refl, is_some}
use Rattle.serde_json.specs.View.{view}
use Rattle.lsp_shape.specs.Shape.{string_shape}
use Rattle.lsp_shape.specs.declared.why.Wanted.TheVariants as wants
use Rattle.lsp_shape.proofs.Told.{wants_kind, gave_none}
use Rattle.lsp_shape.proofs.std_types.StringWire.from_value.Goals as goal

pub returns-in-None-clause-unfit : goal.returns-in-None-clause-unfit
returns-in-None-clause-unfit c = wants_kind wants.Text string_shape (view c.args.value.now) c.wanted.result c.wanted.ensures.refuses refl (ap is_some (gave_none _ c.as_str.ensures c.in-None.is))
