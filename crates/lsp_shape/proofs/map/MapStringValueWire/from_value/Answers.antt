use Rattle.std.proofs.Common.{ap, refl, is_some}
use Rattle.serde_json.specs.View.{view}
use Rattle.lsp_shape.specs.Shape.{object_shape}
use Rattle.lsp_shape.specs.declared.why.Wanted.TheVariants as wants
use Rattle.lsp_shape.proofs.Entries.{members-clone, object_read}
use Rattle.lsp_shape.proofs.Told.{wants_kind, gave, gave_none, is_object}
use Rattle.lsp_shape.proofs.map.MapStringValueWire.from_value.Goals as goal

pub returns-in-None-clause-unfit : goal.returns-in-None-clause-unfit
returns-in-None-clause-unfit c = wants_kind wants.Object object_shape (view c.args.value.now) c.wanted.result c.wanted.ensures.refuses refl (ap is_some (gave_none _ c.as_object.ensures c.in-None.is))

pub returns-in_ok-clone-in-Some-clause-read : goal.returns-in_ok-clone-in-Some-clause-read
returns-in_ok-clone-in-Some-clause-read c =
    object_read c.in-Some.members.now c.in_ok-clone-in-Some.field-0 (view c.args.value.now) (is_object (view c.args.value.now) _ (gave _ c.as_object.ensures c.in-Some.is)) (members-clone _ _ c.in_ok-clone-in-Some.ensures.cases)
