use Rattle.std.proofs.Common.{ap, refl, is_some}
use Rattle.serde_json.specs.View.{view}
use Rattle.lsp_shape.specs.declared.why.Wanted.TheVariants as wants
use Rattle.lsp_shape.proofs.Refusals.{said, other_kind}
use Rattle.lsp_shape.proofs.Told.{gave, gave_none, is_object}
use Rattle.lsp_shape.proofs.object.Reader.new.Goals as goal

pub returns-in-Some-clause-ok : goal.returns-in-Some-clause-ok
returns-in-Some-clause-ok c = is_object (view c.args.value.now) _ (gave _ c.as_object.ensures c.in-Some.is)

pub returns-in-None-clause-unfit : goal.returns-in-None-clause-unfit
returns-in-None-clause-unfit c = λ why is t suited.
    let none = ap is_some (gave_none _ c.as_object.ensures c.in-None.is) in
    c.wanted.ensures.refuses why (said _ c.wanted.result refl is) t (view c.args.value.now) (suited, λ e. none, other_kind t wants.Object suited (view c.args.value.now) none)
