use Rattle.std.proofs.Common.{ap, sym, ◌∙◌, arith}
use Rattle.serde_json.specs.View.{view}
use Rattle.serde_json.proofs.Views.{view-Array}
use Rattle.lsp_shape.proofs.Refusals.{no_member, found_member}
use Rattle.lsp_shape.proofs.Steps.{item_down, no_item_down}
use Rattle.lsp_shape.proofs.unfit.step_down.Goals as goal

pub returns-in-Some : goal.returns-in-Some
returns-in-Some c = sym (item_down c.args.number c.from.result (view c.args.value.now) _ (omega arith) (found_member c.get.result c.in-Some.item _ c.get.ensures c.in-Some.is))

pub returns-in-None : goal.returns-in-None
returns-in-None c =
    sym (no_item_down c.args.number c.from.result (view c.args.value.now) _ (ap view c.in-Array.is ∙ view-Array c.in-Array.field-0) (omega arith) (no_member c.get.result _ c.get.ensures c.in-None.is))
