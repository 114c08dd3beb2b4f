use Rattle.std.proofs.Common.{ap, ◌∙◌}
use Rattle.std.specs.Prelude.{Err}
use Rattle.serde_json.specs.View.{view}
use Rattle.lsp_shape.proofs.Refusals.{refuses_none}
use Rattle.lsp_shape.proofs.text.read_text.Goals as goal

pub returns-in-Err-Unfit-clause-unfit : goal.returns-in-Err-Unfit-clause-unfit
returns-in-Err-Unfit-clause-unfit g c = λ _.
    (view c.in_ok-value.value, c.in_ok-value.ensures.ok, refuses_none (c.from_value.ensures.unfit c.in-Err-Unfit.field-0-0 (c.in-Err-Unfit.is ∙ ap Err c.in-Err-Unfit.field-0-is)))
