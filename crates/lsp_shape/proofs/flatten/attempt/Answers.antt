use Rattle.std.proofs.Common.{ap, ◌∙◌}
use Rattle.std.specs.Prelude.{Err}
use Rattle.lsp_shape.proofs.Refusals.{refuses_none}
use Rattle.lsp_shape.proofs.flatten.attempt.Goals as goal

pub returns-in-Err-Unfit : goal.returns-in-Err-Unfit
returns-in-Err-Unfit g c = refuses_none (c.from_value.ensures.unfit c.in-Err-Unfit.field-0-0 (c.in-Err-Unfit.is ∙ ap Err c.in-Err-Unfit.field-0-is))
