use Rattle.lsp_shape.proofs.Refusals.{unfit_none}
use Rattle.lsp_shape.proofs.flatten.form.Goals as goal

pub returns-clause-unfit : goal.returns-clause-unfit
returns-clause-unfit g c = λ why is. unfit_none c.from_value.result c.from_value.ensures.unfit (c.as_form.ensures.unfit why is)
