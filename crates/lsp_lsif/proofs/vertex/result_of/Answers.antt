use Rattle.lsp_shape.proofs.Refusals.{unfit_none}
use Rattle.lsp_lsif.proofs.vertex.result_of.Goals as goal

pub returns-clause-unfit : goal.returns-clause-unfit
returns-clause-unfit g c = λ why is. unfit_none c.result_in.result c.result_in.ensures.unfit (c.as_form.ensures.unfit why is)
