use Rattle.lsp_shape.proofs.Refusals.{of_flat}
use Rattle.lsp_shape.proofs.flatten.flat.Goals as goal

pub returns-clause-unfit : goal.returns-clause-unfit
returns-clause-unfit g c = λ why is t has. of_flat (c.from_value.ensures.unfit why is) t has
