use Rattle.lsp_shape.proofs.Refusals.{of_rest}
use Rattle.lsp_shape.proofs.object.Reader.rest.Goals as goal

pub returns-clause-unfit : goal.returns-clause-unfit
returns-clause-unfit g c = λ why is t beside every. of_rest g.T.Wire.shape _ g.K.Key.is_key (c.rest.ensures.unfit why is) t beside every
