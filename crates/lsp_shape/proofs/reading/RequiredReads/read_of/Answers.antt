use Rattle.std.proofs.Common.{subst, sym}
use Rattle.lsp_shape.specs.Why.{Refuses}
use Rattle.lsp_shape.proofs.reading.RequiredReads.read_of.Goals as goal

pub returns-clause-unfit : goal.returns-clause-unfit
returns-clause-unfit g c why is t named = subst (λ d. Refuses t d why) (sym c.requires) (c.field.ensures.unfit why is t named)
