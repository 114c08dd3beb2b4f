use Rattle.lsp_shape.proofs.Refusals.{found_member, of_supported, supported_told}
use Rattle.lsp_shape.proofs.member.supported.Goals as goal

pub returns-in-Some-clause-alone : goal.returns-in-Some-clause-alone
returns-in-Some-clause-alone g c = λ why is. supported_told (found_member c.find.result c.in-Some.value _ c.find.ensures c.in-Some.is) c.supported_value.ensures.unfit (c.told_member.ensures.unfit why is)

pub returns-in-Some-clause-unfit : goal.returns-in-Some-clause-unfit
returns-in-Some-clause-unfit g c = λ why is t named. of_supported (supported_told (found_member c.find.result c.in-Some.value _ c.find.ensures c.in-Some.is) c.supported_value.ensures.unfit (c.told_member.ensures.unfit why is)) t named
