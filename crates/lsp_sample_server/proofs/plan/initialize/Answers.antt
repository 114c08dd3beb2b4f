-- The default result is written as an object without capabilities.
use Rattle.std.proofs.Common.{◌≡◌, ◌∙◌}
use Rattle.std.proofs.lemmas.Result.{IfOk-weaker}
use Rattle.lsp_sample_server.proofs.PlanLemmas.{bare_initialize}
use Rattle.lsp_sample_server.proofs.plan.initialize.Goals as goal

pub returns : goal.returns
returns c = IfOk-weaker c.offering.result _ _ (λ r is. is ∙ bare_initialize c.no_capabilities.result c.no_capabilities.ensures) c.offering.ensures
