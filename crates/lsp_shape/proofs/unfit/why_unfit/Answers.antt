use Rattle.std.proofs.Common.{List, ℕ, ap, ◌∙◌}
use Rattle.std.specs.Prelude.{Err}
use Rattle.serde_json.specs.View.{view}
use Rattle.lsp_shape.specs.Read.{read}
use Rattle.lsp_shape.specs.Why.{path_by}
use Rattle.lsp_shape.proofs.Refusals.{moved, refuses_none}
use Rattle.lsp_shape.proofs.unfit.why_unfit.Goals as goal

pub returns-in_ok-path_of-in-Err-Unfit-clause-reason : goal.returns-in_ok-path_of-in-Err-Unfit-clause-reason
returns-in_ok-path_of-in-Err-Unfit-clause-reason g c =
    let refuses = c.from_value.ensures.unfit c.in-Err-Unfit.why (c.in-Err-Unfit.is ∙ ap Err c.in-Err-Unfit.field-0-is) in
    moved (read g.T.Wire.shape) (view c.args.value.now) _ _ _ _
    (c.in_ok-path_of-in-Err-Unfit.ensures ∙ ap (λ (ns : List ℕ). path_by ns (view c.args.value.now)) c.steps.ensures) c.wanted.ensures refuses.fails.reason

pub returns-in_ok-path_of-in-Err-Unfit-clause-unfit : goal.returns-in_ok-path_of-in-Err-Unfit-clause-unfit
returns-in_ok-path_of-in-Err-Unfit-clause-unfit g c =
    λ _. refuses_none (c.from_value.ensures.unfit c.in-Err-Unfit.why (c.in-Err-Unfit.is ∙ ap Err c.in-Err-Unfit.field-0-is))
