use Rattle.std.proofs.Common.{ap, sym, ◌∙◌, is_some}
use Rattle.std.proofs.lemmas.Result.{IfOk-weaker}
use Rattle.serde_json.specs.View.{view}
use Rattle.lsp_shape.specs.Read.{read, read_or_truth}
use Rattle.lsp_shape.proofs.Refusals.{fails_form, supported_fails, no_truth_read}
use Rattle.lsp_shape.proofs.Told.{is_boolean}
use Rattle.lsp_shape.proofs.member.supported_value.Goals as goal

pub returns-in-Some-clause-read : goal.returns-in-Some-clause-read
returns-in-Some-clause-read g c =
    let is_truth = is_boolean (view c.args.value.now) c.in-Some.is_supported (sym c.as_bool.ensures ∙ c.in-Some.is) in
    IfOk-weaker c.truth_supported.result _ _ (λ x is. ap (read_or_truth (read g.T.Wire.shape)) is_truth ∙ is) c.truth_supported.ensures.read

pub returns-in-Some-clause-unfit : goal.returns-in-Some-clause-unfit
returns-in-Some-clause-unfit g c = λ why is.
    let is_truth = is_boolean (view c.args.value.now) c.in-Some.is_supported (sym c.as_bool.ensures ∙ c.in-Some.is) in
    fails_form (c.truth_supported.ensures.whole why is) (ap (read_or_truth (read g.T.Wire.shape)) is_truth ∙ c.truth_supported.ensures.unfit why is)

pub returns-in-None-clause-read : goal.returns-in-None-clause-read
returns-in-None-clause-read g c =
    IfOk-weaker c.from_value.result _ _ (λ x is. no_truth_read (read g.T.Wire.shape) (view c.args.value.now) (ap is_some (sym c.as_bool.ensures ∙ c.in-None.is)) ∙ is) c.from_value.ensures.read

pub returns-in-None-clause-unfit : goal.returns-in-None-clause-unfit
returns-in-None-clause-unfit g c = λ why is. supported_fails (sym c.as_bool.ensures ∙ c.in-None.is) (c.from_value.ensures.unfit why is)
