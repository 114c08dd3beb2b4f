use Rattle.std.proofs.lemmas.Result.{IfOk-weaker}
use Rattle.serde_json.specs.View.{view}
use Rattle.lsp_shape.proofs.ReadsBack.{reads_back}
use Rattle.lsp_shape.proofs.Settled.{same_back, not_clear}
use Rattle.lsp_shape.proofs.Refusals.{unfit_none}
use Rattle.lsp_shape.proofs.law.reads_back.Goals as goal

pub returns-in_err-written-clause-always : goal.returns-in_err-written-clause-always
returns-in_err-written-clause-always g c = reads_back g.T.Wire.shape

pub returns-clause-same : goal.returns-clause-same
returns-clause-same g c =
    IfOk-weaker c.from_value.result _ _ (λ x is. same_back g.T.Wire.shape (g.T.Wire.shown c.args.value.now) (g.T.Wire.shown x) (view c.in_ok-written.written) c.in_ok-written.ensures.written c.in_ok-written.ensures.of_shape is)
    c.from_value.ensures.read

pub returns-clause-fits : goal.returns-clause-fits
returns-clause-fits g c =
    λ e. not_clear g.T.Wire.shape (g.T.Wire.shown c.args.value.now) (view c.in_ok-written.written) c.in_ok-written.ensures.written c.in_ok-written.ensures.of_shape (unfit_none c.from_value.result c.from_value.ensures.unfit e)

pub returns-clause-always : goal.returns-clause-always
returns-clause-always g c = reads_back g.T.Wire.shape
