use Rattle.std.proofs.lemmas.Result.{IfOk-weaker}
use Rattle.serde_json.specs.View.{view}
use Rattle.lsp_shape.specs.FloatsRead.{read_floatless}
use Rattle.lsp_shape.proofs.Refusals.{unfit_none}
use Rattle.lsp_shape.proofs.law.read_value.Goals as goal

pub returns-clause-floatless : goal.returns-clause-floatless
returns-clause-floatless g c = λ n. IfOk-weaker c.from_value.result _ _ (λ x is. read_floatless g.T.Wire.shape (view c.args.value.now) (g.T.Wire.shown x) n is) c.from_value.ensures.read

pub returns-clause-unfit : goal.returns-clause-unfit
returns-clause-unfit g c = unfit_none c.from_value.result c.from_value.ensures.unfit
