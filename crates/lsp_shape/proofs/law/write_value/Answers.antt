use Rattle.std.proofs.Common.{ap, ◌∙◌}
use Rattle.std.proofs.lemmas.Result.{IfOk-weaker}
use Rattle.serde_json.specs.Written.{has_float}
use Rattle.lsp_shape.specs.FloatsWritten.{write_floatless}
use Rattle.lsp_shape.proofs.law.write_value.Goals as goal

pub returns-clause-floatless : goal.returns-clause-floatless
returns-clause-floatless g c = λ n. IfOk-weaker c.to_value.result _ _ (λ v is. ap has_float is ∙ write_floatless g.T.Wire.shape (g.T.Wire.shown c.args.value.now) n) c.to_value.ensures.written
