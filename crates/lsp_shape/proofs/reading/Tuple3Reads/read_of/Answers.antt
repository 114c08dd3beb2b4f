use Rattle.std.proofs.Common.{ap}
use Rattle.std.specs.Prelude.{Err}
use Rattle.serde_json.specs.View.{view}
use Rattle.lsp_shape.specs.Why.{Refuses}
use Rattle.lsp_shape.proofs.Refusals.{passed}
use Rattle.lsp_shape.proofs.reading.Tuple3Reads.read_of.Goals as goal

pub returns-in_err-a-clause-unfit : goal.returns-in_err-a-clause-unfit
returns-in_err-a-clause-unfit g c why is t named = passed c.from_residual.result c.in_err-a.field-0.0 (λ w. Refuses t (view c.args.value.now) w) c.from_residual.ensures.1 (λ w e. c.in_err-a.ensures.unfit w (ap Err e) t ((named.0, named.1), named.2)) why is
