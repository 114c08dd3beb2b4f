use Rattle.std.proofs.Common.{ap}
use Rattle.std.specs.Prelude.{Err}
use Rattle.serde_json.specs.View.{view}
use Rattle.lsp_shape.specs.Why.{Refuses}
use Rattle.lsp_shape.proofs.Refusals.{passed}
use Rattle.lsp_shape.proofs.reading.Tuple2Reads.read_of.Goals as goal

pub returns-in_err-read_of-clause-unfit : goal.returns-in_err-read_of-clause-unfit
returns-in_err-read_of-clause-unfit g c why is t named = passed c.from_residual.result c.in_err-read_of.field-0.0 (λ w. Refuses t (view c.args.value.now) w) c.from_residual.ensures.1 (λ w e. c.in_err-read_of.ensures.unfit w (ap Err e) t named.0) why is

pub returns-in_err-read_of-2-clause-unfit : goal.returns-in_err-read_of-2-clause-unfit
returns-in_err-read_of-2-clause-unfit g c why is t named = passed c.from_residual-in_err-read_of-2.result c.in_err-read_of-2.field-0.0 (λ w. Refuses t (view c.args.value.now) w) c.from_residual-in_err-read_of-2.ensures.1 (λ w e. c.in_err-read_of-2.ensures.unfit w (ap Err e) t named.1) why is
