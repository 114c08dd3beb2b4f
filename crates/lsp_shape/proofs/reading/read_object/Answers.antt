use Rattle.std.proofs.Common.{ap}
use Rattle.std.specs.Prelude.{Err}
use Rattle.serde_json.specs.View.{view}
use Rattle.lsp_shape.specs.Why.{Refuses}
use Rattle.lsp_shape.proofs.Refusals.{passed}
use Rattle.lsp_shape.proofs.reading.read_object.Goals as goal

pub returns-in_err-object-clause-unfit : goal.returns-in_err-object-clause-unfit
returns-in_err-object-clause-unfit g c why is t suited named = passed c.from_residual.result c.in_err-object.field-0.0 (λ w. Refuses t (view c.args.value.now) w) c.from_residual.ensures.1 (λ w e. c.in_err-object.ensures.unfit w (ap Err e) t suited) why is

pub returns-clause-unfit : goal.returns-clause-unfit
returns-clause-unfit g c why is t suited named = c.read_of.ensures.unfit why is t named
