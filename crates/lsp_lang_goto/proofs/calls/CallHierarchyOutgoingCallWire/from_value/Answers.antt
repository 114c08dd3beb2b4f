use Rattle.std.proofs.Common.{refl, ap}
use Rattle.std.specs.Prelude.{Err}
use Rattle.lsp_shape.proofs.Refusals.{passed}
use Rattle.lsp_lang_goto.specs.Calls.{call_hierarchy_outgoing_call_row}
use Rattle.lsp_lang_goto.proofs.calls.CallHierarchyOutgoingCallWire.from_value.Goals as goal

pub returns-in_err-to-clause-unfit : goal.returns-in_err-to-clause-unfit
unfolding call_hierarchy_outgoing_call_row
returns-in_err-to-clause-unfit c = passed c.from_residual.result c.in_err-to.field-0.0 _ c.from_residual.ensures.1 (λ why is. c.in_err-to.ensures.unfit why (ap Err is) call_hierarchy_outgoing_call_row.shape refl (refl, refl))
