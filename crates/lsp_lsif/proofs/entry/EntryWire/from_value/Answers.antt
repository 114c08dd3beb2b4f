use Rattle.std.proofs.Common.{refl, ap, inl}
use Rattle.std.specs.Prelude.{Err}
use Rattle.lsp_shape.proofs.Refusals.{passed}
use Rattle.lsp_lsif.specs.Entry.{entry_row}
use Rattle.lsp_lsif.proofs.entry.EntryWire.from_value.Goals as goal

pub returns-in_err-id-clause-unfit : goal.returns-in_err-id-clause-unfit
unfolding entry_row
returns-in_err-id-clause-unfit c = passed c.from_residual.result c.in_err-id.field-0.0 _ c.from_residual.ensures.1 (λ why is. c.in_err-id.ensures.unfit why (ap Err is) entry_row.shape refl (refl, inl refl))
