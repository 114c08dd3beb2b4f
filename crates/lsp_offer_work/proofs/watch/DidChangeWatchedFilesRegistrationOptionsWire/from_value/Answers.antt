use Rattle.std.proofs.Common.{refl, ap}
use Rattle.std.specs.Prelude.{Err}
use Rattle.lsp_shape.proofs.Refusals.{passed}
use Rattle.lsp_offer_work.specs.Watch.{did_change_watched_files_registration_options_row}
use Rattle.lsp_offer_work.proofs.watch.DidChangeWatchedFilesRegistrationOptionsWire.from_value.Goals as goal

pub returns-in_err-watchers-clause-unfit : goal.returns-in_err-watchers-clause-unfit
unfolding did_change_watched_files_registration_options_row
returns-in_err-watchers-clause-unfit c = passed c.from_residual.result c.in_err-watchers.field-0.0 _ c.from_residual.ensures.1 (λ why is. c.in_err-watchers.ensures.unfit why (ap Err is) did_change_watched_files_registration_options_row.shape refl refl)
