use Rattle.std.proofs.Common.{refl, ap}
use Rattle.std.specs.Prelude.{Err}
use Rattle.lsp_shape.proofs.Refusals.{passed}
use Rattle.lsp_offer_work.specs.Watch.{file_system_watcher_row}
use Rattle.lsp_offer_work.proofs.watch.FileSystemWatcherWire.from_value.Goals as goal

pub returns-in_err-glob_pattern-clause-unfit : goal.returns-in_err-glob_pattern-clause-unfit
unfolding file_system_watcher_row
returns-in_err-glob_pattern-clause-unfit c = passed c.from_residual.result c.in_err-glob_pattern.field-0.0 _ c.from_residual.ensures.1 (λ why is. c.in_err-glob_pattern.ensures.unfit why (ap Err is) file_system_watcher_row.shape refl (refl, refl))
