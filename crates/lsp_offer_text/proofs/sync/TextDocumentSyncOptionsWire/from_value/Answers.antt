use Rattle.std.proofs.Common.{refl, ap}
use Rattle.std.specs.Prelude.{Err}
use Rattle.lsp_shape.proofs.Refusals.{passed}
use Rattle.lsp_offer_text.specs.Sync.{text_document_sync_options_row}
use Rattle.lsp_offer_text.proofs.sync.TextDocumentSyncOptionsWire.from_value.Goals as goal

pub returns-in_err-open_close-clause-unfit : goal.returns-in_err-open_close-clause-unfit
unfolding text_document_sync_options_row
returns-in_err-open_close-clause-unfit c = passed c.from_residual.result c.in_err-open_close.field-0.0 _ c.from_residual.ensures.1 (λ why is. c.in_err-open_close.ensures.unfit why (ap Err is) text_document_sync_options_row.shape refl (refl, refl, refl, refl, refl))
