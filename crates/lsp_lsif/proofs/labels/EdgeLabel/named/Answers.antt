use Rattle.lsp_lsif.specs.Edge.{edge_row}
use Rattle.lsp_lsif.specs.Labels.{labels}
use Rattle.lsp_lsif.proofs.Tagged.{unnamed}
use Rattle.lsp_lsif.proofs.labels.EdgeLabel.named.Goals as goal

pub returns-in_default : goal.returns-in_default
unfolding edge_row
returns-in_default c =
    unnamed c.args.text.now (labels edge_row.shape) (c.in_default.not-contains, (c.in_default.not-moniker, (c.in_default.not-nextMoniker, (c.in_default.not-next, (c.in_default.not-packageInformation, (c.in_default.not-item, (c.in_default.not-text, (c.in_default.not-text-2, (c.in_default.not-text-3, (c.in_default.not-text-4, (c.in_default.not-text-5, (c.in_default.not-text-6, (c.in_default.not-text-7, (c.in_default.not-text-8, (c.in_default.not-text-9, (c.in_default.not-text-10, tt))))))))))))))))
