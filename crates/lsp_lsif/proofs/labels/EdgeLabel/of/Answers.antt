use Rattle.std.proofs.Common.{◌≡◌, ◌∙◌, None, option_map, sym, ap}
use Rattle.serde_json.specs.View.{view}
use Rattle.lsp_shape.specs.Read.{read}
use Rattle.lsp_lsif.specs.Edge.{edge_row}
use Rattle.lsp_lsif.proofs.Labelled.{edge-untold, edge-told}
use Rattle.lsp_lsif.proofs.labels.EdgeLabel.of.Goals as goal

pub returns-in_err-tag : goal.returns-in_err-tag
returns-in_err-tag c =
    let unread : read edge_row.shape (view c.args.value.now) ≡ None = edge-untold (view c.args.value.now) (sym c.tag.ensures ∙ ap (option_map _) c.in_err-tag.was) in
    rw c.from_residual.ensures unread

pub returns : goal.returns
returns c =
    edge-told c.in_ok-tag.field-0.now (view c.args.value.now) c.named.result (sym c.tag.ensures ∙ ap (option_map _) c.in_ok-tag.was) c.named.ensures
