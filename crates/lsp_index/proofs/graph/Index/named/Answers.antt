-- One more edge, and all of them.
use Rattle.std.proofs.Common.{◌∙◌, sym, ap, map, fold, [], arith}
use Rattle.std.proofs.lemmas.List.{take_all}
use Rattle.lsp_uri.specs.Uri.{uri_text}
use Rattle.lsp_index.specs.Shown.{show_outgoing}
use Rattle.lsp_index.specs.Queries.{with_contained}
use Rattle.lsp_index.proofs.SetLemmas.{fold_shown_more}
use Rattle.lsp_index.proofs.graph.Index.named.Goals as goal

pub loop-outgoing-preserved : goal.loop-outgoing-preserved
loop-outgoing-preserved c = λ g kept.
    c.in_ok-add_contained.ensures g kept ∙ ap (λ l. with_contained g (uri_text c.args.uri.now) l (show_outgoing c.outgoing-item.result)) (c.loop-outgoing.invariant g kept)
    ∙ sym (fold_shown_more (with_contained g (uri_text c.args.uri.now)) show_outgoing [] c.deref-outgoing-items.result.now c.loop-outgoing.outgoing-index c.outgoing-item.result (omega arith) c.outgoing-item.is)

pub returns : goal.returns
returns c = λ g kept.
    let list = c.deref-outgoing-items.result.now in
    c.loop-outgoing.invariant g kept
    ∙ ap (fold (with_contained g (uri_text c.args.uri.now)) [])
    (ap (map show_outgoing) (take_all c.loop-outgoing.outgoing-index list c.loop-outgoing-test.false ∙ c.deref-outgoing-items.ensures.value) ∙ kept.contained)
