-- A hover holds no float.
use Rattle.std.proofs.Common.{◌∙◌, sym, ap, cond}
use Rattle.serde_json.specs.Written.{has_float, compact_text}
use Rattle.lsp_index.specs.Entries.{hover_data}
use Rattle.lsp_index.specs.Graph.{hover_vertex, other_vertex}
use Rattle.lsp_index.proofs.HoverLemmas.{written_hover_free}
use Rattle.lsp_index.proofs.entry.hover_node.Goals as goal

pub returns-in_ok-to_string-clause-node : goal.returns-in_ok-to_string-clause-node
returns-in_ok-to_string-clause-node c =
    let written = c.in_ok-value.ensures.written in
    ap hover_vertex (c.in_ok-to_string.ensures.text (ap has_float written ∙ written_hover_free c.args.hover.now) ∙ ap compact_text written)
    ∙ sym (ap (λ b. cond b (hover_data c.args.hover.now) other_vertex) c.if-is_asked.true)
