use Rattle.std.proofs.Common.{◌≡◌, ◌++◌, map, drop}
use Rattle.lsp_rpc.specs.Shown.{show_request}
use Rattle.lsp_proxy.specs.Sent.{all_sent}
use Rattle.lsp_proxy.proofs.SentLemmas.{to_editor, kept_back}
use Rattle.lsp_proxy.proofs.outgoing.to_each.Given as goal

-- those so far, the one that is kept back, and those for what is left
abbrev pub invariant-loop-k : goal.invariant-loop-k
invariant-loop-k l =
    all_sent l.sent.items ++ kept_back (show_request l.note) l.last ++ map (to_editor (show_request l.note)) (drop l.k-index l.editors)
    ≡ map (to_editor (show_request l.note)) l.editors
