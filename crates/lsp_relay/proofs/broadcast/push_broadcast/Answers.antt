-- One editor more.
use Rattle.std.proofs.Common.{rules, ◌+◌, ◌<◌, ◌++◌, List, ℕ, length, get_or, drop, sym, ap, ◌∙◌, append_assoc}
use Rattle.std.proofs.lemmas.List.{drop_more}
use Rattle.lsp_frame.specs.Frames.{framed}
use Rattle.lsp_rpc.specs.Message.{request}
use Rattle.lsp_rpc.specs.Shown.{show_request}
use Rattle.lsp_relay.specs.Broadcast.{text_before_side, text_to, sent_to}
use Rattle.lsp_relay.specs.Relay.{sent_frames}
use Rattle.lsp_relay.proofs.BroadcastLemmas.{sent_frames-next, free_to_some}
use Rattle.lsp_relay.proofs.broadcast.push_broadcast.Goals as goal

pub before_side-requires : goal.before_side-requires
before_side-requires c = free_to_some (show_request c.args.note) c.args.editors.now c.is_empty.result c.is_empty.ensures c.if-is_empty.false c.requires

pub loop-k-preserved : goal.loop-k-preserved
loop-k-preserved c =
    let r = show_request c.args.note in
    let editors = c.args.editors.now in
    let at = c.loop-k.k-index in
    let within : at < length editors = search rules in
    let k = get_or editors at 0 in
    let before = c.loop-k.out.items in
    let frame = framed (text_to (text_before_side (request r)) k) in
    let rest = sent_frames (sent_to r (drop (at + 1) editors)) in
    let one = sent_frames-next r (drop at editors) (drop (at + 1) editors) k (drop_more editors at 0 within) in
    ap (λ (l : List ℕ). l ++ rest) (c.in_ok-push_copy.ensures ∙ ap (λ (t : List ℕ). before ++ framed (text_to t k)) (c.deref.ensures.value ∙ c.in_ok-text.ensures))
    ∙ append_assoc before frame rest ∙ ap (λ (l : List ℕ). before ++ l) (sym one) ∙ c.loop-k.invariant
