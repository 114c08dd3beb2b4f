-- The frames so far, and those to the editors that are left.
use Rattle.std.proofs.Common.{◌≡◌, ◌++◌, drop}
use Rattle.lsp_rpc.specs.Shown.{show_request}
use Rattle.lsp_relay.specs.Broadcast.{sent_to}
use Rattle.lsp_relay.specs.Relay.{sent_frames}
use Rattle.lsp_relay.proofs.broadcast.push_broadcast.Given as goal

abbrev pub invariant-loop-k : goal.invariant-loop-k
invariant-loop-k l =
    l.out.items ++ sent_frames (sent_to (show_request l.fn.note) (drop l.k-index l.editors))
    ≡ l.initial.out.items ++ sent_frames (sent_to (show_request l.fn.note) l.editors)
