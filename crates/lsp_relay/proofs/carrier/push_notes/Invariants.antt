-- The frames so far, and those of what is left.
use Rattle.std.proofs.Common.{◌≡◌, ◌++◌}
use Rattle.std.specs.Vec.Iter.{into_iter_items}
use Rattle.lsp_proxy.specs.Sent.{all_sent}
use Rattle.lsp_relay.specs.Floats.{AreFloatFree}
use Rattle.lsp_relay.specs.Relay.{sent_frames}
use Rattle.lsp_relay.proofs.carrier.push_notes.Given as goal

abbrev pub invariant-loop-side : goal.invariant-loop-side
invariant-loop-side l = record {
  free : AreFloatFree (all_sent (into_iter_items l.side-iterator));
  framed : l.out.items ++ sent_frames (all_sent (into_iter_items l.side-iterator)) ≡ l.initial.out.items ++ sent_frames (all_sent l.fn.sent.items);
}
