-- One message more.
use Rattle.std.proofs.Common.{◌++◌, List, ap, sym, subst, ◌∙◌, append_assoc}
use Rattle.std.specs.Vec.Iter.{into_iter_items}
use Rattle.lsp_rpc.specs.Message.{message_has_float}
use Rattle.lsp_rpc.specs.Shown.{show_message}
use Rattle.lsp_rpc.specs.declared.message.Message.{Message}
use Rattle.lsp_frame.specs.Codec.{frame_text}
use Rattle.lsp_proxy.specs.declared.side.Side.{Side}
use Rattle.lsp_proxy.specs.Sent.{all_sent}
use Rattle.lsp_relay.specs.Floats.{AreFloatFree}
use Rattle.lsp_relay.specs.Relay.{sent_frames}
use Rattle.lsp_relay.specs.Notes.{note_of}
use Rattle.lsp_relay.proofs.NoteLemmas.{note_free}
use Rattle.lsp_relay.proofs.carrier.push_notes.Goals as goal

pub loop-side-preserved : goal.loop-side-preserved
loop-side-preserved c =
    let before = c.loop-side.out.items in
    let left = into_iter_items c.next.new.self in
    let coming = c.in-Some.ensures.steps.0 in
    let text = frame_text (note_of (c.in-Some.side, show_message c.in-Some.message)) in
    let free = subst (λ (l : List (Side × Message)). AreFloatFree (all_sent l)) coming c.loop-side.invariant.free in
    record {
      free = free.1;
      framed = ap (λ l. l ++ sent_frames (all_sent left)) (c.in_ok-push_message.ensures.ok ∙ ap (λ m. before ++ frame_text m) c.in_ok-note.ensures)
          ∙ append_assoc before text (sent_frames (all_sent left))
          ∙ ap (λ (l : List (Side × Message)). before ++ sent_frames (all_sent l)) (sym coming)
          ∙ c.loop-side.invariant.framed;
    }

pub push_message-requires : goal.push_message-requires
push_message-requires c =
    let free = subst (λ (l : List (Side × Message)). AreFloatFree (all_sent l)) c.in-Some.ensures.steps.0 c.loop-side.invariant.free in
    ap message_has_float c.in_ok-note.ensures ∙ note_free (c.in-Some.side, show_message c.in-Some.message) free.0
