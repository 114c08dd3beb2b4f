-- What a server that stopped has written begins what the run of all the bytes writes.
use Rattle.std.specs.Prelude.{◌≡◌, ◌++◌, ℕ, true}
use Rattle.lsp_desk.specs.Meaning.{Meaning}
use Rattle.lsp_frame.specs.Codec.{frames}
use Rattle.lsp_session.specs.Determined.{IsDetermined}
use Rattle.lsp_session.specs.Run.{Order, Picked, served}
use Rattle.lsp_session.specs.Semantics.{Semantics}
use Rattle.lsp_session.specs.State.{State}
use Rattle.lsp_server.specs.Course.{Setting, course}
use Rattle.lsp_server.specs.Items.{stream_items}
use Rattle.lsp_server.specs.Served.{CallBytes, RanFrom, WrotePart}
use Rattle.lsp_server.specs.Written.{IsPrefixOf}

-- over a desk that others don't use, where what is seen of the handlers determines each poll: what was written in a call that
-- stopped begins what a run over all the bytes writes, whichever run it is, for there is one
abbrev pub PartBeginsRun : {H D C T P X : Type 0} → (semantics : Semantics H C T) → Meaning D → Order P → (H → X) → Type 0
PartBeginsRun {H} {D} {P = P} semantics m order show =
    (setting : Setting H D P) → m.alone setting.desk ≡ true → IsDetermined semantics show → (call whole : CallBytes) (size : ℕ) (desk desk2 : D) (last : Picked (State H semantics.Call semantics.Task) P)
    → whole.bytes ≡ call.bytes → (part : WrotePart (course semantics m order setting) call size desk)
    → (ran : RanFrom (course semantics m order setting) whole (served (course semantics m order setting).find (stream_items (course semantics m order setting).codec whole.bytes)) last desk2)
    → IsPrefixOf (frames part.first.out ++ part.written) (frames ran.effect.out)
