-- Handlers of whose values what is seen determines each poll.
use Rattle.std.specs.Prelude.{◌≡◌, List}
use Rattle.lsp_desk.specs.Desk.{DeskState}
use Rattle.lsp_desk.specs.Trace.{DeskEntry, Replays}
use Rattle.lsp_session.specs.Semantics.{Semantics, Phase, Progress, Polls}

-- of two values of which the same is seen the method tables are the same, and of two polls from them, whose calls the desk
-- replied to, both make the same calls, come to the same end and leave the same to be seen
pub record IsDetermined {H C T X : Type 0} (semantics : Semantics H C T) (show : H → X) : Type 0 where
  pub finds : (s t : H) → show t ≡ show s → semantics.find t ≡ semantics.find s
  pub ends : (d d2 d3 : DeskState) (s t : H) (phase : Phase semantics.Call semantics.Task) (asked asked2 : List DeskEntry) (s2 t2 : H) (progress progress2 : Progress semantics.Task) → show t ≡ show s
      → Polls semantics s phase asked s2 progress → Polls semantics t phase asked2 t2 progress2 → Replays d asked d2 → Replays d asked2 d3 → (asked2 ≡ asked) × (show t2 ≡ show s2) × (progress2 ≡ progress)
