-- Which calls of a server wait for `initialize`.
use Rattle.std.proofs.Common.{◌≡◌, ◌≢◌, ◌∙◌, [], refl, ap, true}
use Rattle.std.specs.Prelude.{if◌then◌else◌, pos}
use Rattle.lsp_rpc.specs.Message.{number_id}
use Rattle.lsp_desk.specs.declared.life.Life.{Life}
use Rattle.lsp_desk.specs.declared.life.Life.TheVariants.{Uninitialized, Initializing, Initialized, ShutDown, Exited}
use Rattle.lsp_desk.specs.Lives.{is_exited, holds_back}
use Rattle.lsp_desk.specs.Call.{Call}
use Rattle.lsp_desk.specs.Call as calls
use Rattle.lsp_desk.specs.Reply.{Reply}
use Rattle.lsp_desk.specs.Reply as replies
use Rattle.lsp_desk.specs.Desk.{DeskState, desk_step, asked, told_client}
use Rattle.lsp_desk.specs.Flow.{put_in}
use Rattle.lsp_laws.specs.Gates.{Waits, GatedCallsWait}

held : (life : Life) → life ≢ Initialized → life ≢ ShutDown → holds_back life ≡ true
held Uninitialized p q = refl
held Initializing p q = refl
held Initialized p q = absurd (p refl)
held ShutDown p q = absurd (q refl)
held Exited p q = refl

waits_so : (d : DeskState) (call : Call) (reply : Reply) → put_in call reply ≡ [] → desk_step d call ≡ (reply, d) → Waits d call reply
waits_so d call reply none is = record {
  replied = ap (λ (x : Reply × DeskState). x.0) is;
  same = ap (λ (x : Reply × DeskState). x.1) is;
  unsent = ap (λ (x : Reply × DeskState). put_in call x.0) is ∙ none;
}

pub gated_calls_wait_lem : GatedCallsWait
gated_calls_wait_lem = record {
  ask = λ d method params p q. waits_so d (calls.Ask method params true) replies.NotInitialized refl
      (ap (λ b. if b then (replies.NotInitialized, d) else (if is_exited d.life then (replies.Exited, d) else asked d (number_id (pos d.next_id)) method params)) (held d.life p q));
  tell = λ d method params p q. waits_so d (calls.Tell method params true) replies.Suppressed refl
      (ap (λ b. if b then (replies.Suppressed, d) else (if is_exited d.life then (replies.Exited, d) else told_client d method params)) (held d.life p q));
}
