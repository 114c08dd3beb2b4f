-- Which calls of a server wait for `initialize`.
use Rattle.std.specs.Prelude.{◌≡◌, ◌≢◌, ℕ, true, List, []}
use Rattle.serde_json.specs.Data.{Data}
use Rattle.lsp_desk.specs.declared.life.Life.TheVariants.{Initialized, ShutDown}
use Rattle.lsp_desk.specs.Call.{Call}
use Rattle.lsp_desk.specs.Call as calls
use Rattle.lsp_desk.specs.Reply.{Reply}
use Rattle.lsp_desk.specs.Reply as replies
use Rattle.lsp_desk.specs.Desk.{DeskState, desk_step}
use Rattle.lsp_desk.specs.Flow.{put_in}

-- the call is replied so, and nothing comes of it
pub record Waits (d : DeskState) (call : Call) (reply : Reply) : Type 0 where
  pub replied : (desk_step d call).0 ≡ reply
  -- nothing changes
  pub same : (desk_step d call).1 ≡ d
  -- no message is put in
  pub unsent : put_in call (desk_step d call).0 ≡ []

-- until `initialize` has ended well, and after an exit
pub record GatedCallsWait : Type 0 where
  pub ask : (d : DeskState) (method : List ℕ) (params : Data) → d.life ≢ Initialized → d.life ≢ ShutDown → Waits d (calls.Ask method params true) replies.NotInitialized
  pub tell : (d : DeskState) (method : List ℕ) (params : Data) → d.life ≢ Initialized → d.life ≢ ShutDown → Waits d (calls.Tell method params true) replies.Suppressed
