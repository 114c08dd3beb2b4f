-- What a talk leaves of a desk, and what is written of it.
use Rattle.std.specs.Prelude.{◌≡◌, ◌≢◌, ℕ, ◌+◌, ◌*◌, ◌++◌, List, codes, decimal, IsPermutation, Option, None, length}
use Rattle.lsp_desk.specs.declared.call.DeskFault.{DeskFault}
use Rattle.lsp_desk.specs.declared.call.DeskFault.TheVariants as faults
use Rattle.lsp_desk.specs.Call.{Take}
use Rattle.std.specs.Io.KnownBytes.{Appends}
use Rattle.lsp_desk.specs.Trace.{DeskEntry, TraceEntry, entries_of, AllBelow}
use Rattle.lsp_server.specs.Written.{IsPrefixOf}
use Rattle.lsp_shared.specs.declared.view.View.{View}
use Rattle.lsp_shared.specs.declared.view.Item.{Item}
use Rattle.lsp_shared.specs.Rule.{entry_of}
use Rattle.lsp_shared.specs.Steps.{Turned, AddsClients}
use Rattle.lsp_callers.specs.declared.caller.Heard.{Heard}
use Rattle.lsp_callers.specs.Callers.{all_said_of, heard_shares}
use Rattle.lsp_callers.specs.Made.{entries_made}
use Rattle.lsp_callers.specs.Said.{said_by_all}
use Rattle.lsp_callers.specs.Counted.{sent_in, delivered_in}
use Rattle.lsp_talk.specs.Hello.{ServesHello}

-- the history of a desk beside whose session so many callers said so many messages each
pub record HasTalked (clones messages : ℕ) (history : List DeskEntry) : Type 0 where
  -- each of their messages was sent once, and no other was sent
  pub others : List DeskEntry
  pub said : IsPermutation (said_by_all clones messages ++ others) history
  pub silent : sent_in others ≡ 0
  -- it begins with that session, and calls of the callers
  pub trace : List TraceEntry
  pub session : ServesHello trace
  pub rest : List DeskEntry
  pub begins : history ≡ entries_of trace ++ rest
  -- so many were sent, and as many were delivered
  pub sent : sent_in history ≡ clones * messages
  pub delivered : delivered_in history ≡ clones * messages

abbrev pub talk_line : ℕ → ℕ → List ℕ
talk_line sent delivered = codes "sent " ++ decimal sent ++ codes " delivered " ++ decimal delivered ++ codes "\n"

-- the line of this history was written
abbrev pub WroteLine : List DeskEntry → Option (List ℕ) → Option (List ℕ) → Type 0
WroteLine history taken taken_after = Appends taken taken_after (talk_line (sent_in history) (delivered_in history))

-- what begins the line of this history was written, or nothing
pub record WroteLinePart (history : List DeskEntry) (taken taken_after : Option (List ℕ)) : Type 0 where
  pub written : List ℕ
  pub part : IsPrefixOf written (talk_line (sent_in history) (delivered_in history))
  pub writes : Appends taken taken_after written

-- the callers' seats were taken in, and then what the desk held was taken
pub record EndsTalk (old : View) (heard : List Heard) (new : View) : Type 0 where
  pub mid : View
  pub clients : AddsClients old.seen mid.seen
  pub said : entries_made mid ≡ entries_made old ++ all_said_of heard
  pub shares : mid.share ≡ old.share + heard_shares heard
  pub inside : AllBelow (length mid.seen) mid.made
  pub last : Item
  pub asked : (entry_of last).call ≡ Take
  pub answered : (entry_of last).reply ≢ None
  pub turned : Turned mid last new

-- the exit status by the desk's fault
abbrev pub status_of_fault : DeskFault → ℕ
status_of_fault faults.NoMemory = 6
status_of_fault (faults.Spent n) = 7
