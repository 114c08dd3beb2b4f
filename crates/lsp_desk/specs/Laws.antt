-- What holds of every desk, whatever is called.
use Rattle.std.specs.Prelude.{◌≡◌, ◌⊎◌, ◌<◌, ◌+◌, ◌++◌, ℕ, true, false, List, [], ◌∷◌}
use Rattle.std.specs.List.{list_any}
use Rattle.lsp_rpc.specs.Message.{ResponseData, null_id}
use Rattle.lsp_rpc.specs.Ids.{same_id}
use Rattle.lsp_desk.specs.declared.life.Life.{Life}
use Rattle.lsp_desk.specs.declared.life.Life.TheVariants.{Uninitialized, Initializing, Exited}
use Rattle.lsp_desk.specs.Lives.{rank}
use Rattle.lsp_desk.specs.Call.{Call, is_client}
use Rattle.lsp_desk.specs.Call as calls
use Rattle.lsp_desk.specs.Reply as replies
use Rattle.lsp_desk.specs.Desk.{DeskState, AwaitedData, desk_step, has_id}
use Rattle.lsp_desk.specs.Trace.{DeskEntry, Replays, times}
use Rattle.lsp_desk.specs.Plain.{takes_no_memory}
use Rattle.lsp_desk.specs.Flow.{all_put, all_taken, all_given, all_answered, open_tickets}

-- no life follows Exited, and a life falls only from Initializing to Uninitialized
pub record LifeGoesOn (d d2 : DeskState) : Type 0 where
  pub ended : d.life ≡ Exited → d2.life ≡ Exited
  pub falls : rank d2.life < rank d.life → (d.life ≡ Initializing) × (d2.life ≡ Uninitialized)

abbrev pub DeskLivesGoOn : Type 0
DeskLivesGoOn = (d : DeskState) (call : Call) → LifeGoesOn d (desk_step d call).1

-- over any entries an end is an end
abbrev pub EndsStay : Type 0
EndsStay = (d d2 : DeskState) (entries : List DeskEntry) → Replays d entries d2 → d.life ≡ Exited → d2.life ≡ Exited

-- the calls of a server leave the life as it is
abbrev pub ClientsLeaveLife : Type 0
ClientsLeaveLife = (d : DeskState) (call : Call) → is_client call ≡ true → (desk_step d call).1.life ≡ d.life

-- each message that is put in is taken out once and in order, or it is still to be sent
abbrev pub MessagesPass : Type 0
MessagesPass = (d d2 : DeskState) (entries : List DeskEntry) → Replays d entries d2 → d.outbox ++ all_put entries ≡ all_taken entries ++ d2.outbox

-- the tickets given are, each as often, those whose answers were taken, are kept, or are awaited
abbrev pub TicketsAddUp : Type 0
TicketsAddUp = (d d2 : DeskState) (entries : List DeskEntry) → Replays d entries d2 → (n : ℕ)
    → times n (open_tickets d) + times n (all_given entries) ≡ times n (all_answered entries) + times n (open_tickets d2)

-- an answer that is given goes to the oldest request that awaits its id
pub record ReachesOldest (d : DeskState) (r : ResponseData) (d2 : DeskState) : Type 0 where
  pub before : List AwaitedData
  pub oldest : AwaitedData
  pub newer : List AwaitedData
  pub awaited : d.awaited ≡ before ++ oldest ∷ newer
  pub its_id : has_id r.id oldest ≡ true
  pub no_older : list_any (has_id r.id) before ≡ false
  pub leaves : d2.awaited ≡ before ++ newer
  pub kept : d2.kept ≡ d.kept ++ record { ticket = oldest.ticket; response = r } ∷ []

-- an answer that is ignored is to null, or nobody awaits it; it changes nothing
abbrev pub IsUnasked : DeskState → ResponseData → DeskState → Type 0
IsUnasked d r d2 = (d2 ≡ d) × ((same_id r.id null_id ≡ true) ⊎ (list_any (has_id r.id) d.awaited ≡ false))

pub record AnswerGoes (d : DeskState) (r : ResponseData) : Type 0 where
  pub given : (desk_step d (calls.Answer r)).0 ≡ replies.Given → ReachesOldest d r (desk_step d (calls.Answer r)).1
  pub ignored : (desk_step d (calls.Answer r)).0 ≡ replies.Ignored → IsUnasked d r (desk_step d (calls.Answer r)).1

abbrev pub AnswersReachOldest : Type 0
AnswersReachOldest = (d : DeskState) (r : ResponseData) → AnswerGoes d r

-- these calls take no memory, whatever the state
pub record TakeNone (d : DeskState) : Type 0 where
  pub poll : (ticket : ℕ) → takes_no_memory d (calls.Poll ticket) ≡ true
  pub next_id : takes_no_memory d calls.NextId ≡ true
  pub look : takes_no_memory d calls.Look ≡ true
  pub rise : (life : Life) → takes_no_memory d (calls.Rise life) ≡ true
  pub fall : takes_no_memory d calls.Fall ≡ true
  pub next : takes_no_memory d calls.Next ≡ true
  pub take : takes_no_memory d calls.Take ≡ true
  pub close : takes_no_memory d calls.Close ≡ true

-- all calls but those of a message or an answer take no memory
abbrev pub OthersTakeNone : Type 0
OthersTakeNone = (d : DeskState) → TakeNone d
