-- How an answer of the editor comes back to the call that asked.
use Rattle.std.specs.Prelude.{◌≡◌, ◌++◌, ℕ, Bool, true, false, List, ◌∷◌}
use Rattle.std.specs.List.{list_any}
use Rattle.lsp_rpc.specs.Message.{IdData, ResponseData}
use Rattle.lsp_rpc.specs.Ids.{same_id}
use Rattle.lsp_desk.specs.Call.{Call}
use Rattle.lsp_desk.specs.Call as calls
use Rattle.lsp_desk.specs.Reply as replies
use Rattle.lsp_desk.specs.Desk.{DeskState, KeptData, desk_step, has_id, is_awaited_by, is_kept_for}
use Rattle.lsp_desk.specs.Trace.{DeskEntry, Replays, times}
use Rattle.lsp_desk.specs.Flow.{all_given, all_answered, open_tickets}
use Rattle.lsp_desk.specs.Laws.{ReachesOldest}

-- ---- a poll

-- this answer is taken for the ticket
pub record TakesAnswer (d : DeskState) (ticket : ℕ) (r : ResponseData) (d2 : DeskState) : Type 0 where
  pub before : List KeptData
  pub newer : List KeptData
  -- it was kept for the ticket
  pub kept : d.kept ≡ before ++ record { ticket = ticket; response = r } ∷ newer
  -- and no older one was
  pub no_older : list_any (is_kept_for ticket) before ≡ false
  -- it is kept no more, and all else stays
  pub leaves : d2 ≡ record d { kept = before ++ newer }

-- what a poll of the ticket comes to
pub record PollTells (d : DeskState) (ticket : ℕ) : Type 0 where
  -- where answers are kept for the ticket, one is replied
  pub replied : list_any (is_kept_for ticket) d.kept ≡ true → (r : ResponseData) × ((desk_step d (calls.Poll ticket)).0 ≡ replies.Answered r)
  -- and it is taken
  pub taken : (r : ResponseData) → (desk_step d (calls.Poll ticket)).0 ≡ replies.Answered r → TakesAnswer d ticket r (desk_step d (calls.Poll ticket)).1
  -- where none is kept, the answer is awaited, or the ticket is gone; nothing changes
  pub awaited : list_any (is_kept_for ticket) d.kept ≡ false → list_any (is_awaited_by ticket) d.awaited ≡ true → desk_step d (calls.Poll ticket) ≡ (replies.Awaited, d)
  pub gone : list_any (is_kept_for ticket) d.kept ≡ false → list_any (is_awaited_by ticket) d.awaited ≡ false → desk_step d (calls.Poll ticket) ≡ (replies.Gone, d)

-- ---- from the answer to the poll

-- an answer was given for a ticket for which none was kept, and none of the ticket's answers was taken since
pub record WasGiven (d : DeskState) (r : ResponseData) (d2 : DeskState) (entries : List DeskEntry) (d3 : DeskState) : Type 0 where
  -- it went to the oldest request of its id
  pub goes : ReachesOldest d r d2
  -- for whose ticket none was kept
  pub none_kept : list_any (is_kept_for goes.oldest.ticket) d.kept ≡ false
  -- these entries were made since
  pub replays : Replays d2 entries d3
  -- and none of them takes an answer of the ticket
  pub none_taken : times goes.oldest.ticket (all_answered entries) ≡ 0

-- ---- from the call to the poll

-- the call gives an answer to a request of this id
abbrev pub answers_id : IdData → Call → Bool
answers_id i (calls.Answer r) = same_id i r.id
answers_id i _ = false

-- a call was given a ticket for a request with this id; neither was another's
pub record WasAsked (d : DeskState) (call : Call) (ticket : ℕ) (i : IdData) : Type 0 where
  -- the call was given the ticket, and the id
  pub ticketed : (desk_step d call).0 ≡ replies.Ticket ticket i
  -- no other request of the id was awaited
  pub new_id : list_any (has_id i) d.awaited ≡ false
  -- nor was the ticket open for another
  pub new_ticket : times ticket (open_tickets d) ≡ 0

-- until these entries were made the ticket was not given again, and no answer to the id came
pub record WasAwaited (d : DeskState) (ticket : ℕ) (i : IdData) (entries : List DeskEntry) (d2 : DeskState) : Type 0 where
  -- these entries were made
  pub replays : Replays d entries d2
  -- none of them gives the ticket again
  pub none_given : times ticket (all_given entries) ≡ 0
  -- and none of them is an answer to the id
  pub none_came : list_any (λ (e : DeskEntry). answers_id i e.call) entries ≡ false

-- the first answer to the id came, and none of the ticket's answers was taken since
pub record WasAnswered (d : DeskState) (ticket : ℕ) (i : IdData) (r : ResponseData) (entries : List DeskEntry) (d2 : DeskState) : Type 0 where
  -- it is to the id, and was given
  pub to_id : r.id ≡ i
  pub given : (desk_step d (calls.Answer r)).0 ≡ replies.Given
  -- these entries were made since
  pub replays : Replays (desk_step d (calls.Answer r)).1 entries d2
  -- and none of them takes an answer of the ticket
  pub none_taken : times ticket (all_answered entries) ≡ 0

pub record AnswersComeBack : Type 0 where
  -- what a poll comes to, in every state
  pub polls : (d : DeskState) (ticket : ℕ) → PollTells d ticket
  -- the answer that was given for a ticket is what a later poll of the ticket is replied
  pub given_is_told : (d d2 d3 : DeskState) (r : ResponseData) (entries : List DeskEntry) (given : WasGiven d r d2 entries d3)
      → (desk_step d3 (calls.Poll given.goes.oldest.ticket)).0 ≡ replies.Answered r
  -- the first answer to the id under which a call asked is what a later poll of that call's ticket is replied
  pub asked_is_told : (d d2 d3 : DeskState) (call : Call) (ticket : ℕ) (i : IdData) (early : List DeskEntry) (r : ResponseData) (late : List DeskEntry)
      → WasAsked d call ticket i → WasAwaited (desk_step d call).1 ticket i early d2 → WasAnswered d2 ticket i r late d3
      → (desk_step d3 (calls.Poll ticket)).0 ≡ replies.Answered r
