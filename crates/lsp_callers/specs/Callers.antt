-- Callers before and after their calls.
use Rattle.std.specs.Prelude.{◌≡◌, ◌-◌, ◌/◌, ◌^◌, ℕ, zero, suc, true, false, List, [], ◌∷◌, sum_by, flat_map, Option, None, Err, IfOk, OnErr}
use Rattle.std.specs.Option.{option_or}
use Rattle.std.specs.Result.{result_err}
use Rattle.atomic_table.specs.Seated.{TableId}
use Rattle.lsp_desk.specs.declared.call.DeskFault.{DeskFault}
use Rattle.lsp_desk.specs.declared.call.DeskFault.TheVariants as faults
use Rattle.lsp_desk.specs.Trace.{DeskEntry}
use Rattle.lsp_shared.specs.declared.view.View.{View}
use Rattle.lsp_shared.specs.Desks.{rested_desk, rested_view, rested_spent}
use Rattle.lsp_callers.specs.declared.caller.Idle.{Idle}
use Rattle.lsp_callers.specs.declared.caller.Heard.{Heard}
use Rattle.lsp_callers.specs.Said.{said_by, StopsShort}
use Rattle.lsp_callers.specs.Made.{entries_made}

-- a client's seat of this desk, through which no call was made
pub record IsIdleOn (desk : TableId) (caller : Idle) : Type 0 where
  pub here : rested_desk caller.seat ≡ desk
  pub client : (rested_view caller.seat).owner ≡ false
  pub none : (rested_view caller.seat).made ≡ []

-- such callers, numbered on from the next number
abbrev pub AreIdleFrom : TableId → ℕ → List Idle → Type 0
AreIdleFrom desk n [] = Unit {0}
AreIdleFrom desk n (caller ∷ callers) = (caller.number ≡ suc n) × IsIdleOn desk caller × AreIdleFrom desk (suc n) callers

-- what a caller says
abbrev pub said_of : Heard → List DeskEntry
said_of heard = said_by heard.number heard.messages

-- a client's seat of this desk, whose caller said all its messages, or was told why not
pub record IsHeardOn (desk : TableId) (heard : Heard) : Type 0 where
  pub here : rested_desk heard.seat ≡ desk
  pub client : (rested_view heard.seat).owner ≡ false
  pub said : IfOk heard.sent (λ sent. (sent ≡ heard.messages) × (entries_made (rested_view heard.seat) ≡ said_of heard))
  pub spent : (n : ℕ) → heard.sent ≡ Err (faults.Spent n) → rested_spent heard.seat ≡ true

abbrev pub AreHeardOn : TableId → List Heard → Type 0
AreHeardOn desk [] = Unit {0}
AreHeardOn desk (heard ∷ rest) = IsHeardOn desk heard × AreHeardOn desk rest

-- what a caller comes to that was idle, and had so many messages to say: it says them all, or stops before
pub record ComesOf (messages : ℕ) (caller : Idle) (heard : Heard) : Type 0 where
  pub numbered : heard.number ≡ caller.number
  pub counted : heard.messages ≡ messages
  pub heard_on : IsHeardOn (rested_desk caller.seat) heard
  pub share : (rested_view heard.seat).share ≡ (rested_view caller.seat).share
  pub stopped : OnErr heard.sent (StopsShort heard.number heard.messages (entries_made (rested_view heard.seat)))

-- what all of them say, and how many messages that is
abbrev pub all_said_of : List Heard → List DeskEntry
all_said_of all = flat_map said_of all

abbrev pub messages_of : List Heard → ℕ
messages_of all = sum_by (λ heard. heard.messages) all

-- the first fault that a caller was told
abbrev pub first_fault : List Heard → Option DeskFault
first_fault [] = None
first_fault (heard ∷ rest) = option_or (result_err heard.sent) (first_fault rest)

-- the shares of all seats
abbrev pub idle_shares : List Idle → ℕ
idle_shares callers = sum_by (λ caller. (rested_view caller.seat).share) callers

abbrev pub heard_shares : List Heard → ℕ
heard_shares all = sum_by (λ heard. (rested_view heard.seat).share) all

-- the share that is left of the whole after so many splits
abbrev pub share_left : ℕ → ℕ
share_left zero = 2 ^ 63
share_left (suc n) = share_left n - share_left n / 2

-- a view whose calls and history are those of another, at the same desk or not
pub record KeepsHistory (old new : View) : Type 0 where
  pub seen : new.seen ≡ old.seen
  pub made : new.made ≡ old.made
  pub owner : new.owner ≡ old.owner
