-- What holds of a shared desk between any two steps.
use Rattle.std.specs.Prelude.{◌≡◌, ◌++◌, ◌+◌, ◌^◌, ◌<◌, ◌≤◌, ◌==◌, ℕ, true, false, ltb, if◌then◌else◌, List, [], ◌∷◌, length, map, Option, Some, None}
use mathlib.Core.Option as core
use lib.ListN.{get_elem?}
use Rattle.atomic_table.specs.Table.{State}
use Rattle.lsp_desk.specs.declared.plain.PlainDesk.{PlainDesk}
use Rattle.lsp_desk.specs.Call.{Call, is_client, call_has_float}
use Rattle.lsp_desk.specs.Reply.{Reply, reply_has_float}
use Rattle.lsp_desk.specs.Shown.{show_client_call, show_client_reply, show_server_call, show_server_reply}
use Rattle.lsp_desk.specs.Desk.{DeskState, opening}
use Rattle.lsp_desk.specs.Trace.{DeskEntry, Fits as FitsEntry, after, after_all, AllBelow, times}
use Rattle.lsp_desk.specs.Plain.{plain_state}
use Rattle.lsp_shared.specs.declared.view.Asked.{Asked}
use Rattle.lsp_shared.specs.declared.view.Asked.TheVariants as asked
use Rattle.lsp_shared.specs.declared.view.Replied.{Replied}
use Rattle.lsp_shared.specs.declared.view.Replied.TheVariants as replied
use Rattle.lsp_shared.specs.declared.view.Item.{Item}
use Rattle.lsp_shared.specs.declared.view.Phase.{Phase}
use Rattle.lsp_shared.specs.declared.view.Phase.TheVariants.{Idle, Drawn, Holding}
use Rattle.lsp_shared.specs.declared.view.View.{View}

-- items as plain data
abbrev pub call_of : Asked → Call
call_of (asked.Client call) = show_client_call call
call_of (asked.Server call) = show_server_call call

abbrev pub reply_of : Replied → Option Reply
reply_of (replied.Client reply) = Some (show_client_reply reply)
reply_of (replied.Server reply) = Some (show_server_reply reply)
reply_of replied.NoMemory = None

abbrev pub entry_of : Item → DeskEntry
entry_of x = record { call = call_of x.asked; reply = reply_of x.replied }

-- the state after all of them
abbrev pub run : DeskState → List Item → DeskState
run d xs = after_all d (map entry_of xs)

-- from a state on each reply is the table's at its place, or the call was out of memory
abbrev pub IsLegal : DeskState → List Item → Type 0
IsLegal d [] = Unit {0}
IsLegal d (x ∷ xs) = FitsEntry d (entry_of x) × IsLegal (after d (entry_of x)) xs

-- a history's state
abbrev pub now_of : List Item → DeskState
now_of log = run opening log

-- neither a call nor its reply holds a float
abbrev pub IsCleanReply : Option Reply → Type 0
IsCleanReply None = Unit {0}
IsCleanReply (Some reply) = reply_has_float reply ≡ false

abbrev pub IsClean : Item → Type 0
IsClean x = (call_has_float (call_of x.asked) ≡ false) × IsCleanReply (reply_of x.replied)

abbrev pub AreClean : List Item → Type 0
AreClean [] = Unit {0}
AreClean (x ∷ xs) = IsClean x × AreClean xs

abbrev pub AllClient : List Item → Type 0
AllClient [] = Unit {0}
AllClient (x ∷ xs) = (is_client (call_of x.asked) ≡ true) × AllClient xs

abbrev pub one_at : ℕ → ℕ → ℕ
one_at x y = if x == y then 1 else 0

-- how often a phase has a turn
abbrev pub held : ℕ → Phase → ℕ
held x Idle = 0
held x (Drawn t) = one_at x t
held x (Holding t) = one_at x t

-- how often a view has a turn: in its calls that were made, and in its phase
abbrev pub turns : ℕ → View → ℕ
turns x v = times x v.made + held x v.phase

-- a sum over all views
abbrev pub total : (View → ℕ) → List View → ℕ
total f [] = 0
total f (v ∷ vs) = f v + total f vs

-- a turn that was drawn stands once
abbrev pub once_below : ℕ → ℕ → ℕ
once_below x n = if ltb x n then 1 else 0

-- a turn that was drawn hasn't passed; the seat that holds the desk has the next one and has seen the whole history
abbrev pub Stands : ℕ → List Item → Phase → Type 0
Stands n rest Idle = Unit {0}
Stands n rest (Drawn t) = n ≤ t
Stands n rest (Holding t) = (t ≡ n) × (rest ≡ [])

-- what the history and the ticket say of one view
pub record Sits (log : List Item) (ticket : ℕ) (v : View) : Type 0 where
  pub rest : List Item
  pub begins : log ≡ v.seen ++ rest
  pub beyond : List Item
  pub told : log ≡ v.told ++ beyond
  pub clients : v.owner ≡ true → AllClient rest
  pub inside : AllBelow (length log) v.made
  pub stands : Stands (length log) rest v.phase
  pub read : v.read ≤ ticket
  pub spent : v.share ≡ 0 → (v.made ≡ []) × (v.phase ≡ Idle)

-- The words are the ticket and the number of turns that have passed. The one slot has the desk, or nothing while a seat holds it.
pub record Kept (s : State PlainDesk View) : Type 0 where
  pub log : List Item
  pub ticket : ℕ
  pub home : core.Option PlainDesk
  pub owner : ℕ
  pub words : s.words ≡ ticket ∷ length log ∷ []
  pub homes : s.homes ≡ home ∷ []
  pub order : length log ≤ ticket
  pub small : ticket < 2 ^ 64
  pub legal : IsLegal opening log
  pub clean : AreClean log
  -- the desk stands as its history says
  pub at_home : (y : PlainDesk) → home ≡ core.some y → plain_state y ≡ now_of log
  -- who holds it has the next turn, and where one holds it, it is away
  pub away : home ≡ core.none → (id : ℕ) × (v : View) × (get_elem? s.views id ≡ core.some v) × (v.phase ≡ Holding (length log))
  pub out : (id t : ℕ) (v : View) → get_elem? s.views id ≡ core.some v → v.phase ≡ Holding t → home ≡ core.none
  -- each turn that was drawn stands once, in one view
  pub once : (x : ℕ) → total (turns x) s.views ≡ once_below x ticket
  -- there is one owner
  pub owned : (id : ℕ) (v : View) → get_elem? s.views id ≡ core.some v → v.owner ≡ true → id ≡ owner
  -- the shares add up to the whole
  pub shares : total (λ v. v.share) s.views ≡ 2 ^ 63
  pub sits : (id : ℕ) (v : View) → get_elem? s.views id ≡ core.some v → Sits log ticket v

-- the view of the first seat
abbrev pub newcomer : View
newcomer = record { seen = []; told = []; made = []; read = 0; share = 2 ^ 63; owner = true; phase = Idle }
