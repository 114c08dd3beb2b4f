-- What each step does to a view.
use Rattle.std.specs.Prelude.{◌≡◌, ◌++◌, ◌+◌, ◌-◌, ◌^◌, ◌/◌, ◌<◌, ◌≤◌, ℕ, true, false, ltb, ◌==◌, if◌then◌else◌, List, [], ◌∷◌, length, max, MatchBool, Option, None, Some, Result, Ok, Err}
use Rattle.atomic_table.specs.Table.{Me, Step}
use Rattle.lsp_desk.specs.declared.plain.PlainDesk.{PlainDesk}
use Rattle.lsp_desk.specs.declared.call.ClientReply.{ClientReply}
use Rattle.lsp_desk.specs.declared.call.ServerReply.{ServerReply}
use Rattle.lsp_desk.specs.declared.call.DeskFault.{DeskFault}
use Rattle.lsp_desk.specs.declared.call.DeskFault.TheVariants as faults
use Rattle.lsp_desk.specs.declared.call.ClientCall.TheVariants.{NextId}
use Rattle.lsp_desk.specs.Call.{is_client}
use Rattle.lsp_desk.specs.Desk.{opening}
use Rattle.lsp_desk.specs.Trace.{Fits as FitsEntry, after, AllBelow, times}
use Rattle.lsp_desk.specs.Plain.{plain_state, takes_no_memory}
use Rattle.lsp_shared.specs.declared.view.Asked.{Asked}
use Rattle.lsp_shared.specs.declared.view.Asked.TheVariants as asked
use Rattle.lsp_shared.specs.declared.view.Replied.{Replied}
use Rattle.lsp_shared.specs.declared.view.Replied.TheVariants as replied
use Rattle.lsp_shared.specs.declared.view.Item.{Item}
use Rattle.lsp_shared.specs.declared.view.Phase.TheVariants.{Idle, Drawn, Holding}
use Rattle.lsp_shared.specs.declared.view.View.{View}
use Rattle.lsp_shared.specs.Rule.{IsLegal, IsClean, AreClean, AllClient, now_of, entry_of, call_of, reply_of}

abbrev pub Mine : Type 0
Mine = Me PlainDesk View

abbrev pub reading : View → ℕ → View
reading v n = record { seen = v.seen; told = v.told; made = v.made; read = n; share = v.share; owner = v.owner; phase = v.phase }

abbrev pub drawing : View → ℕ → View
drawing v n = record { seen = v.seen; told = v.told; made = v.made; read = v.read; share = v.share; owner = v.owner; phase = Drawn n }

abbrev pub holding : View → ℕ → List Item → View
holding v t seen = record { seen = seen; told = v.told; made = v.made; read = v.read; share = v.share; owner = v.owner; phase = Holding t }

abbrev pub passing_turn : View → ℕ → Item → View
passing_turn v t item = record { seen = v.seen ++ item ∷ []; told = v.told; made = v.made ++ t ∷ []; read = v.read; share = v.share; owner = v.owner; phase = Idle }

abbrev pub Read : Step PlainDesk → Mine → ℕ → Mine → Type 0
Read st me n me2 = (me.0.read ≤ n) × (me2 ≡ (reading me.0 n, me.1))

abbrev pub Drew : Step PlainDesk → Mine → ℕ → Mine → Type 0
Drew st me n me2 = MatchBool (n == st.first) (me2 ≡ (drawing me.0 st.first, me.1)) (me2 ≡ me)

-- a turn was drawn, or there is none where the last number was read; a turn that is read later is no less
abbrev pub HasDrawn : Mine → Option ℕ → Mine → Type 0
HasDrawn me None me2 = me2 ≡ (reading me.0 (2 ^ 64 - 1), me.1)
HasDrawn me (Some n) me2 = (n + 1 < 2 ^ 64) × (me.0.read ≤ n) × (me2 ≡ (drawing (reading me.0 n) n, me.1))

-- the turn has come: the desk stands as its history says
pub record GotTurn (v : View) (t : ℕ) (me2 : Mine) : Type 0 where
  pub rest : List Item
  pub desk : PlainDesk
  pub view : me2.0 ≡ holding v t (v.seen ++ rest)
  pub carried : me2.1 ≡ (0, desk) ∷ []
  pub legal : IsLegal opening (v.seen ++ rest)
  pub clean : AreClean (v.seen ++ rest)
  pub state : plain_state desk ≡ now_of (v.seen ++ rest)
  pub turn : t ≡ length (v.seen ++ rest)
  pub clients : v.owner ≡ true → AllClient rest
  pub none_yet : times t v.made ≡ 0
  pub once : (x : ℕ) → times x v.made ≤ 1
  pub inside : AllBelow (length (v.seen ++ rest)) v.made
  pub whole : v.share ≡ 2 ^ 63 → (x : ℕ) → x < length (v.seen ++ rest) → times x v.made ≡ 1

abbrev pub TookTurn : Step PlainDesk → Mine → ℕ → Mine → Type 0
TookTurn st me n me2 = (t : ℕ) → me.0.phase ≡ Drawn t → (n ≡ t → GotTurn me.0 t me2) × ((n ≡ t → ⊥) → me2 ≡ me)

abbrev pub Passed : Item → Step PlainDesk → Mine → ℕ → Mine → Type 0
Passed item st me n me2 = (t : ℕ) → me.0.phase ≡ Holding t → me2 ≡ (passing_turn me.0 t item, [])

-- a seat that may pass with this entry
pub record Ready (item : Item) (t : ℕ) (me : Mine) : Type 0 where
  pub desk : PlainDesk
  pub carried : me.1 ≡ (0, desk) ∷ []
  pub phase : me.0.phase ≡ Holding t
  pub fits : FitsEntry (now_of me.0.seen) (entry_of item)
  -- it was out of memory only where it takes memory
  pub ready : reply_of item.replied ≡ None → takes_no_memory (now_of me.0.seen) (call_of item.asked) ≡ false
  pub clean : IsClean item
  pub state : plain_state desk ≡ after (now_of me.0.seen) (entry_of item)
  pub client : me.0.owner ≡ false → is_client (call_of item.asked) ≡ true

-- the entry of a call with its result
abbrev pub item_for : {R : Type 0} → (R → Replied) → Asked → Result R DeskFault → Item
item_for wrap note (Ok reply) = record { asked = note; replied = wrap reply }
item_for wrap note (Err faults.NoMemory) = record { asked = note; replied = replied.NoMemory }
item_for wrap note (Err (faults.Spent n)) = record { asked = note; replied = replied.NoMemory }

abbrev pub by_client : ClientReply → Replied
by_client reply = replied.Client reply

abbrev pub by_server : ServerReply → Replied
by_server reply = replied.Server reply

abbrev pub half : View → View
half v = record { seen = v.seen; told = []; made = []; read = 0; share = v.share / 2; owner = false; phase = Idle }

abbrev pub rest_of : View → View
rest_of v = record { seen = v.seen; told = v.told; made = v.made; read = v.read; share = v.share - v.share / 2; owner = v.owner; phase = v.phase }

-- a seat that took in another: what it has seen, and what it is told by the other
abbrev pub joined : View → View → View
joined v w = record { seen = v.seen; told = w.seen; made = v.made ++ w.made; read = max v.read w.read; share = v.share + w.share; owner = v.owner; phase = v.phase }

abbrev pub longer : List Item → List Item → List Item
longer a b = if ltb (length a) (length b) then b else a

-- it has seen what it was told too
abbrev pub learned : View → View
learned v = record { seen = longer v.seen v.told; told = []; made = v.made; read = v.read; share = v.share; owner = v.owner; phase = v.phase }

abbrev pub Begins : List Item → List Item → Type 0
Begins a b = (rest : List Item) × (b ≡ a ++ rest)

-- the second is the first, and then client calls
abbrev pub AddsClients : List Item → List Item → Type 0
AddsClients a b = (rest : List Item) × (b ≡ a ++ rest) × AllClient rest

-- a view that has seen nothing and made no call, with the whole share
pub record IsNew (v : View) : Type 0 where
  pub seen : v.seen ≡ []
  pub made : v.made ≡ []
  pub share : v.share ≡ 2 ^ 63
  pub owner : v.owner ≡ true

-- what is told of a view that took in another: its history is legal and has no float, and its calls stand in it, each once
pub record IsSoundView (v : View) : Type 0 where
  pub legal : IsLegal opening v.seen
  pub clean : AreClean v.seen
  pub inside : AllBelow (length v.seen) v.made
  pub once : (x : ℕ) → times x v.made ≤ 1
  pub share : v.share ≤ 2 ^ 63
  pub read : v.read < 2 ^ 64

-- of what a seat has seen and what it was told one begins the other
pub record Heard (v : View) : Type 0 where
  pub seen : Begins v.seen (learned v).seen
  pub told : Begins v.told (learned v).seen
  pub clients : v.owner ≡ true → AddsClients v.seen (learned v).seen
  pub legal : IsLegal opening (learned v).seen
  pub clean : AreClean (learned v).seen
  pub once : (x : ℕ) → times x v.made ≤ 1
  pub share : v.share ≤ 2 ^ 63
  pub read : v.read < 2 ^ 64

abbrev pub Learned : Step PlainDesk → Mine → ℕ → Mine → Type 0
Learned st me n me2 = (me2 ≡ (learned me.0, me.1)) × Heard me.0

-- a view that another took in
abbrev pub empty : View
empty = record { seen = []; told = []; made = []; read = 0; share = 0; owner = false; phase = Idle }

abbrev pub some_call : Asked
some_call = asked.Client NextId

abbrev pub some_item : Item
some_item = record { asked = some_call; replied = replied.NoMemory }

-- One call more through a seat: what others did since, and then this entry. Its turn is its place in the history.
pub record Turned (v : View) (item : Item) (w : View) : Type 0 where
  pub between : List Item
  pub turn : ℕ
  pub seen : w.seen ≡ (v.seen ++ between) ++ item ∷ []
  pub made : w.made ≡ v.made ++ turn ∷ []
  pub place : turn ≡ length (v.seen ++ between)
  -- it was out of memory only where, in the state at its place, it takes memory
  pub ready : reply_of item.replied ≡ None → takes_no_memory (now_of (v.seen ++ between)) (call_of item.asked) ≡ false
  pub legal : IsLegal opening w.seen
  pub clean : AreClean w.seen
  pub clients : v.owner ≡ true → AllClient between
  pub idle : w.phase ≡ Idle
  pub share : w.share ≡ v.share
  pub owner : w.owner ≡ v.owner
  -- the turns of its calls are places of what it has seen, each once
  pub inside : AllBelow (length w.seen) w.made
  pub once : (x : ℕ) → times x w.made ≤ 1
  -- the ticket word was not at its last value, and no less than when it was read before
  pub unspent : w.read + 1 < 2 ^ 64
  pub later : v.read ≤ w.read
  -- with the whole share every entry is one's own
  pub whole : v.share ≡ 2 ^ 63 → (x : ℕ) → x < length w.seen → times x w.made ≡ 1

-- A call through a seat: it has its turn, or the ticket word was at its last value, and nothing was drawn.
abbrev pub Answered : {R : Type 0} → (R → Replied) → Asked → View → Result R DeskFault → View → Type 0
Answered wrap note v (Ok reply) w = Turned v (item_for wrap note (Ok reply)) w
Answered wrap note v (Err faults.NoMemory) w = Turned v (item_for wrap note (Err faults.NoMemory)) w
Answered wrap note v (Err (faults.Spent n)) w = (n ≡ 2 ^ 64 - 1) × (w ≡ reading v n)

-- what holds after a call that had its turn
abbrev pub HasTurn : {R : Type 0} → Result R DeskFault → Type 0 → Type 0
HasTurn (Ok reply) P = P
HasTurn (Err faults.NoMemory) P = P
HasTurn (Err (faults.Spent n)) P = Unit {0}
