-- The items that decoding tells of a stream of bytes.
use Rattle.std.specs.Prelude.{◌≡◌, ℕ, zero, suc, ◌+◌, ◌*◌, ◌≤◌, max, List, [], ◌∷◌, ◌++◌, length, drop, Option, Some, None, ⊤}
use Rattle.lsp_frame.specs.Transitions.{Item, message, fault, Transition, stop, unfinished, go, transition}
use Rattle.lsp_text.specs.declared.floats.Floats.TheVariants.{Refused}
use Rattle.lsp_frame.specs.declared.limits.Limits.{Limits}
use Rattle.lsp_frame.specs.declared.settings.CodecSettings.{CodecSettings}
use Rattle.lsp_frame.specs.declared.parse_error.ParseError.{ParseError}
use Rattle.lsp_frame.specs.declared.parse_error.ParseError.TheVariants.{Headers, MissingContentLength, InvalidContentType, InvalidContentLength, Utf8, Body, Rest, HeadTooLong, BodyTooLong}
use Rattle.lsp_frame.specs.declared.decode_state.DecodeState.{DecodeState}
use Rattle.lsp_frame.specs.declared.decode_state.DecodeState.TheVariants as states

-- these limits, and no float is let in
abbrev pub strict : Limits → CodecSettings
strict limits = record { limits = limits; floats = Refused }

-- a codec: its settings, its state, and the bytes held from its place on
pub record At : Type 0 where
  pub settings : CodecSettings
  pub state : DecodeState
  pub held : List ℕ

-- no bytes, where a frame begins
abbrev pub start_by : CodecSettings → At
start_by settings = record { settings = settings; state = states.Frame; held = [] }

abbrev pub start : Limits → At
start limits = start_by (strict limits)

-- with these bytes after those held
abbrev pub more : At → List ℕ → At
more a c = record { settings = a.settings; state = a.state; held = a.held ++ c }

-- an item, where there is one, before others
abbrev pub with_item : Option Item → List Item → List Item
with_item None xs = xs
with_item (Some x) xs = x ∷ xs

-- the items after a transition, where next are those from a later place on
abbrev pub items_after : (DecodeState → ℕ → List Item) → List Item → Transition → List Item
items_after next last stop = []
items_after next last unfinished = last
items_after next last (go x s n) = with_item x (next s n)

-- the items of at most so many transitions; last is what is told where input ends inside a frame
abbrev pub items_within : CodecSettings → List Item → ℕ → DecodeState → List ℕ → List Item
items_within settings last zero s bs = []
items_within settings last (suc n) s bs = items_after (λ s' d. items_within settings last n s' (drop d bs)) last (transition settings s bs)

-- more than the transitions on the way to the stop
abbrev pub transitions_left : DecodeState → List ℕ → ℕ
transitions_left states.Frame bs = 2 * length bs + 1
transitions_left states.Search bs = 2 * length bs + 2
transitions_left (states.Body n) bs = 2 * length bs + 2
transitions_left (states.Skip n) bs = 2 * length bs + 2

-- the items on the way from a state to the stop, with last where input ends inside a frame
abbrev pub all_from : CodecSettings → List Item → DecodeState → List ℕ → List Item
all_from settings last s bs = items_within settings last (transitions_left s bs) s bs

-- the items from here on, where the input ends after the bytes held
abbrev pub items_at : At → List Item
items_at a = all_from a.settings (fault Rest ∷ []) a.state a.held

-- the items from here on that the bytes held tell, whatever bytes may follow
abbrev pub told_at : At → List Item
told_at a = all_from a.settings [] a.state a.held

-- the items of a whole input
abbrev pub items_by : CodecSettings → List ℕ → List Item
items_by settings bs = items_at (more (start_by settings) bs)

abbrev pub items : Limits → List ℕ → List Item
items limits bs = items_by (strict limits) bs

-- the items that these bytes tell, whatever bytes may follow
abbrev pub told_by : CodecSettings → List ℕ → List Item
told_by settings bs = told_at (more (start_by settings) bs)

abbrev pub told : Limits → List ℕ → List Item
told limits bs = told_by (strict limits) bs

-- an item, unless it is the fault of an input that ends inside a frame
abbrev pub unless_rest : Item → List Item
unless_rest (message m) = message m ∷ []
unless_rest (fault Headers) = fault Headers ∷ []
unless_rest (fault MissingContentLength) = fault MissingContentLength ∷ []
unless_rest (fault InvalidContentType) = fault InvalidContentType ∷ []
unless_rest (fault InvalidContentLength) = fault InvalidContentLength ∷ []
unless_rest (fault Utf8) = fault Utf8 ∷ []
unless_rest (fault (Body f)) = fault (Body f) ∷ []
unless_rest (fault Rest) = []
unless_rest (fault HeadTooLong) = fault HeadTooLong ∷ []
unless_rest (fault BodyTooLong) = fault BodyTooLong ∷ []

-- the items without that fault at their end
abbrev pub without_last_rest : List Item → List Item
without_last_rest [] = []
without_last_rest (x ∷ []) = unless_rest x
without_last_rest (x ∷ y ∷ ys) = x ∷ without_last_rest (y ∷ ys)

-- ---- a codec that waits for bytes

-- nothing goes on from here
abbrev pub GoesNowhere : Transition → Type 0
GoesNowhere stop = ⊤
GoesNowhere unfinished = ⊤
GoesNowhere (go x s n) = ⊥

-- a search holds no more than the 13 bytes with which its text may begin, and a skip holds nothing
abbrev pub IsTrimmed : DecodeState → List ℕ → Type 0
IsTrimmed states.Frame bs = ⊤
IsTrimmed states.Search bs = length bs ≤ 13
IsTrimmed (states.Body n) bs = ⊤
IsTrimmed (states.Skip n) bs = bs ≡ []

-- the codec goes on nowhere until more is fed, and holds nothing that it needs no more
abbrev pub IsWaiting : At → Type 0
IsWaiting a = GoesNowhere (transition a.settings a.state a.held) × IsTrimmed a.state a.held

-- how many bytes a codec that waits holds at most
abbrev pub most_held : Limits → ℕ
most_held limits = max (max limits.head limits.body) 13

-- each limit is at least 1
abbrev pub AreLimits : Limits → Type 0
AreLimits limits = (1 ≤ limits.head) × (1 ≤ limits.body)

-- the limits that are taken where none are given
abbrev pub default_limits : Limits
default_limits = record { head = 8192; body = 67108864 }

-- a codec that is told no other settings has these
abbrev pub default_settings : CodecSettings
default_settings = strict default_limits

-- ---- what is told first

-- a body's own fault
abbrev pub IsBodyFault : ParseError → Type 0
IsBodyFault (Body f) = ⊤
IsBodyFault _ = ⊥

-- a body tells the first item: a message, or why a text gives none
abbrev pub IsOfBody : List Item → Type 0
IsOfBody [] = ⊥
IsOfBody (message m ∷ xs) = ⊤
IsOfBody (fault e ∷ xs) = IsBodyFault e
