-- What holds of all blocks, transitions, inputs and lists of calls.
use Rattle.std.specs.Prelude.{◌≡◌, ℕ, ◌^◌, ◌<◌, ◌≤◌, ◌⊎◌, ◌↔◌, List, [], ◌∷◌, ◌++◌, length, drop, map, nat_eq, true, Option, Some, None, option_and_then, codes, ⊤}
use Rattle.std.specs.List.{starts_with}
use Rattle.lsp_rpc.specs.Message.{MessageData, clean_message}
use Rattle.lsp_rpc.specs.Back.{IsReadable}
use Rattle.lsp_text.specs.Floats.{read_by}
use Rattle.lsp_text.specs.declared.floats.Floats.{Floats}
use Rattle.lsp_frame.specs.Blocks.{Header, headers_in, IsGoodBlock}
use Rattle.lsp_frame.specs.Frames.{framed, frames, IsBodyWithin, IsWithin, IsReadBack}
use Rattle.lsp_frame.specs.Transitions.{Item, message, go, transition, body_item, body_item_by}
use Rattle.lsp_frame.specs.Items.{At, start_by, all_from, items_after, items_at, told_at, items_by, told_by, without_last_rest}
use Rattle.lsp_frame.specs.Places.{ComesTo}
use Rattle.lsp_frame.specs.Calls.{CodecCall, Leads, bytes_fed, items_given, messages_encoded}
use Rattle.lsp_frame.specs.declared.limits.Limits.{Limits}
use Rattle.lsp_frame.specs.declared.settings.CodecSettings.{CodecSettings}
use Rattle.lsp_frame.specs.declared.decode_state.DecodeState.{DecodeState}
use Rattle.lsp_frame.specs.declared.decode_state.DecodeState.TheVariants.{Frame, Search, Body, Skip}

-- a block has headers where it is a good block, and they are those of the grammar of `httparse`
abbrev pub GoodBlocks : Type 0
GoodBlocks = (block : List ℕ) (hs : List Header) → (headers_in 2 block ≡ Some hs) ↔ IsGoodBlock block hs

-- the items are those on the way from transition to transition, with nothing left out before the stop
abbrev pub ByTransitions : Type 0
ByTransitions = (settings : CodecSettings) (last : List Item) (s : DecodeState) (bs : List ℕ)
    → all_from settings last s bs ≡ items_after (λ j n. all_from settings last j (drop n bs)) last (transition settings s bs)

-- a transition that may go on without a byte: a search that finds its text where it begins, and an empty body or skip
abbrev pub MayStay : DecodeState → List ℕ → Type 0
MayStay Frame bs = ⊥
MayStay Search bs = starts_with nat_eq bs (codes "Content-Length") ≡ true
MayStay (Body n) bs = n ≡ 0
MayStay (Skip n) bs = n ≡ 0

-- a transition that goes on moves forward by at least one byte, save where it may stay; then it tells nothing and a frame follows
abbrev pub TransitionsMove : Type 0
TransitionsMove = (settings : CodecSettings) (s : DecodeState) (bs : List ℕ) (x : Option Item) (j : DecodeState) (n : ℕ) → transition settings s bs ≡ go x j n
    → (n ≤ length bs) × ((0 < n) ⊎ (MayStay s bs × (x ≡ None) × (j ≡ Frame)))

-- decoding comes to one item, or none, and to one place
abbrev pub OnePlace : Type 0
OnePlace = (a b c : At) (x y : Option Item) → ComesTo a x b → ComesTo a y c → (x ≡ y) × (b ≡ c)

-- what is told is the items without the fault of an input that ends inside a frame
abbrev pub ToldIsItems : Type 0
ToldIsItems = (a : At) → told_at a ≡ without_last_rest (items_at a)

-- what is told stays told, and begins the items, whatever bytes follow
abbrev pub ToldStays : Type 0
ToldStays = (settings : CodecSettings) (b c : List ℕ)
    → ((xs : List Item) × (told_by settings (b ++ c) ≡ told_by settings b ++ xs)) × ((xs : List Item) × (items_by settings (b ++ c) ≡ told_by settings b ++ xs))

-- over any list of calls, also those that fail, the items given, followed by those that are left, are those of all the bytes fed
abbrev pub GivesAll : Type 0
GivesAll = (settings : CodecSettings) (calls : List CodecCall) (a : At) → Leads calls (start_by settings) a
    → (told_by settings (bytes_fed calls) ≡ items_given calls ++ told_at a)
    × (items_by settings (bytes_fed calls) ≡ items_given calls ++ items_at a)
    × (a.settings ≡ settings)

-- a frame within the limits tells what its body is, and decoding goes on after it
abbrev pub FramesRead : Type 0
FramesRead = (settings : CodecSettings) (body c : List ℕ) → IsBodyWithin settings.limits body → length body < 2 ^ 64
    → (items_by settings (framed body ++ c) ≡ body_item_by settings.floats body ∷ items_by settings c) × (told_by settings (framed body ++ c) ≡ body_item_by settings.floats body ∷ told_by settings c)

-- a body that is a message without a float is the same message where floats are let in
abbrev pub SameMessages : Type 0
SameMessages = (floats : Floats) (body : List ℕ) (m : MessageData) → body_item body ≡ message m → body_item_by floats body ≡ message m

-- the text is read as this message, where floats are let in or aren't
abbrev pub ReadsBy : Floats → List ℕ → MessageData → Type 0
ReadsBy floats text m = option_and_then clean_message (read_by floats text) ≡ Some m

-- each message is read back from its text, and its frame is within the limits
abbrev pub AreReadBack : Limits → List MessageData → Type 0
AreReadBack limits [] = ⊤
AreReadBack limits (m ∷ ms) = (IsReadBack m × IsWithin limits m) × AreReadBack limits ms

-- frames of messages that are read back tell these messages, and decoding goes on after them
abbrev pub MessagesRead : Type 0
MessagesRead = (settings : CodecSettings) (ms : List MessageData) (c : List ℕ) → AreReadBack settings.limits ms
    → items_by settings (frames ms ++ c) ≡ map message ms ++ items_by settings c

-- each message can be read back from its text, and its frame is within the limits
abbrev pub AreReadable : Limits → List MessageData → Type 0
AreReadable limits [] = ⊤
AreReadable limits (m ∷ ms) = (IsReadable m × IsWithin limits m) × AreReadable limits ms

-- what a list of calls encoded is read, by any codec whose limits allow it, as the messages that were encoded, if these can be read back
abbrev pub EncodedRead : Type 0
EncodedRead = (settings : CodecSettings) (calls : List CodecCall) (a b : At) (c : List ℕ) → Leads calls a b → AreReadable settings.limits (messages_encoded calls)
    → items_by settings (frames (messages_encoded calls) ++ c) ≡ map message (messages_encoded calls) ++ items_by settings c
