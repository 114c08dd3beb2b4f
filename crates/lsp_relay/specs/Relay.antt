-- What a relay writes of a source's bytes.
use Rattle.std.specs.Prelude.{◌≡◌, ◌≤◌, ◌+◌, ◌-◌, ◌^◌, ◌++◌, ℕ, List, [], ◌∷◌, length, map, min, Some, is_none, count_by}
use Rattle.std.specs.List.{AllByRecursion, filter_map}
use Rattle.std.specs.Io.KnownBytes.{Consumes, Appends}
use Rattle.lsp_rpc.specs.Message.{IdData}
use Rattle.lsp_frame.specs.Codec.{Item, At, default_limits, frames, items, told}
use Rattle.lsp_server.specs.Items.{Decodes}
use Rattle.lsp_server.specs.SourceSink.{IsFlushed}
use Rattle.lsp_server.specs.Served.{CallBytes, call_bytes}
use Rattle.lsp_server.specs.Reads.{Moment}
use Rattle.lsp_server.specs.Written.{IsPrefixOf}
use Rattle.lsp_proxy.specs.Proxy.{ProxyState, Sent, opening_state}
use Rattle.lsp_proxy.specs.Law.{Event, react, sent_over, state_after, request_ids, AreDistinct, responses_to, times_requested}
use Rattle.lsp_proxy.specs.Origin.{HasOrigin}
use Rattle.lsp_relay.specs.Notes.{event_of, note_of}

-- ---- over a list of items

-- the messages that the items tell, each with its side
abbrev pub events : ℕ → List Item → List Event
events editors found = filter_map (event_of editors) found

-- how many items tell no message
abbrev pub count_dropped : ℕ → List Item → ℕ
count_dropped editors found = count_by (λ i. is_none (event_of editors i)) found

-- a count of 64 bits, which stays at its last value
abbrev pub counted : ℕ → ℕ
counted n = min n (2 ^ 64 - 1)

-- the frames of what is sent
abbrev pub sent_frames : Sent → List ℕ
sent_frames sent = frames (map note_of sent)

-- the frames of all that a proxy between so many editors and a server sends for these items
abbrev pub relay_frames : ℕ → List Item → List ℕ
relay_frames editors found = sent_frames (sent_over (events editors found) (opening_state editors))

-- the messages of the history, the latest first
abbrev pub latest_first : List Event → List Event → List Event
latest_first [] history = history
latest_first (e ∷ es) history = latest_first es (e ∷ history)

-- what holds of the messages that a proxy sends over these events: the ids of its requests differ, each editor
-- gets at most as many responses under an id as it asked, and each of them has its origin
pub record KeepsApart (editors : ℕ) (es : List Event) : Type 0 where
  pub ids : AreDistinct (request_ids (sent_over es (opening_state editors)))
  pub asked : (k : ℕ) (i : IdData) → responses_to k i (sent_over es (opening_state editors)) ≤ times_requested k i es
  pub origins : (earlier later : List Event) (event : Event) → es ≡ earlier ++ event ∷ later
      → AllByRecursion (HasOrigin editors (latest_first earlier []) event) (react event (state_after earlier (opening_state editors))).1

-- ---- the bytes of a call

-- All bytes were read, and what was written is the frames of what the proxy sends for all their items, each of
-- which is counted.
pub record IsRelayed (editors : ℕ) (call : CallBytes) (passed dropped : ℕ) : Type 0 where
  pub ends : call.left ≡ Some []
  pub writes : Appends call.taken call.taken_after (relay_frames editors (items default_limits call.bytes))
  pub passed_is : passed ≡ counted (length (events editors (items default_limits call.bytes)))
  pub dropped_is : dropped ≡ counted (count_dropped editors (items default_limits call.bytes))
  pub apart : KeepsApart editors (events editors (items default_limits call.bytes))

-- what was written is the frames for the items that the bytes read tell
pub record RelayWroteTold (editors : ℕ) (call : CallBytes) : Type 0 where
  pub read : List ℕ
  pub gives : Consumes (Some call.bytes) call.left read
  pub writes : Appends call.taken call.taken_after (relay_frames editors (told default_limits read))

-- as a read was made, what was written was the frames for the items told by the bytes read until then, and all of
-- it was flushed, if all was at the start
pub record AllPassed (editors : ℕ) (bytes : List ℕ) (start : Moment) (m : Moment) : Type 0 where
  pub wrote : RelayWroteTold editors (call_bytes bytes m.left start.taken m.taken)
  pub flushed : IsFlushed start.taken start.flushed → IsFlushed m.taken m.flushed

-- what was written begins the frames for all items, and holds them whole for those that are told by the bytes
-- read but for a last piece of at most so many bytes
pub record RelayWrotePart (editors : ℕ) (call : CallBytes) (size : ℕ) : Type 0 where
  pub early : List ℕ
  pub piece : List ℕ
  pub gives : Consumes (Some call.bytes) call.left (early ++ piece)
  pub short : length piece ≤ size
  pub written : List ℕ
  pub whole : IsPrefixOf (relay_frames editors (told default_limits early)) written
  pub part : IsPrefixOf written (relay_frames editors (items default_limits call.bytes))
  pub writes : Appends call.taken call.taken_after written

-- ---- for private clauses: where a relay stands

pub record RelayPlace : Type 0 where
  pub editors : ℕ
  pub state : ProxyState
  pub passed : ℕ
  pub dropped : ℕ
  -- what is still to be written
  pub waiting : List ℕ

-- nothing was taken
abbrev pub opening_place : ℕ → RelayPlace
opening_place editors = record { editors = editors; state = opening_state editors; passed = 0; dropped = 0; waiting = [] }

-- the items were taken: the proxy heard the messages, and the frames of what it sends wait to be written
pub record TookItems (old : RelayPlace) (given : List Item) (new : RelayPlace) : Type 0 where
  pub editors : new.editors ≡ old.editors
  pub state : new.state ≡ state_after (events old.editors given) old.state
  pub passed : new.passed ≡ counted (old.passed + length (events old.editors given))
  pub dropped : new.dropped ≡ counted (old.dropped + count_dropped old.editors given)
  pub waiting : new.waiting ≡ old.waiting ++ sent_frames (sent_over (events old.editors given) old.state)

-- the items that decoding gave on its way from one codec to another were taken
pub record TookTold (old : RelayPlace) (old_codec : At) (new : RelayPlace) (new_codec : At) : Type 0 where
  pub given : List Item
  pub decodes : Decodes old_codec given new_codec
  pub took : TookItems old given new
