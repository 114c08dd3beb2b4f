-- The transitions of decoding: what is found at a place, and where decoding goes on.
use Rattle.std.specs.Prelude.{ℕ, suc, ◌==◌, List, [], ◌∷◌, length, take, nat_eq, nat_lt, if◌then◌else◌, Option, Some, None, Result, Ok, Err, option_map, codes}
use Rattle.std.specs.List.{starts_with}
use Rattle.std.specs.Str.{is_utf8}
use Rattle.serde_json.specs.Read.{read}
use Rattle.serde_json.specs.Data.{Data}
use Rattle.lsp_rpc.specs.Message.{MessageData, clean_message}
use Rattle.lsp_text.specs.Floats.{read_by}
use Rattle.lsp_text.specs.declared.floats.Floats.{Floats}
use Rattle.lsp_frame.specs.Blocks.{block_len, headers_in, Header}
use Rattle.lsp_frame.specs.Headers.{content_length}
use Rattle.lsp_frame.specs.declared.limits.Limits.{Limits}
use Rattle.lsp_frame.specs.declared.settings.CodecSettings.{CodecSettings}
use Rattle.lsp_frame.specs.declared.parse_error.ParseError.{ParseError}
use Rattle.lsp_frame.specs.declared.parse_error.ParseError.TheVariants as errors
use Rattle.lsp_frame.specs.declared.parse_error.BodyFault.TheVariants.{Json, Message}
use Rattle.lsp_frame.specs.declared.decode_state.DecodeState.{DecodeState}
use Rattle.lsp_frame.specs.declared.decode_state.DecodeState.TheVariants.{Frame, Search, Body, Skip}

-- what decoding tells: a message, or why a stretch of the input gives none
pub data Item : Type 0 where
  message : MessageData → Item
  fault : ParseError → Item

-- decoding stops, or finds that the input ends inside a frame, or goes on in a state after so many bytes
pub data Transition : Type 0 where
  stop : Transition
  unfinished : Transition
  go : Option Item → DecodeState → ℕ → Transition

-- where a text stands first
abbrev pub first_place : List ℕ → List ℕ → Option ℕ
first_place needle [] = None
first_place needle (c ∷ bs) = if starts_with nat_eq (c ∷ bs) needle then Some 0 else option_map suc (first_place needle bs)

-- a search goes on as a frame where the text stands
abbrev pub at_place : Option ℕ → Transition
at_place None = stop
at_place (Some r) = go None Frame r

-- a value is a message without floats, or refused
abbrev pub of_message : Option MessageData → Item
of_message (Some m) = message m
of_message None = fault (errors.Body Message)

-- a text is JSON, or refused
abbrev pub of_value : Option Data → Item
of_value None = fault (errors.Body Json)
of_value (Some d) = of_message (clean_message d)

-- what a body that isn't empty tells
abbrev pub body_item : List ℕ → Item
body_item bs = if is_utf8 bs then of_value (read bs) else fault errors.Utf8

-- the same where floats are let in or aren't
abbrev pub body_item_by : Floats → List ℕ → Item
body_item_by floats bs = if is_utf8 bs then of_value (read_by floats bs) else fault errors.Utf8

-- a body of n bytes; an empty one tells nothing
abbrev pub at_body : Floats → ℕ → List ℕ → Transition
at_body floats n bs =
    if nat_lt (length bs) n then unfinished
    else (if n == 0 then go None Frame 0 else go (Some (body_item_by floats (take n bs))) Frame n)

-- n bytes of a body that is too long tell nothing, whether they come or not
abbrev pub at_skip : ℕ → List ℕ → Transition
at_skip n bs = if nat_lt (length bs) n then stop else go None Frame n

-- a body of n bytes follows a head of q, or is skipped where it is too long
abbrev pub at_length : Limits → ℕ → ℕ → Transition
at_length limits q n = if nat_lt limits.body n then go (Some (fault errors.BodyTooLong)) (Skip n) q else go None (Body n) q

-- a good block of q bytes, by what its headers give
abbrev pub at_headers : Limits → ℕ → Result (Option ℕ) ParseError → Transition
at_headers limits q (Err e) = go (Some (fault e)) Search q
at_headers limits q (Ok None) = go (Some (fault errors.MissingContentLength)) Search 1
at_headers limits q (Ok (Some n)) = at_length limits q n

-- a block of q bytes, by its headers where it is good
abbrev pub at_head : Limits → ℕ → Option (List Header) → Transition
at_head limits q None = go (Some (fault errors.Headers)) Search 1
at_head limits q (Some hs) = at_headers limits q (content_length None hs)

-- the bytes of a frame, by the length of the block at their front; where none is whole within the limit, more bytes may make one whole, or none can
abbrev pub at_block : Limits → List ℕ → Option ℕ → Transition
at_block limits bs None = if nat_lt (length bs) limits.head then unfinished else go (Some (fault errors.HeadTooLong)) Search 1
at_block limits bs (Some q) = at_head limits q (headers_in 2 (take q bs))

-- a frame begins at the front, with a block within the limit of a head, or the input ends
abbrev pub at_frame : Limits → List ℕ → Transition
at_frame limits bs = if length bs == 0 then stop else at_block limits bs (block_len (take limits.head bs))

-- the table: each state looks at the bytes from its place on
abbrev pub transition : CodecSettings → DecodeState → List ℕ → Transition
transition settings Frame bs = at_frame settings.limits bs
transition settings Search bs = at_place (first_place (codes "Content-Length") bs)
transition settings (Body n) bs = at_body settings.floats n bs
transition settings (Skip n) bs = at_skip n bs
