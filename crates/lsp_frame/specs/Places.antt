-- Where decoding comes to, with its next item or without one.
use Rattle.std.specs.Prelude.{◌≡◌, ℕ, zero, suc, ◌<◌, ◌⊎◌, List, ◌++◌, length, drop, Option, Some, None}
use Rattle.lsp_frame.specs.Transitions.{Item, message, fault, go, transition}
use Rattle.lsp_frame.specs.Items.{At, GoesNowhere}
use Rattle.lsp_frame.specs.Kept.{unneeded, without_needed}
use Rattle.lsp_frame.specs.declared.limits.Limits.{Limits}
use Rattle.lsp_frame.specs.declared.settings.CodecSettings.{CodecSettings}
use Rattle.lsp_frame.specs.declared.parse_error.ParseError.TheVariants.{Headers, MissingContentLength, InvalidContentType, InvalidContentLength, Utf8, Body, Rest, HeadTooLong, BodyTooLong}
use Rattle.lsp_frame.specs.declared.decode_state.DecodeState.{DecodeState}
use Rattle.lsp_frame.specs.declared.decode_state.DecodeState.TheVariants as states

-- a codec in this state that holds these bytes
abbrev pub codec_at : CodecSettings → DecodeState → List ℕ → At
codec_at settings s bs = record { settings = settings; state = s; held = bs }

-- in this state, after so many bytes
abbrev pub further : At → DecodeState → ℕ → At
further a s n = codec_at a.settings s (drop n a.held)

-- the transition at a tells this item, or none, and goes on at b
abbrev pub GoesOn : At → Option Item → At → Type 0
GoesOn a x b = (s : DecodeState) × (n : ℕ) × (transition a.settings a.state a.held ≡ go x s n) × (further a s n ≡ b)

-- so many transitions that tell nothing go on from a to b
abbrev pub SilentBy : ℕ → At → At → Type 0
SilentBy zero a b = a ≡ b
SilentBy (suc k) a b = (middle : At) × GoesOn a None middle × SilentBy k middle b

-- transitions that tell nothing go on from a to b
abbrev pub GoesSilently : At → At → Type 0
GoesSilently a b = (count : ℕ) × SilentBy count a b

-- a codec that stops, without the bytes that it needs no more
abbrev pub without_unneeded : At → At
without_unneeded a = further a (without_needed a.state (length a.held)) (unneeded a.state (length a.held))

-- the transition at a tells an item and goes on at b; or it goes on nowhere, and b is a without the bytes that it needs no more
abbrev pub EndsAt : At → Option Item → At → Type 0
EndsAt a (Some x) b = GoesOn a (Some x) b
EndsAt a None b = GoesNowhere (transition a.settings a.state a.held) × (without_unneeded a ≡ b)

-- from a decoding comes to b: by transitions that tell nothing up to the first that tells an item, or that goes on nowhere
abbrev pub ComesTo : At → Option Item → At → Type 0
ComesTo a x b = (last : At) × GoesSilently a last × EndsAt last x b

-- what b holds is the end of what a holds
abbrev pub HoldsEnd : At → At → Type 0
HoldsEnd a b = (taken : List ℕ) × (a.held ≡ taken ++ b.held)

-- in which state decoding goes on after an item: a body is followed by a frame, save one past the limit, which is skipped; after a fault of a head the next `Content-Length` is looked for
abbrev pub IsStateAfter : Limits → Item → DecodeState → Type 0
IsStateAfter limits (message m) s = s ≡ states.Frame
IsStateAfter limits (fault Headers) s = s ≡ states.Search
IsStateAfter limits (fault MissingContentLength) s = s ≡ states.Search
IsStateAfter limits (fault InvalidContentType) s = s ≡ states.Search
IsStateAfter limits (fault InvalidContentLength) s = s ≡ states.Search
IsStateAfter limits (fault Utf8) s = (s ≡ states.Frame) ⊎ (s ≡ states.Search)
IsStateAfter limits (fault (Body f)) s = s ≡ states.Frame
IsStateAfter limits (fault Rest) s = ⊥
IsStateAfter limits (fault HeadTooLong) s = s ≡ states.Search
IsStateAfter limits (fault BodyTooLong) s = (n : ℕ) × (limits.body < n) × (s ≡ states.Skip n)
