-- What the answers of the code show.
use Rattle.std.specs.Prelude.{◌≡◌, ◌≤◌, ℕ, false, Option, Some, None, Result, Ok, Err, option_map, ⊤}
use Rattle.lsp_rpc.specs.Message.{message_has_float}
use Rattle.lsp_rpc.specs.Shown.{show_message}
use Rattle.lsp_rpc.specs.declared.message.Message.{Message}
use Rattle.lsp_frame.specs.Transitions.{Item, message, fault, Transition, stop, unfinished, go}
use Rattle.lsp_frame.specs.declared.parse_error.ParseError.{ParseError}
use Rattle.lsp_frame.specs.declared.transition.Transition as transition
use Rattle.lsp_frame.specs.declared.transition.Transition.TheVariants as transitions
use Rattle.lsp_frame.specs.declared.codec.Decoded.{Decoded}
use Rattle.lsp_frame.specs.declared.codec.Decoded.TheVariants as decodeds

-- the item that was found
abbrev pub show_found : Result Message ParseError → Item
show_found (Ok m) = message (show_message m)
show_found (Err e) = fault e

-- a message that was found holds no float
abbrev pub IsFoundFloatFree : Option (Result Message ParseError) → Type 0
IsFoundFloatFree None = ⊤
IsFoundFloatFree (Some (Ok m)) = message_has_float (show_message m) ≡ false
IsFoundFloatFree (Some (Err e)) = ⊤

-- the transition that was made
abbrev pub show_transition : transition.Transition → Transition
show_transition transitions.Stop = stop
show_transition transitions.Unfinished = unfinished
show_transition (transitions.Go x s n) = go (option_map show_found x) s n

-- a transition goes on after at most so many bytes
abbrev pub IsWithinBytes : ℕ → transition.Transition → Type 0
IsWithinBytes len transitions.Stop = ⊤
IsWithinBytes len transitions.Unfinished = ⊤
IsWithinBytes len (transitions.Go x s n) = n ≤ len

-- a transition gives no float
abbrev pub IsItemFloatFree : transition.Transition → Type 0
IsItemFloatFree transitions.Stop = ⊤
IsItemFloatFree transitions.Unfinished = ⊤
IsItemFloatFree (transitions.Go x s n) = IsFoundFloatFree x

-- the item that `decode` gives, if any
abbrev pub shown : Decoded → Option Item
shown (decodeds.Item m) = Some (message (show_message m))
shown (decodeds.Fault e) = Some (fault e)
shown decodeds.More = None

-- the message that `decode` gives holds no float
abbrev pub DecodedIsFloatFree : Decoded → Type 0
DecodedIsFloatFree (decodeds.Item m) = message_has_float (show_message m) ≡ false
DecodedIsFloatFree (decodeds.Fault e) = ⊤
DecodedIsFloatFree decodeds.More = ⊤
