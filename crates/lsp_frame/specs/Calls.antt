-- Lists of calls on a codec.
use Rattle.std.specs.Prelude.{◌≡◌, ℕ, List, [], ◌∷◌, ◌++◌, Option, option_map}
use Rattle.lsp_rpc.specs.Message.{MessageData}
use Rattle.lsp_rpc.specs.Back.{IsReadable}
use Rattle.lsp_frame.specs.declared.parse_error.ParseError.{ParseError}
use Rattle.lsp_frame.specs.Transitions.{Item, fault}
use Rattle.lsp_frame.specs.Items.{At, more, items_at, told_at, with_item}
use Rattle.lsp_frame.specs.Frames.{IsReadBack}

-- a call that answered: a piece was fed, `decode` gave an item or none, `finish` gave a fault or none, a message was encoded, or memory was wanting
pub data CodecCall : Type 0 where
  fed : List ℕ → CodecCall
  gave : Option Item → CodecCall
  finished : Option ParseError → CodecCall
  encoded : MessageData → CodecCall
  failed : CodecCall

-- the items from a on begin with this one, where there is one, and go on with those from b on, whatever bytes follow
abbrev pub GivesItem : At → Option Item → At → Type 0
GivesItem a x b =
    ((c : List ℕ) → items_at (more a c) ≡ with_item x (items_at (more b c)))
    × ((c : List ℕ) → told_at (more a c) ≡ with_item x (told_at (more b c)))
    × (b.settings ≡ a.settings)

-- what the contracts of `feed`, `decode`, `finish` and `encode` say of a call that leads from a to b
abbrev pub LeadsBy : CodecCall → At → At → Type 0
LeadsBy (fed piece) a b = b ≡ more a piece
LeadsBy (gave x) a b = GivesItem a x b
LeadsBy (finished r) a b = (b ≡ a) × (items_at a ≡ with_item (option_map fault r) [])
LeadsBy (encoded m) a b = (b ≡ a) × (IsReadable m → IsReadBack m)
LeadsBy failed a b = b ≡ a

-- these calls lead from a to b
abbrev pub Leads : List CodecCall → At → At → Type 0
Leads [] a b = a ≡ b
Leads (call ∷ calls) a b = (middle : At) × LeadsBy call a middle × Leads calls middle b

-- all the bytes that were fed
abbrev pub bytes_fed : List CodecCall → List ℕ
bytes_fed [] = []
bytes_fed (fed piece ∷ calls) = piece ++ bytes_fed calls
bytes_fed (gave x ∷ calls) = bytes_fed calls
bytes_fed (finished r ∷ calls) = bytes_fed calls
bytes_fed (encoded m ∷ calls) = bytes_fed calls
bytes_fed (failed ∷ calls) = bytes_fed calls

-- all the items that `decode` gave
abbrev pub items_given : List CodecCall → List Item
items_given [] = []
items_given (fed piece ∷ calls) = items_given calls
items_given (gave x ∷ calls) = with_item x (items_given calls)
items_given (finished r ∷ calls) = items_given calls
items_given (encoded m ∷ calls) = items_given calls
items_given (failed ∷ calls) = items_given calls

-- all the messages that were encoded
abbrev pub messages_encoded : List CodecCall → List MessageData
messages_encoded [] = []
messages_encoded (fed piece ∷ calls) = messages_encoded calls
messages_encoded (gave x ∷ calls) = messages_encoded calls
messages_encoded (finished r ∷ calls) = messages_encoded calls
messages_encoded (encoded m ∷ calls) = m ∷ messages_encoded calls
messages_encoded (failed ∷ calls) = messages_encoded calls
