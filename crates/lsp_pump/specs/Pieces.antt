-- Pieces: the items that a read told.
use Rattle.std.specs.Prelude.{◌≡◌, ◌||◌, ◌++◌, Bool, false, List, [], ◌∷◌, map, Option, Some, None}
use Rattle.std.specs.Global.{Vec}
use Rattle.lsp_session.specs.declared.item.Item.{Item}
use Rattle.lsp_session.specs.Item.{ItemData, show_item, item_has_float}

abbrev pub piece_items : Vec Item → List ItemData
piece_items piece = map show_item piece.items

-- the items of all pieces
abbrev pub all_items : List (Vec Item) → List ItemData
all_items [] = []
all_items (piece ∷ pieces) = piece_items piece ++ all_items pieces

-- those of a piece, where there is one
abbrev pub back_items : Option (Vec Item) → List ItemData
back_items None = []
back_items (Some piece) = piece_items piece

-- whether a message among these items holds a float
abbrev pub some_float : List ItemData → Bool
some_float [] = false
some_float (item ∷ items) = item_has_float item || some_float items

abbrev pub ItemsAreFloatFree : List ItemData → Type 0
ItemsAreFloatFree items = some_float items ≡ false
