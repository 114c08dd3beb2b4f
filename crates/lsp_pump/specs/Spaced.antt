-- Lists of items with ticks between them.
use Rattle.std.specs.Prelude.{◌≡◌, ◌++◌, ℕ, List, [], ◌∷◌, if◌then◌else◌, Option}
use Rattle.lsp_session.specs.declared.table.Entry.{Entry}
use Rattle.lsp_session.specs.Item.{ItemData, message, fault, tick}
use Rattle.lsp_session.specs.Run.{is_exit}

-- a list without its ticks
abbrev pub unticked : List ItemData → List ItemData
unticked [] = []
unticked (message m ∷ list) = message m ∷ unticked list
unticked (fault code ∷ list) = fault code ∷ unticked list
unticked (tick ∷ list) = unticked list

-- the list without its ticks is these items
abbrev pub IsSpaced : List ItemData → List ItemData → Type 0
IsSpaced list items = unticked list ≡ items

abbrev pub EndsInTick : List ItemData → Type 0
EndsInTick list = (front : List ItemData) × (list ≡ front ++ tick ∷ [])

-- the items through the first exit, and where there is none, all of them
abbrev pub through_exit : (List ℕ → Option Entry) → List ItemData → List ItemData
through_exit find [] = []
through_exit find (item ∷ items) = if is_exit find item then item ∷ [] else item ∷ through_exit find items
