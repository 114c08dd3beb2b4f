-- For private clauses: how a dump is read, line by line.
use Rattle.std.specs.Prelude.{◌≡◌, ◌⊎◌, ◌==◌, ⊤, ℕ, List, [], ◌∷◌, ◌++◌, length, Bool, true, false, not, Option, Some, None, is_none, map, filter, fold, if◌then◌else◌}
use Rattle.std.specs.Bool.{MatchBool}
use Rattle.std.specs.List.{list_any}
use Rattle.std.specs.Str.Lines.{strip_carriage_return}
use Rattle.lsp_shape.specs.Plain.{Plain}
use Rattle.lsp_server.specs.Consuming.{Given, piece, end, ConsumerOutcome, goes_on, done, stops, Consuming}
use Rattle.lsp_server.specs.Errors.{ComesOfSink}
use Rattle.lsp_server.specs.Written.{IsPrefixOf}
use Rattle.lsp_lsif.specs.Entry.{entry_row}
use Rattle.lsp_lsif.specs.declared.entry.Entry.{Entry}
use Rattle.lsp_index.specs.declared.lines.Lines.{Lines}
use Rattle.lsp_index.specs.declared.lines.Search.{Search}
use Rattle.lsp_index.specs.Graph.{Graph, graph_of}
use Rattle.lsp_index.specs.Queries.{QueryData}
use Rattle.lsp_index.specs.Entries.{value_of_line, HasBadLine, AreEntries, entry_data}
use Rattle.lsp_index.specs.Shown.{show_query}
use Rattle.lsp_index.specs.Kept.{IsKept, with_entry}
use Rattle.lsp_index.specs.Answered.{IsAnswerLine}

-- the lines that end in these bytes, after the part of a line
abbrev pub ended_lines : List ℕ → List ℕ → List (List ℕ)
ended_lines part [] = []
ended_lines part (b ∷ bs) = if b == 10 then strip_carriage_return part ∷ ended_lines [] bs else ended_lines (part ++ b ∷ []) bs

-- the part of a line that has no end in them
abbrev pub part_after : List ℕ → List ℕ → List ℕ
part_after part [] = part
part_after part (b ∷ bs) = if b == 10 then part_after [] bs else part_after (part ++ b ∷ []) bs

-- no line ends in them
abbrev pub HasNoEnd : List ℕ → Type 0
HasNoEnd bytes = list_any (λ b. b == 10) bytes ≡ false

abbrev pub filled : List (List ℕ) → List (List ℕ)
filled ls = filter (λ l. not (length l == 0)) ls

abbrev pub values_of : List (List ℕ) → List (Option Plain)
values_of ls = map value_of_line (filled ls)

abbrev pub shown_all : List Entry → List (Option Plain)
shown_all es = map (λ e. Some (entry_row.shown e)) es

abbrev pub has_bad : List (List ℕ) → Bool
has_bad ls = list_any (λ l. is_none (value_of_line l)) (filled ls)

-- a line was taken: it is bad, or empty or an entry, which is kept
pub record TookGood (old : Search) (line : List ℕ) (new : Search) : Type 0 where
  pub query : new.query ≡ old.query
  pub good : new.is_bad ≡ old.is_bad
  pub es : List Entry
  pub values : values_of (line ∷ []) ≡ shown_all es
  pub kept : (g : Graph) → IsKept g old.index → IsKept (fold with_entry g (map (entry_data old.query.request) es)) new.index

pub record TookBad (old : Search) (line : List ℕ) (new : Search) : Type 0 where
  pub is_bad : new.is_bad ≡ true
  pub bad : has_bad (line ∷ []) ≡ true

-- a text of this value was taken: it is an entry, which is kept, or none
pub record TookEntry (old : Search) (value : Option Plain) (new : Search) : Type 0 where
  pub query : new.query ≡ old.query
  pub good : new.is_bad ≡ old.is_bad
  pub entry : Entry
  pub is : value ≡ Some (entry_row.shown entry)
  pub kept : (g : Graph) → IsKept g old.index → IsKept (with_entry g (entry_data old.query.request entry)) new.index

abbrev pub TookText : Search → Option Plain → Bool → Search → Type 0
TookText old value true new = TookEntry old value new
TookText old value false new = (new.is_bad ≡ true) × (value ≡ None)

abbrev pub TookLine : Search → List ℕ → Bool → Search → Type 0
TookLine old line true new = TookGood old line new
TookLine old line false new = TookBad old line new

-- these bytes were taken, each of whose ended lines is good
pub record IsAfter (q : QueryData) (bytes : List ℕ) (a : Lines × Search) : Type 0 where
  pub query : show_query a.1.query ≡ q
  pub good : a.1.is_bad ≡ false
  pub part : a.0.part.items ≡ part_after [] bytes
  pub es : List Entry
  pub values : values_of (ended_lines [] bytes) ≡ shown_all es
  pub kept : IsKept (graph_of (map (entry_data q.request) es)) a.1.index

abbrev pub HasBadEnded : List ℕ → Type 0
HasBadEnded bytes = has_bad (ended_lines [] bytes) ≡ true

abbrev pub TookMore : Lines × Search → List ℕ → Lines × Search → Type 0
TookMore a bytes b = (q : QueryData) (before : List ℕ) → IsAfter q before a → IsAfter q (before ++ bytes) b

abbrev pub TookBadIn : Lines × Search → List ℕ → Lines × Search → Type 0
TookBadIn a bytes b = (b.1.is_bad ≡ true) × ((q : QueryData) (before : List ℕ) → IsAfter q before a → HasBadEnded (before ++ bytes))

-- bytes were taken, or some of them up to a bad line
abbrev pub TookBytes : Lines × Search → List ℕ → Bool → Lines × Search → Type 0
TookBytes a bytes true b = TookMore a bytes b
TookBytes a bytes false b = TookBadIn a bytes b

-- nothing was taken
abbrev pub TookNothing : Search → Type 0
TookNothing s = (s.is_bad ≡ false) × IsKept (graph_of []) s.index

-- all the bytes of a dump were taken, or a line is bad
pub record TookGoodDump (old : Search) (bytes : List ℕ) (new : Search) : Type 0 where
  pub query : show_query new.query ≡ show_query old.query
  pub es : List Entry
  pub entries : AreEntries bytes es
  pub kept : IsKept (graph_of (map (entry_data old.query.request) es)) new.index

abbrev pub TookDump : Search → List ℕ → Bool → Search → Type 0
TookDump old bytes true new = TookGoodDump old bytes new
TookDump old bytes false new = HasBadLine bytes

-- at the end the line of the answer was written, or a line is bad
abbrev pub TookEnd : Lines × Search → List ℕ → Lines × Search → Type 0
TookEnd a written b = (q : QueryData) (bytes : List ℕ) → IsAfter q bytes a
    → MatchBool b.1.is_bad (HasBadLine bytes × (written ≡ [])) (IsAnswerLine q bytes written)

abbrev pub TookEndPart : Lines × Search → List ℕ → Type 0
TookEndPart a written = (q : QueryData) (bytes : List ℕ) → IsAfter q bytes a
    → (written ≡ []) ⊎ ((line : List ℕ) × IsAnswerLine q bytes line × IsPrefixOf written line)

abbrev pub Reads : Lines × Search → Given → ConsumerOutcome → List ℕ → Lines × Search → Type 0
Reads a (piece bytes) goes_on written b = (written ≡ []) × TookMore a bytes b
Reads a (piece bytes) done written b = (written ≡ []) × TookBadIn a bytes b
Reads a (piece bytes) (stops e) written b = ComesOfSink e × (written ≡ [])
Reads a end goes_on written b = ⊥
Reads a end done written b = TookEnd a written b
Reads a end (stops e) written b = ComesOfSink e × TookEndPart a written

abbrev pub dump_reading : Consuming (Lines × Search)
dump_reading = record { is_open = λ a. ⊤; does = Reads }
