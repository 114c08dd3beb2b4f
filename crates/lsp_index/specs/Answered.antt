-- What a program writes for a query over the bytes of a dump.
use Rattle.std.specs.Prelude.{◌≡◌, ◌≤◌, ◌⊎◌, ⊤, ℕ, List, [], ◌∷◌, ◌++◌, length, map, Option, Some, None, IfSome, String, Vec, string_bytes}
use Rattle.std.specs.Io.KnownBytes.{Appends, Consumes}
use Rattle.std.specs.declared.alloc.Global.{Global}
use Rattle.lsp_server.specs.Served.{CallBytes}
use Rattle.lsp_server.specs.Written.{IsPrefixOf}
use Rattle.lsp_base.specs.declared.position.Position.{Position}
use Rattle.lsp_lsif.specs.declared.entry.Entry.{Entry}
use Rattle.lsp_index.specs.Graph.{Graph, graph_of}
use Rattle.lsp_index.specs.Queries.{QueryData, IsAnswer}
use Rattle.lsp_index.specs.Entries.{AreEntries, HasBadLine, EndsBadLine, entry_data}
use Rattle.lsp_index.specs.Words.{query_asked}

-- the line that answers a query over a dump: the text of the answer, and LF
pub record IsAnswerLine (q : QueryData) (bytes line : List ℕ) : Type 0 where
  pub es : List Entry
  pub entries : AreEntries bytes es
  pub text : List ℕ
  pub answers : IsAnswer q (graph_of (map (entry_data q.request) es)) text
  pub line_is : line ≡ text ++ 10 ∷ []

-- no line is bad, all bytes were read, and the line of the answer was written
pub record IsQueryAnswered (q : QueryData) (call : CallBytes) : Type 0 where
  pub good : ¬ HasBadLine call.bytes
  pub ends : call.left ≡ Some []
  pub line : List ℕ
  pub answers : IsAnswerLine q call.bytes line
  pub writes : Appends call.taken call.taken_after line

-- the bytes that were read: no bad line ends in them but for a last piece, of at most 4,096 bytes, so nothing was read after a piece in which one ends
pub record ReadGood (call : CallBytes) : Type 0 where
  pub early : List ℕ
  pub piece : List ℕ
  pub gives : Consumes (Some call.bytes) call.left (early ++ piece)
  pub short : length piece ≤ 4096
  pub good : ¬ EndsBadLine early

-- a line is bad, it ends in what was read or all was, and nothing was written
pub record IsRefused (call : CallBytes) : Type 0 where
  pub bad : HasBadLine call.bytes
  pub read : ReadGood call
  pub enough : (call.left ≡ Some []) ⊎ EndsBadLine (read.early ++ read.piece)
  pub writes : Appends call.taken call.taken_after []

-- nothing was written, or all bytes were read and it begins the line
pub record WroteBegun (q : QueryData) (call : CallBytes) : Type 0 where
  pub read : ReadGood call
  pub written : List ℕ
  pub begins : (written ≡ []) ⊎ ((call.left ≡ Some []) × (line : List ℕ) × IsAnswerLine q call.bytes line × IsPrefixOf written line)
  pub writes : Appends call.taken call.taken_after written

-- these bytes were read, no bad line ends in them, and nothing was written
pub record WroteNone (call : CallBytes) : Type 0 where
  pub read : List ℕ
  pub gives : Consumes (Some call.bytes) call.left read
  pub good : ¬ EndsBadLine read
  pub writes : Appends call.taken call.taken_after []

-- the words ask a query, over a source that tells its bytes: this holds of both
abbrev pub WhereAsked : List (String Global) → Option (List ℕ) → (QueryData → List ℕ → Type 0) → Type 0
WhereAsked words left P = IfSome (query_asked words) (λ q. IfSome left (P q))

-- ---- many positions of a document

-- this holds of each of the positions and the line that stands at the same place of the other list
abbrev pub AreLines : (Position → List ℕ → Type 0) → List Position → List (String Global) → Type 0
AreLines P [] [] = ⊤
AreLines P [] (line ∷ lines) = ⊥
AreLines P (p ∷ ps) [] = ⊥
AreLines P (p ∷ ps) (line ∷ lines) = P p (string_bytes line) × AreLines P ps lines

-- no line of the dump is bad, and these are the lines that answer the queries at the positions; or there is none, and one is
abbrev pub AreAnswers : (Position → QueryData) → List ℕ → List Position → Option (Vec (String Global) Global) → Type 0
AreAnswers asked bytes ps None = HasBadLine bytes
AreAnswers asked bytes ps (Some lines) = (¬ HasBadLine bytes) × AreLines (λ p line. IsAnswerLine (asked p) bytes line) ps lines.items

-- ---- a law

-- over one dump a query has one answer
abbrev pub OneAnswer : Type 0
OneAnswer = (q : QueryData) (bytes line other : List ℕ) → IsAnswerLine q bytes line → IsAnswerLine q bytes other → line ≡ other

-- ---- for private clauses

-- the text of the answer over the graph, and LF
abbrev pub IsLine : QueryData → Graph → List ℕ → Type 0
IsLine q g line = (text : List ℕ) × IsAnswer q g text × (line ≡ text ++ 10 ∷ [])

-- the same query at another position
abbrev pub query_at : QueryData → Position → QueryData
query_at q p = record q { position = p }
