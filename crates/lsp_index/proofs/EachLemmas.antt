-- The lines of the answers at many positions.
use Rattle.std.proofs.Common.{◌≡◌, ℕ, ◌+◌, ◌<◌, List, [], ◌∷◌, ◌++◌, length, take, map, get_or, sym, subst}
use Rattle.std.specs.Prelude.{Some, String, Vec, string_bytes}
use Rattle.std.specs.declared.alloc.Global.{Global}
use Rattle.std.proofs.lemmas.List.{take_more}
use Rattle.lsp_base.specs.declared.position.Position.{Position}
use Rattle.lsp_index.specs.declared.lines.Search.{Search}
use Rattle.lsp_index.specs.Graph.{Graph, graph_of}
use Rattle.lsp_index.specs.Queries.{IsAnswer}
use Rattle.lsp_index.specs.Entries.{entry_data}
use Rattle.lsp_index.specs.Shown.{show_query}
use Rattle.lsp_index.specs.Kept.{IsKept}
use Rattle.lsp_index.specs.Answered.{IsAnswerLine, AreLines, AreAnswers, IsLine, query_at}
use Rattle.lsp_index.specs.Reading.{TookGoodDump}
use Rattle.lsp_index.proofs.LineLemmas.{entries_good}

lines-append : (P : Position → List ℕ → Type 0) (ps : List Position) (lines : List (String Global)) (p : Position) (line : String Global) → AreLines P ps lines → P p (string_bytes line) → AreLines P (ps ++ p ∷ []) (lines ++ line ∷ [])
lines-append P [] [] p line are is = (is, tt)
lines-append P [] (l ∷ ls) p line are is = absurd are
lines-append P (x ∷ ps) [] p line are is = absurd are
lines-append P (x ∷ ps) (l ∷ ls) p line are is = (are.0, lines-append P ps ls p line are.1 is)

-- one more position
pub lines_more : (P : Position → List ℕ → Type 0) (ps : List Position) (i : ℕ) (d : Position) (lines new : List (String Global)) (line : String Global) → i < length ps → AreLines P (take i ps) lines
    → P (get_or ps i d) (string_bytes line) → new ≡ lines ++ line ∷ [] → AreLines P (take (i + 1) ps) new
lines_more P ps i d lines new line within are is put =
    subst (λ l. AreLines P (take (i + 1) ps) l) (sym put) (subst (λ l. AreLines P l (lines ++ line ∷ [])) (sym (take_more ps i d within)) (lines-append P (take i ps) lines (get_or ps i d) line are is))

lines-weaker : (P Q : Position → List ℕ → Type 0) → ((p : Position) (line : List ℕ) → P p line → Q p line) → (ps : List Position) (lines : List (String Global)) → AreLines P ps lines → AreLines Q ps lines
lines-weaker P Q f [] [] are = tt
lines-weaker P Q f [] (l ∷ ls) are = absurd are
lines-weaker P Q f (p ∷ ps) [] are = absurd are
lines-weaker P Q f (p ∷ ps) (l ∷ ls) are = (f p (string_bytes l) are.0, lines-weaker P Q f ps ls are.1)

-- the lines over the index of a dump answer over its entries
pub answers_each : (search new : Search) (bytes : List ℕ) (ps : List Position) (lines : Vec (String Global) Global) → TookGoodDump search bytes new
    → ((g : Graph) → IsKept g new.index → AreLines (λ p line. IsLine (query_at (show_query new.query) p) g line) ps lines.items) → AreAnswers (λ p. query_at (show_query search.query) p) bytes ps (Some lines)
answers_each search new bytes ps lines took are =
    let g : Graph = graph_of (map (entry_data search.query.request) took.es) in
    let each : (p : Position) (line : List ℕ) → IsLine (query_at (show_query new.query) p) g line → IsAnswerLine (query_at (show_query search.query) p) bytes line =
    λ p line a. record {
      es = took.es;
      entries = took.entries;
      text = a.0;
      answers = subst (λ q. IsAnswer (query_at q p) g a.0) took.query a.1;
      line_is = a.2;
    } in
    (entries_good bytes took.es took.entries, lines-weaker (λ p line. IsLine (query_at (show_query new.query) p) g line) (λ p line. IsAnswerLine (query_at (show_query search.query) p) bytes line) each ps lines.items (are g took.kept))
