-- A dump, line by line.
use Rattle.std.proofs.Common.{◌≡◌, ◌==◌, ℕ, ◌+◌, ◌-◌, length, take, drop, List, [], ◌∷◌, ◌++◌, Bool, true, false, cond, ◌||◌, not, Some, None, map, fold, refl, sym, ◌∙◌, ap, subst, append_assoc}
use Rattle.std.specs.Prelude.{is_none}
use Rattle.std.specs.List.{list_any}
use Rattle.std.specs.Str.Lines.{strip_carriage_return}
use Rattle.std.proofs.lemmas.List.{append-nil, map-append, take_rest}
use Rattle.memchr.specs.Find.{IsFirstByte, is_byte}
use Rattle.lsp_lsif.specs.Entry.{entry_row}
use Rattle.lsp_lsif.specs.declared.entry.Entry.{Entry}
use Rattle.lsp_index.specs.declared.lines.Lines.{Lines}
use Rattle.lsp_index.specs.declared.lines.Search.{Search}
use Rattle.lsp_index.specs.Graph.{Graph, graph_of}
use Rattle.lsp_index.specs.Queries.{QueryData, IsAnswer}
use Rattle.lsp_index.specs.Entries.{value_of_line, AreEntries, HasBadLine, entry_data}
use Rattle.lsp_index.specs.Shown.{show_query}
use Rattle.lsp_index.specs.Kept.{IsKept, with_entry}
use Rattle.lsp_index.specs.Reading.{ended_lines, part_after, HasNoEnd, values_of, shown_all, has_bad, HasBadEnded, TookGood, TookBad, TookText, TookLine, TookMore, TookBadIn, TookBytes, IsAfter, TookNothing, TookDump}
use Rattle.lsp_index.specs.Answered.{IsAnswerLine}
use Rattle.lsp_index.proofs.KeptLemmas.{graph_of-more}
use Rattle.lsp_index.proofs.LineLemmas.{ended-append, part-append, ended_none, part_none, no_end, cut_at_end, values-append, bad-append, or_right, all_values, bad_end, bad_stays, bad_ended}

module _ (q : QueryData) (before : List ℕ) (lines : Lines) (search : Search) (after : IsAfter q before (lines, search)) where
  -- bytes of a line
  pub took_part : (bytes : List ℕ) → HasNoEnd bytes → (new : Lines) → new.part.items ≡ lines.part.items ++ bytes → IsAfter q (before ++ bytes) (new, search)
  took_part bytes none new grown = record {
    query = after.query;
    good = after.good;
    part = grown ∙ ap (λ p. p ++ bytes) after.part ∙ sym (part-append [] before bytes ∙ part_none (part_after [] before) bytes none);
    es = after.es;
    values = ap values_of (ended-append [] before bytes ∙ ap (λ l. ended_lines [] before ++ l) (ended_none (part_after [] before) bytes none) ∙ append-nil (ended_lines [] before)) ∙ after.values;
    kept = after.kept;
  }

  shown-append : (es fs : List Entry) → shown_all (es ++ fs) ≡ shown_all es ++ shown_all fs
  shown-append es fs = map-append (λ e. Some (entry_row.shown e)) es fs

  -- the entries, with those of a line
  kept_more : (line : List ℕ) (new : Search) (t : TookGood search line new) → IsKept (graph_of (map (entry_data q.request) (after.es ++ t.es))) new.index
  kept_more line new t =
      let same : search.query.request ≡ q.request = ap (λ (d : QueryData). d.request) after.query in
      let took = t.kept (graph_of (map (entry_data q.request) after.es)) after.kept in
      subst (λ g. IsKept g new.index)
      (ap (λ r. fold with_entry (graph_of (map (entry_data q.request) after.es)) (map (entry_data r) t.es)) same
      ∙ sym (graph_of-more (map (entry_data q.request) after.es) (map (entry_data q.request) t.es))
      ∙ ap graph_of (sym (map-append (entry_data q.request) after.es t.es))) took

  -- the last bytes of a line, and its LF
  module _ (bytes : List ℕ) (none : HasNoEnd bytes) where
    -- the lines that end where the LF comes
    ended_more : ended_lines [] (before ++ (bytes ++ 10 ∷ [])) ≡ ended_lines [] before ++ strip_carriage_return (lines.part.items ++ bytes) ∷ []
    ended_more =
        ended-append [] before (bytes ++ 10 ∷ [])
        ∙ ap (λ l. ended_lines [] before ++ l)
        (ended-append (part_after [] before) bytes (10 ∷ [])
        ∙ ap (λ l. l ++ ended_lines (part_after (part_after [] before) bytes) (10 ∷ [])) (ended_none (part_after [] before) bytes none)
        ∙ ap (λ p. strip_carriage_return p ∷ []) (part_none (part_after [] before) bytes none ∙ ap (λ p. p ++ bytes) (sym after.part)))

    -- of a line that is empty or an entry
    pub took_line : (new : Search) → TookGood search (strip_carriage_return (lines.part.items ++ bytes)) new → (rest : Lines) → rest.part.items ≡ [] → IsAfter q (before ++ (bytes ++ 10 ∷ [])) (rest, new)
    took_line new t rest empty = record {
      query = ap show_query t.query ∙ after.query;
      good = t.good ∙ after.good;
      part = empty ∙ sym (part-append [] before (bytes ++ 10 ∷ []) ∙ part-append (part_after [] before) bytes (10 ∷ []));
      es = after.es ++ t.es;
      values = ap values_of ended_more ∙ values-append (ended_lines [] before) (strip_carriage_return (lines.part.items ++ bytes) ∷ [])
          ∙ ap (λ l. l ++ values_of (strip_carriage_return (lines.part.items ++ bytes) ∷ [])) after.values ∙ ap (λ l. shown_all after.es ++ l) t.values ∙ sym (shown-append after.es t.es);
      kept = kept_more (strip_carriage_return (lines.part.items ++ bytes)) new t;
    }

    -- of a bad line
    pub took_bad : (new : Search) → TookBad search (strip_carriage_return (lines.part.items ++ bytes)) new → HasBadEnded (before ++ (bytes ++ 10 ∷ []))
    took_bad new t =
        ap has_bad ended_more ∙ bad-append (ended_lines [] before) (strip_carriage_return (lines.part.items ++ bytes) ∷ [])
        ∙ or_right (has_bad (ended_lines [] before)) (has_bad (strip_carriage_return (lines.part.items ++ bytes) ∷ [])) t.bad

  -- ---- the last line, which has no end

  pub took_last : (new : Search) (t : TookGood search lines.part.items new) → AreEntries before (after.es ++ t.es) × IsKept (graph_of (map (entry_data q.request) (after.es ++ t.es))) new.index
  took_last new t = (
    all_values before ∙ ap (λ p. values_of (ended_lines [] before) ++ values_of (p ∷ [])) (sym after.part) ∙ ap (λ l. l ++ values_of (lines.part.items ∷ [])) after.values
        ∙ ap (λ l. shown_all after.es ++ l) t.values ∙ sym (shown-append after.es t.es),
    kept_more lines.part.items new t,
  )

  pub took_last_bad : (new : Search) → TookBad search lines.part.items new → HasBadLine before
  took_last_bad new t = bad_end before (ap (λ p. has_bad (p ∷ [])) (sym after.part) ∙ t.bad)

  -- the line of the answer over all entries
  pub answer_line : (new : Search) (t : TookGood search lines.part.items new) (line : List ℕ)
      → ((g : Graph) → IsKept g new.index → (text : List ℕ) × IsAnswer (show_query new.query) g text × (line ≡ text ++ 10 ∷ [])) → IsAnswerLine q before line
  answer_line new t line answered =
      let last = took_last new t in
      let a = answered (graph_of (map (entry_data q.request) (after.es ++ t.es))) last.1 in
      record {
        es = after.es ++ t.es;
        entries = last.0;
        text = a.0;
        answers = subst (λ d. IsAnswer d (graph_of (map (entry_data q.request) (after.es ++ t.es))) a.0) (ap show_query t.query ∙ after.query) a.1;
        line_is = a.2;
      }

-- ---- bytes

pub took_both : (a b c : Lines × Search) (xs ys : List ℕ) → TookMore a xs b → TookMore b ys c → TookMore a (xs ++ ys) c
took_both a b c xs ys p r = λ q before after. subst (λ l. IsAfter q l c) (append_assoc before xs ys) (r q (before ++ xs) (p q before after))

-- bytes after others
pub took_then : (a b c : Lines × Search) (xs ys : List ℕ) (good : Bool) → TookMore a xs b → TookBytes b ys good c → TookBytes a (xs ++ ys) good c
took_then a b c xs ys true p r = took_both a b c xs ys p r
took_then a b c xs ys false p r = (r.0, λ q before after. subst HasBadEnded (append_assoc before xs ys) (r.1 q (before ++ xs) (p q before after)))

-- bytes in which a bad line ends, and others
pub took_bad_then : (a b : Lines × Search) (xs ys : List ℕ) → TookBadIn a xs b → TookBadIn a (xs ++ ys) b
took_bad_then a b xs ys t = (t.0, λ q before after. subst HasBadEnded (append_assoc before xs ys) (bad_stays (before ++ xs) ys (t.1 q before after)))

-- the last bytes of a line that is good or isn't, and its LF
pub took_end : (lines rest : Lines) (search new : Search) (bytes : List ℕ) (good : Bool) → HasNoEnd bytes
    → TookLine search (strip_carriage_return (lines.part.items ++ bytes)) good new → rest.part.items ≡ [] → TookBytes (lines, search) (bytes ++ 10 ∷ []) good (rest, new)
took_end lines rest search new bytes true none t empty = λ q before after. took_line q before lines search after bytes none new t rest empty
took_end lines rest search new bytes false none t empty = (t.is_bad, λ q before after. took_bad q before lines search after bytes none new t)

-- what the bytes after a line come to is what these and the line come to
pub took_rest : (a b last : Lines × Search) (bytes : List ℕ) (end : ℕ) (good : Bool) → IsFirstByte (is_byte 10) bytes (Some end) → TookMore a (take end bytes ++ 10 ∷ []) b
    → TookBytes b (take (length bytes - (end + 1)) (drop (end + 1) bytes)) good last → TookBytes a bytes good last
took_rest a b last bytes end good found p r =
    subst (λ l. TookBytes a l good last) (cut_at_end bytes end found)
    (took_then a b last (take end bytes ++ 10 ∷ []) (drop (end + 1) bytes) good p (subst (λ l. TookBytes b l good last) (take_rest bytes (end + 1)) r))

-- a bad line ends
pub took_bad_rest : (a b : Lines × Search) (bytes : List ℕ) (end : ℕ) → IsFirstByte (is_byte 10) bytes (Some end) → TookBadIn a (take end bytes ++ 10 ∷ []) b → TookBadIn a bytes b
took_bad_rest a b bytes end found p =
    subst (λ l. TookBadIn a l b) (cut_at_end bytes end found) (took_bad_then a b (take end bytes ++ 10 ∷ []) (drop (end + 1) bytes) p)

-- no line ends in what is left
pub took_last_part : (lines grown : Lines) (search : Search) (bytes : List ℕ) → IsFirstByte (is_byte 10) bytes None → grown.part.items ≡ lines.part.items ++ bytes → TookMore (lines, search) bytes (grown, search)
took_last_part lines grown search bytes none is = λ q before after. took_part q before lines search after bytes (no_end bytes none) grown is

-- ---- a call

pub after_none : (lines : Lines) (search : Search) → lines.part.items ≡ [] → search.is_bad ≡ false → IsKept (graph_of []) search.index → IsAfter (show_query search.query) [] (lines, search)
after_none lines search empty good kept = record { query = refl; good = good; part = empty; es = []; values = refl; kept = kept }

-- ---- a line

pub took_empty : (search : Search) (line : List ℕ) → (length line == 0) ≡ true → TookGood search line search
took_empty search line empty = record {
  query = refl;
  good = refl;
  es = [];
  values = ap (λ b. map value_of_line (cond (not b) (line ∷ []) [])) empty;
  kept = λ g kept. kept;
}

pub took_entry : (search new : Search) (line : List ℕ) (entry : Entry) → (length line == 0) ≡ false → value_of_line line ≡ Some (entry_row.shown entry)
    → ((g : Graph) → IsKept g search.index → IsKept (with_entry g (entry_data search.query.request entry)) new.index) → new.query ≡ search.query → new.is_bad ≡ search.is_bad → TookGood search line new
took_entry search new line entry filled is kept query good = record {
  query = query;
  good = good;
  es = entry ∷ [];
  values = ap (λ b. map value_of_line (cond (not b) (line ∷ []) [])) filled ∙ ap (λ v. v ∷ []) is;
  kept = kept;
}

pub took_none : (search new : Search) (line : List ℕ) → (length line == 0) ≡ false → value_of_line line ≡ None → new.is_bad ≡ true → TookBad search line new
took_none search new line filled is bad = record {
  is_bad = bad;
  bad = ap (λ b. list_any (λ l. is_none (value_of_line l)) (cond (not b) (line ∷ []) [])) filled ∙ ap (λ v. is_none v || false) is;
}

-- a text that is no entry, or one
pub took_text : (search new : Search) (line : List ℕ) (good : Bool) → (length line == 0) ≡ false → TookText search (value_of_line line) good new → TookLine search line good new
took_text search new line true filled t = took_entry search new line t.entry filled t.is t.kept t.query t.good
took_text search new line false filled t = took_none search new line filled t.1 t.0

-- ---- a dump

-- the last line, too, is empty or an entry, or it is bad
pub took_dump : (lines grown : Lines) (search more new : Search) (bytes : List ℕ) (good : Bool) → lines.part.items ≡ [] → TookMore (lines, search) bytes (grown, more) → TookLine more grown.part.items good new
    → TookNothing search → TookDump search bytes good new
took_dump lines grown search more new bytes true empty p t fresh =
    let q = show_query search.query in
    let after : IsAfter q bytes (grown, more) = p q [] (after_none lines search empty fresh.0 fresh.1) in
    let last = took_last q bytes grown more after new t in
    record { query = ap show_query t.query ∙ after.query; es = after.es ++ t.es; entries = last.0; kept = last.1 }
took_dump lines grown search more new bytes false empty p t fresh =
    let q = show_query search.query in
    took_last_bad q bytes grown more (p q [] (after_none lines search empty fresh.0 fresh.1)) new t

-- a line of it is bad
pub took_bad_dump : (lines grown : Lines) (search new : Search) (bytes : List ℕ) → lines.part.items ≡ [] → TookBadIn (lines, search) bytes (grown, new) → TookNothing search → HasBadLine bytes
took_bad_dump lines grown search new bytes empty t fresh = bad_ended bytes (t.1 (show_query search.query) [] (after_none lines search empty fresh.0 fresh.1))
