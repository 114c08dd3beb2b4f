-- The lines that end in bytes, and the last one.
use Rattle.std.proofs.Common.{◌≡◌, ◌==◌, ℕ, zero, suc, ◌+◌, ◌≤◌, length, take, drop, get_or, take-append-drop, List, [], ◌∷◌, ◌++◌, Bool, true, false, cond, ◌||◌, not, Some, None, map, refl, sym, ◌∙◌, ap, subst, append_assoc, true≢false, arith, ◌⊎◌, inl, inr}
use Rattle.std.specs.Prelude.{is_none}
use Rattle.std.specs.List.{list_any, slice_split, onto_first}
use Rattle.std.specs.Str.Lines.{lines, lines_of_parts, strip_carriage_return}
use Rattle.std.proofs.lemmas.Bool.{eqb-true, eq-eqb}
use Rattle.std.proofs.lemmas.List.{append-nil, map-append, take_all, take_more}
use Rattle.std.proofs.lemmas.List.Elements.{filter-append}
use Rattle.std.proofs.lemmas.List.Folds.{list_any-append}
use Rattle.memchr.specs.Find.{Nowhere, Passes, IsFirstByte, is_byte}
use Rattle.lsp_lsif.specs.declared.entry.Entry.{Entry}
use Rattle.lsp_index.specs.Entries.{value_of_line, entry_lines, AreEntries, HasBadLine, EndsBadLine}
use Rattle.lsp_index.specs.Reading.{ended_lines, part_after, HasNoEnd, filled, values_of, shown_all, has_bad, HasBadEnded}

-- ---- bytes after bytes

pub ended-append : (p xs ys : List ℕ) → ended_lines p (xs ++ ys) ≡ ended_lines p xs ++ ended_lines (part_after p xs) ys
ended-append p [] ys = refl
ended-append p (b ∷ xs) ys = at (b == 10) (ended-append [] xs ys) (ended-append (p ++ b ∷ []) xs ys)
  where
    at : (t : Bool) → ended_lines [] (xs ++ ys) ≡ ended_lines [] xs ++ ended_lines (part_after [] xs) ys
        → ended_lines (p ++ b ∷ []) (xs ++ ys) ≡ ended_lines (p ++ b ∷ []) xs ++ ended_lines (part_after (p ++ b ∷ []) xs) ys
        → cond t (strip_carriage_return p ∷ ended_lines [] (xs ++ ys)) (ended_lines (p ++ b ∷ []) (xs ++ ys))
        ≡ cond t (strip_carriage_return p ∷ ended_lines [] xs) (ended_lines (p ++ b ∷ []) xs) ++ ended_lines (cond t (part_after [] xs) (part_after (p ++ b ∷ []) xs)) ys
    at true h k = ap (λ l. strip_carriage_return p ∷ l) h
    at false h k = k

pub part-append : (p xs ys : List ℕ) → part_after p (xs ++ ys) ≡ part_after (part_after p xs) ys
part-append p [] ys = refl
part-append p (b ∷ xs) ys = at (b == 10) (part-append [] xs ys) (part-append (p ++ b ∷ []) xs ys)
  where
    at : (t : Bool) → part_after [] (xs ++ ys) ≡ part_after (part_after [] xs) ys → part_after (p ++ b ∷ []) (xs ++ ys) ≡ part_after (part_after (p ++ b ∷ []) xs) ys
        → cond t (part_after [] (xs ++ ys)) (part_after (p ++ b ∷ []) (xs ++ ys)) ≡ part_after (cond t (part_after [] xs) (part_after (p ++ b ∷ []) xs)) ys
    at true h k = h
    at false h k = k

-- ---- bytes in which no line ends

pub ended_none : (p bs : List ℕ) → HasNoEnd bs → ended_lines p bs ≡ []
ended_none p [] none = refl
ended_none p (b ∷ bs) none = at (b == 10) none (ended_none (p ++ b ∷ []) bs)
  where
    at : (t : Bool) → (t || list_any (λ c. c == 10) bs) ≡ false → (HasNoEnd bs → ended_lines (p ++ b ∷ []) bs ≡ [])
        → cond t (strip_carriage_return p ∷ ended_lines [] bs) (ended_lines (p ++ b ∷ []) bs) ≡ []
    at true none later = absurd (true≢false none)
    at false none later = later none

pub part_none : (p bs : List ℕ) → HasNoEnd bs → part_after p bs ≡ p ++ bs
part_none p [] none = sym (append-nil p)
part_none p (b ∷ bs) none = at (b == 10) none (part_none (p ++ b ∷ []) bs)
  where
    at : (t : Bool) → (t || list_any (λ c. c == 10) bs) ≡ false → (HasNoEnd bs → part_after (p ++ b ∷ []) bs ≡ (p ++ b ∷ []) ++ bs)
        → cond t (part_after [] bs) (part_after (p ++ b ∷ []) bs) ≡ p ++ b ∷ bs
    at true none later = absurd (true≢false none)
    at false none later = later none ∙ append_assoc p (b ∷ []) bs

-- a search of a byte has passed over n bytes
passed_over : (bs : List ℕ) (n : ℕ) → n ≤ length bs → Nowhere (Passes (is_byte 10) bs) 0 n → HasNoEnd (take n bs)
passed_over bs zero within none = refl
passed_over [] (suc n) within none = refl
passed_over (b ∷ bs) (suc n) within none =
    at (b == 10) (none 0 (omega arith) (omega arith)) (passed_over bs n (omega (arith, within)) (λ k low high. none (suc k) (omega arith) (omega (arith, high))))
  where
    at : (t : Bool) → (t ≡ true → ⊥) → HasNoEnd (take n bs) → (t || list_any (λ c. c == 10) (take n bs)) ≡ false
    at true differs none = absurd (differs refl)
    at false differs none = none

pub no_end : (bs : List ℕ) → IsFirstByte (is_byte 10) bs None → HasNoEnd bs
no_end bs none = subst HasNoEnd (take_all (length bs) bs (omega arith)) (passed_over bs (length bs) (omega arith) none)

pub first_end : (bs : List ℕ) (end : ℕ) → IsFirstByte (is_byte 10) bs (Some end) → HasNoEnd (take end bs)
first_end bs end found = passed_over bs end (omega (arith, found.0.high)) found.0.before

-- a line that is empty
pub empty_end : (bs : List ℕ) → (length bs == 0) ≡ false → get_or bs 0 0 ≡ 10 → IsFirstByte (is_byte 10) bs (Some 0)
empty_end [] some is = absurd (true≢false some)
empty_end (b ∷ bs) some is = (record { low = omega arith; high = omega arith; before = λ k low high. absurd (omega (arith, high)) }, eq-eqb b 10 is)

pub cut_at_end : (bs : List ℕ) (end : ℕ) → IsFirstByte (is_byte 10) bs (Some end) → (take end bs ++ 10 ∷ []) ++ drop (end + 1) bs ≡ bs
cut_at_end bs end found =
    ap (λ b. (take end bs ++ b ∷ []) ++ drop (end + 1) bs) (sym (eqb-true (get_or bs end 0) 10 found.1))
    ∙ ap (λ l. l ++ drop (end + 1) bs) (sym (take_more bs end 0 found.0.high)) ∙ take-append-drop (end + 1) bs

-- ---- all lines

last_of : List ℕ → List (List ℕ)
last_of p = cond (length p == 0) [] (p ∷ [])

abbrev prefixed : List ℕ → List (List ℕ) → List (List ℕ)
prefixed p [] = p ∷ []
prefixed p (x ∷ xs) = (p ++ x) ∷ xs

split_some : (bs : List ℕ) → (y : List ℕ) × (more : List (List ℕ)) × (slice_split (λ b. b == 10) bs ≡ y ∷ more)
split_some [] = ([], [], refl)
split_some (b ∷ bs) = let s = split_some bs in at (b == 10) s.0 s.1 s.2
  where
    at : (t : Bool) (y : List ℕ) (more : List (List ℕ)) → slice_split (λ b. b == 10) bs ≡ y ∷ more
        → (z : List ℕ) × (rest : List (List ℕ)) × (cond t ([] ∷ slice_split (λ b. b == 10) bs) (onto_first b (slice_split (λ b. b == 10) bs)) ≡ z ∷ rest)
    at true y more e = ([], slice_split (λ b. b == 10) bs, refl)
    at false y more e = (b ∷ y, more, ap (onto_first b) e)

ended_first : (p y : List ℕ) (more : List (List ℕ)) → lines_of_parts ((p ++ []) ∷ y ∷ more) ≡ strip_carriage_return p ∷ lines_of_parts (prefixed [] (y ∷ more))
ended_first p y more = ap (λ q. strip_carriage_return q ∷ lines_of_parts (y ∷ more)) (append-nil p)

unended_first : (p y : List ℕ) (b : ℕ) (more : List (List ℕ)) → lines_of_parts (prefixed p (onto_first b (y ∷ more))) ≡ lines_of_parts (prefixed (p ++ b ∷ []) (y ∷ more))
unended_first p y b more = ap (λ q. lines_of_parts (q ∷ more)) (sym (append_assoc p (b ∷ []) y))

lines_from : (p bs : List ℕ) → lines_of_parts (prefixed p (slice_split (λ b. b == 10) bs)) ≡ ended_lines p bs ++ last_of (part_after p bs)
unfolding last_of
lines_from p [] = ap (λ q. lines_of_parts (q ∷ [])) (append-nil p)
lines_from p (b ∷ bs) = let s = split_some bs in at (b == 10) s.0 s.1 s.2 (lines_from [] bs) (lines_from (p ++ b ∷ []) bs)
  where
    at : (t : Bool) (y : List ℕ) (more : List (List ℕ)) → slice_split (λ b. b == 10) bs ≡ y ∷ more
        → lines_of_parts (prefixed [] (slice_split (λ b. b == 10) bs)) ≡ ended_lines [] bs ++ last_of (part_after [] bs)
        → lines_of_parts (prefixed (p ++ b ∷ []) (slice_split (λ b. b == 10) bs)) ≡ ended_lines (p ++ b ∷ []) bs ++ last_of (part_after (p ++ b ∷ []) bs)
        → lines_of_parts (prefixed p (cond t ([] ∷ slice_split (λ b. b == 10) bs) (onto_first b (slice_split (λ b. b == 10) bs))))
        ≡ cond t (strip_carriage_return p ∷ ended_lines [] bs) (ended_lines (p ++ b ∷ []) bs) ++ last_of (cond t (part_after [] bs) (part_after (p ++ b ∷ []) bs))
    at true y more e h k =
        ap (λ S. lines_of_parts ((p ++ []) ∷ S)) e ∙ ended_first p y more ∙ ap (λ S. strip_carriage_return p ∷ lines_of_parts (prefixed [] S)) (sym e)
        ∙ ap (λ l. strip_carriage_return p ∷ l) h
    at false y more e h k =
        ap (λ S. lines_of_parts (prefixed p (onto_first b S))) e ∙ unended_first p y b more ∙ ap (λ S. lines_of_parts (prefixed (p ++ b ∷ []) S)) (sym e) ∙ k

unprefixed : (bs : List ℕ) → prefixed [] (slice_split (λ b. b == 10) bs) ≡ slice_split (λ b. b == 10) bs
unprefixed bs = let s = split_some bs in ap (prefixed []) s.2 ∙ sym s.2

lines_are : (bytes : List ℕ) → lines bytes ≡ ended_lines [] bytes ++ last_of (part_after [] bytes)
lines_are bytes = ap lines_of_parts (sym (unprefixed bytes)) ∙ lines_from [] bytes

-- ---- what lines tell

pub values-append : (xs ys : List (List ℕ)) → values_of (xs ++ ys) ≡ values_of xs ++ values_of ys
values-append xs ys = ap (map value_of_line) (filter-append (λ l. not (length l == 0)) xs ys) ∙ map-append value_of_line (filled xs) (filled ys)

pub bad-append : (xs ys : List (List ℕ)) → has_bad (xs ++ ys) ≡ (has_bad xs || has_bad ys)
bad-append xs ys = ap (list_any (λ l. is_none (value_of_line l))) (filter-append (λ l. not (length l == 0)) xs ys) ∙ list_any-append (λ l. is_none (value_of_line l)) (filled xs) (filled ys)

pub or_right : (a b : Bool) → b ≡ true → (a || b) ≡ true
or_right true b h = refl
or_right false b h = h

-- an empty last line tells nothing
last_filled : (p : List ℕ) → filled (last_of p) ≡ filled (p ∷ [])
unfolding last_of
last_filled p = at (length p == 0) refl
  where
    at : (t : Bool) → (length p == 0) ≡ t → filled (cond t [] (p ∷ [])) ≡ filled (p ∷ [])
    at true h = sym (ap (λ b. cond (not b) (p ∷ []) []) h)
    at false h = refl

pub all_values : (bytes : List ℕ) → map value_of_line (entry_lines bytes) ≡ values_of (ended_lines [] bytes) ++ values_of (part_after [] bytes ∷ [])
all_values bytes =
    ap values_of (lines_are bytes) ∙ values-append (ended_lines [] bytes) (last_of (part_after [] bytes))
    ∙ ap (λ l. values_of (ended_lines [] bytes) ++ map value_of_line l) (last_filled (part_after [] bytes))

pub bad_end : (bytes : List ℕ) → has_bad (part_after [] bytes ∷ []) ≡ true → HasBadLine bytes
bad_end bytes h =
    ap has_bad (lines_are bytes) ∙ bad-append (ended_lines [] bytes) (last_of (part_after [] bytes))
    ∙ or_right (has_bad (ended_lines [] bytes)) (has_bad (last_of (part_after [] bytes))) (ap (list_any (λ l. is_none (value_of_line l))) (last_filled (part_after [] bytes)) ∙ h)

pub bad_stays : (xs ys : List ℕ) → HasBadEnded xs → HasBadEnded (xs ++ ys)
bad_stays xs ys h =
    ap has_bad (ended-append [] xs ys) ∙ bad-append (ended_lines [] xs) (ended_lines (part_after [] xs) ys) ∙ ap (λ b. b || has_bad (ended_lines (part_after [] xs) ys)) h

pub bad_ended : (bytes : List ℕ) → HasBadEnded bytes → HasBadLine bytes
bad_ended bytes h =
    ap has_bad (lines_are bytes) ∙ bad-append (ended_lines [] bytes) (last_of (part_after [] bytes)) ∙ ap (λ b. b || has_bad (last_of (part_after [] bytes))) h

-- the last end of a line in bytes
last_end : (bs : List ℕ) → HasNoEnd bs ⊎ ((before : List ℕ) × (later : List ℕ) × (bs ≡ before ++ 10 ∷ later) × HasNoEnd later)
last_end [] = inl refl
last_end (b ∷ bs) =
    elim (last_end bs) [
      | inl none ↦ at none (b == 10) refl
      | inr found ↦ inr (b ∷ found.0, found.1, ap (λ l. b ∷ l) found.2, found.3)
    ]
  where
    at : HasNoEnd bs → (t : Bool) → (b == 10) ≡ t → HasNoEnd (b ∷ bs) ⊎ ((before : List ℕ) × (later : List ℕ) × (b ∷ bs ≡ before ++ 10 ∷ later) × HasNoEnd later)
    at none true is = inr ([], bs, ap (λ c. c ∷ bs) (eqb-true b 10 is), none)
    at none false is = inl (ap (λ t. t || list_any (λ c. c == 10) bs) is ∙ none)

pub ends_bad : (bytes : List ℕ) → HasBadEnded bytes → EndsBadLine bytes
ends_bad bytes h =
    elim (last_end bytes) [
      | inl none ↦ absurd (true≢false (sym h ∙ ap has_bad (ended_none [] bytes none)))
      | inr found ↦
          let front = found.0 ++ 10 ∷ [] in
          let parts : bytes ≡ front ++ found.1 = found.2 ∙ sym (append_assoc found.0 (10 ∷ []) found.1) in
          let ends : ended_lines [] bytes ≡ ended_lines [] front =
          ap (ended_lines []) parts ∙ ended-append [] front found.1 ∙ ap (λ l. ended_lines [] front ++ l) (ended_none (part_after [] front) found.1 found.3) ∙ append-nil (ended_lines [] front) in
          (found.0, found.1, found.2, bad_ended front (sym (ap has_bad ends) ∙ h))
    ]

pub has_ended : (bytes : List ℕ) → EndsBadLine bytes → HasBadEnded bytes
unfolding last_of
has_ended bytes h =
    let front = h.0 ++ 10 ∷ [] in
    let whole : part_after [] front ≡ [] = part-append [] h.0 (10 ∷ []) in
    let ends : lines front ≡ ended_lines [] front = lines_are front ∙ ap (λ p. ended_lines [] front ++ last_of p) whole ∙ append-nil (ended_lines [] front) in
    subst HasBadEnded (append_assoc h.0 (10 ∷ []) h.1 ∙ sym h.2) (bad_stays front h.1 (sym (ap has_bad ends) ∙ h.3))

any-values : (ls : List (List ℕ)) → list_any (λ l. is_none (value_of_line l)) ls ≡ list_any is_none (map value_of_line ls)
any-values [] = refl
any-values (l ∷ ls) = ap (λ b. is_none (value_of_line l) || b) (any-values ls)

none_bad : (es : List Entry) → list_any is_none (shown_all es) ≡ false
none_bad [] = refl
none_bad (e ∷ es) = none_bad es

-- where entries stand in lines, none is bad
values_good : (ls : List (List ℕ)) (es : List Entry) → values_of ls ≡ shown_all es → has_bad ls ≡ true → ⊥
values_good ls es are bad = true≢false (sym bad ∙ any-values (filled ls) ∙ ap (list_any is_none) are ∙ none_bad es)

pub entries_good : (bytes : List ℕ) (es : List Entry) → AreEntries bytes es → HasBadLine bytes → ⊥
entries_good bytes es are bad = values_good (lines bytes) es are bad

pub ended_good : (bytes : List ℕ) (es : List Entry) → values_of (ended_lines [] bytes) ≡ shown_all es → ¬ EndsBadLine bytes
ended_good bytes es are bad = values_good (ended_lines [] bytes) es are (has_ended bytes bad)
