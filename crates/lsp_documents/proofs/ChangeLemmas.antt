-- Changes of characters and of bytes.
use Rattle.std.proofs.Common.{◌≡◌, ◌<◌, ◌≤◌, ◌+◌, ℕ, List, ◌++◌, cond, Option, Some, None, refl, sym, ap, ◌∙◌, subst, arith, length, map, take, drop, get_or}
use Rattle.std.specs.Prelude.{slice_index, IsSome}
use Rattle.std.specs.Option.{option_and_then}
use Rattle.std.specs.Str.{chars, IsUtf8, IsCharBoundary}
use Rattle.std.proofs.lemmas.Bool.{lt-leb, le-leb}
use Rattle.std.proofs.lemmas.List.{take_at, drop_at, drop_all, append-nil, at_drop_more, at_drop_all}
use Rattle.std.proofs.lemmas.Str.{encodes-append, encodes-chars, scalars-chars, chars_from_encodes, IsCharBoundary-at_seam}
use lib.Utf8.{encodes}
use Rattle.lsp_base.specs.declared.document.TextDocumentContentChangeEvent.{TextDocumentContentChangeEvent}
use Rattle.lsp_base.specs.declared.position.Range.{Range}
use Rattle.lsp_documents.specs.Lines.{first_line, from_line, place_of, place_from}
use Rattle.lsp_documents.specs.Documents.{change_of, changed_in, changed, all_changed}
use Rattle.lsp_documents.proofs.FittingLemmas.{fitting-le, first_line-le}
use Rattle.lsp_documents.proofs.LineLemmas.{IsOptionEnd, from_line-end}
use Rattle.lsp_documents.proofs.PlaceLemmas.{bytes_apart, scalars-drop}
use Rattle.lsp_documents.proofs.PositionLemmas.{bytes_to, place_below, place_before}

-- ---- a place is within the text

pub place_within : (line character : ℕ) (cs : List ℕ) → place_of line character cs ≤ length cs
place_within line character cs = go (from_line line cs) (from_line-end line cs)
  where
    go : (o : Option (List ℕ)) → IsOptionEnd cs o → place_from (length cs) character o ≤ length cs
    go None h = omega arith
    go (Some rest) h = omega (arith, h.shorter, fitting-le character (first_line rest), first_line-le rest)

-- ---- the text between two places

front_bytes : (bs : List ℕ) (p : ℕ) → IsUtf8 bs → take (bytes_to (chars bs) p) bs ≡ encodes (take p (chars bs))
front_bytes bs p u =
    let cs = chars bs in
    ap (take (bytes_to cs p)) (sym (encodes-chars bs u) ∙ bytes_apart cs p)
    ∙ take_at (encodes (take p cs)) (encodes (drop p cs)) (bytes_to cs p) refl

back_bytes : (bs : List ℕ) (p : ℕ) → IsUtf8 bs → drop (bytes_to (chars bs) p) bs ≡ encodes (drop p (chars bs))
back_bytes bs p u =
    let cs = chars bs in
    ap (drop (bytes_to cs p)) (sym (encodes-chars bs u) ∙ bytes_apart cs p)
    ∙ drop_at (encodes (take p cs)) (encodes (drop p cs)) (bytes_to cs p) refl

pub boundary : (bs : List ℕ) (p : ℕ) → IsUtf8 bs → IsCharBoundary bs (bytes_to (chars bs) p)
boundary bs p u =
    let cs = chars bs in
    IsCharBoundary-at_seam bs (encodes (take p cs)) (encodes (drop p cs)) (sym (encodes-chars bs u) ∙ bytes_apart cs p)
    (drop p cs, (scalars-drop p cs (scalars-chars bs u), refl))

-- where a text may be cut
abbrev pub IsCut : List ℕ → ℕ → Type 0
IsCut bs n = (n ≤ length bs) × (0 < n → n < length bs → 128 ≤ slice_index bs n → 192 ≤ slice_index bs n)

place_is_cut : (bs : List ℕ) (p n : ℕ) → IsUtf8 bs → n ≡ bytes_to (chars bs) p → IsCut bs n
place_is_cut bs p n u is = let b = boundary bs p u in subst (λ m. IsCut bs m) (sym is) (b.0, λ _. b.1)

spliced : (bs s out : List ℕ) (p q : ℕ) → IsUtf8 bs → IsUtf8 s → IsUtf8 out → out ≡ (take (bytes_to (chars bs) p) bs ++ s) ++ drop (bytes_to (chars bs) q) bs
    → (take p (chars bs) ++ chars s) ++ drop q (chars bs) ≡ chars out
spliced bs s out p q u v w e =
    let cs = chars bs in
    chars_from_encodes ((take p cs ++ chars s) ++ drop q cs) out w
    (encodes-append (take p cs ++ chars s) (drop q cs)
    ∙ ap (λ x. x ++ encodes (drop q cs)) (encodes-append (take p cs) (chars s))
    ∙ ap (λ x. (x ++ encodes (chars s)) ++ encodes (drop q cs)) (sym (front_bytes bs p u))
    ∙ ap (λ x. (take (bytes_to cs p) bs ++ x) ++ encodes (drop q cs)) (encodes-chars s v)
    ∙ ap (λ x. (take (bytes_to cs p) bs ++ s) ++ x) (sym (back_bytes bs q u))
    ∙ sym e)

-- ---- a change of a range

-- these bytes are those of two positions
abbrev pub start_in : List ℕ → Range → ℕ
start_in cs r = place_of r.start.line r.start.character cs

abbrev pub end_in : List ℕ → Range → ℕ
end_in cs r = place_of r.end.line r.end.character cs

range_behind : (bs s : List ℕ) (r : Range) (start end : ℕ) → start ≡ bytes_to (chars bs) (start_in (chars bs) r) → end ≡ bytes_to (chars bs) (end_in (chars bs) r) → end < start → changed_in (Some r) s (chars bs) ≡ None
range_behind bs s r start end is_start is_end behind =
    let cs = chars bs in
    let less : bytes_to cs (end_in cs r) < bytes_to cs (start_in cs r) = omega (arith, is_start, is_end) in
    ap (λ b. cond b (Some ((take (start_in cs r) cs ++ s) ++ drop (end_in cs r) cs)) None) (lt-leb _ _ (place_before cs (end_in cs r) (start_in cs r) less))

range_changed : (bs s out : List ℕ) (r : Range) (start end : ℕ) → IsUtf8 bs → IsUtf8 s → IsUtf8 out → start ≡ bytes_to (chars bs) (start_in (chars bs) r) → end ≡ bytes_to (chars bs) (end_in (chars bs) r) → start ≤ end
    → out ≡ (take start bs ++ s) ++ drop end bs → changed_in (Some r) (chars s) (chars bs) ≡ Some (chars out)
range_changed bs s out r start end u v w is_start is_end le e =
    let cs = chars bs in
    let p = start_in cs r in
    let q = end_in cs r in
    let no_less : bytes_to cs p ≤ bytes_to cs q = omega (arith, is_start, is_end) in
    let no_behind = place_below cs p q (place_within r.start.line r.start.character cs) no_less in
    let made = e ∙ ap (λ n. (take n bs ++ s) ++ drop end bs) is_start ∙ ap (λ n. (take (bytes_to cs p) bs ++ s) ++ drop n bs) is_end in
    ap (λ b. cond b (Some ((take p cs ++ chars s) ++ drop q cs)) None) (le-leb _ _ no_behind)
    ∙ ap Some (spliced bs s out p q u v w made)

whole_replaced : (bs s out : List ℕ) (end : ℕ) → end ≡ length bs → out ≡ (take 0 bs ++ s) ++ drop end bs → out ≡ s
whole_replaced bs s out end all e = e ∙ ap (λ x. s ++ x) (drop_all end bs (omega (arith, all))) ∙ append-nil s

-- ---- one change

-- these bytes are those that a change replaces: those of the positions of its range, or all
abbrev pub AreBytesOf : Option Range → List ℕ → ℕ → ℕ → Type 0
AreBytesOf None bs start end = (start ≡ 0) × (end ≡ length bs)
AreBytesOf (Some r) bs start end = (start ≡ bytes_to (chars bs) (start_in (chars bs) r)) × (end ≡ bytes_to (chars bs) (end_in (chars bs) r))

pub all_bytes : (o : Option Range) (bs : List ℕ) (p : ℕ × ℕ) (len : ℕ) → o ≡ None → p ≡ (0, len) → len ≡ length bs → AreBytesOf o bs p.0 p.1
all_bytes o bs p len none is all = subst (λ x. AreBytesOf x bs p.0 p.1) (sym none) (ap (λ (q : ℕ × ℕ). q.0) is, ap (λ (q : ℕ × ℕ). q.1) is ∙ all)

pub range_bytes : (o : Option Range) (bs t : List ℕ) (p q : ℕ × ℕ) (r : Range) → o ≡ Some r → t ≡ bs → p ≡ q → q.0 ≡ bytes_to (chars t) (start_in (chars t) r) → q.1 ≡ bytes_to (chars t) (end_in (chars t) r) → AreBytesOf o bs p.0 p.1
range_bytes o bs t p q r some same is start end =
    subst (λ x. AreBytesOf x bs p.0 p.1) (sym some) (subst (λ x. AreBytesOf (Some r) x p.0 p.1) same (ap (λ (q : ℕ × ℕ). q.0) is ∙ start, ap (λ (q : ℕ × ℕ). q.1) is ∙ end))

pub are_cuts : (o : Option Range) (bs : List ℕ) (start end : ℕ) → IsUtf8 bs → AreBytesOf o bs start end → IsCut bs start × IsCut bs end
are_cuts None bs start end u is = ((omega (arith, is.0), λ less. absurd (omega (arith, less, is.0))), (omega (arith, is.1), λ _ less. absurd (omega (arith, less, is.1))))
are_cuts (Some r) bs start end u is = (place_is_cut bs (start_in (chars bs) r) start u is.0, place_is_cut bs (end_in (chars bs) r) end u is.1)

pub change_behind : (o : Option Range) (bs s : List ℕ) (start end : ℕ) → AreBytesOf o bs start end → end < start → changed_in o s (chars bs) ≡ None
change_behind None bs s start end is less = absurd (omega (arith, less, is.0))
change_behind (Some r) bs s start end is less = range_behind bs s r start end is.0 is.1 less

pub change_fits : (o : Option Range) (bs s : List ℕ) (start end : ℕ) → AreBytesOf o bs start end → start ≤ end → IsSome (changed_in o s (chars bs))
change_fits None bs s start end is le = refl
change_fits (Some r) bs s start end is le =
    let cs = chars bs in
    let p = start_in cs r in
    let q = end_in cs r in
    let no_less : bytes_to cs p ≤ bytes_to cs q = omega (arith, is.0, is.1, le) in
    let no_behind = place_below cs p q (place_within r.start.line r.start.character cs) no_less in
    subst (λ b. IsSome (cond b (Some ((take p cs ++ s) ++ drop q cs)) None)) (sym (le-leb _ _ no_behind)) refl

pub change_made : (o : Option Range) (bs s out : List ℕ) (start end : ℕ) → IsUtf8 bs → IsUtf8 s → IsUtf8 out → AreBytesOf o bs start end → start ≤ end → out ≡ (take start bs ++ s) ++ drop end bs
    → changed_in o (chars s) (chars bs) ≡ Some (chars out)
change_made None bs s out start end u v w is le e = ap (λ x. Some (chars x)) (sym (whole_replaced bs s out end is.1 (e ∙ ap (λ n. (take n bs ++ s) ++ drop end bs) is.0)))
change_made (Some r) bs s out start end u v w is le e = range_changed bs s out r start end u v w is.0 is.1 le e

-- ---- changes in order

module _ (es : List TextDocumentContentChangeEvent) (i : ℕ) (e : TextDocumentContentChangeEvent) where
  rest_of : i < length es → e ≡ get_or es i e → (t : List ℕ) → all_changed (map change_of (drop i es)) t ≡ option_and_then (all_changed (map change_of (drop (i + 1) es))) (changed (change_of e) t)
  rest_of less is t = at_drop_more (λ ds. all_changed (map change_of ds) t) es i e less ∙ ap (λ x. option_and_then (all_changed (map change_of (drop (i + 1) es))) (changed (change_of x) t)) (sym is)

  pub one_changed : i < length es → e ≡ get_or es i e → (t later : List ℕ) → changed (change_of e) t ≡ Some later → all_changed (map change_of (drop (i + 1) es)) later ≡ all_changed (map change_of (drop i es)) t
  one_changed less is t later h = sym (rest_of less is t ∙ ap (option_and_then (all_changed (map change_of (drop (i + 1) es)))) h)

  pub none_changed : i < length es → e ≡ get_or es i e → (t : List ℕ) → changed (change_of e) t ≡ None → all_changed (map change_of (drop i es)) t ≡ None
  none_changed less is t h = rest_of less is t ∙ ap (option_and_then (all_changed (map change_of (drop (i + 1) es)))) h

pub all_made : (es : List TextDocumentContentChangeEvent) (i : ℕ) (t : List ℕ) → length es ≤ i → all_changed (map change_of (drop i es)) t ≡ Some t
all_made es i t le = at_drop_all (λ ds. all_changed (map change_of ds) t) es i le

pub only_changed : (es : List TextDocumentContentChangeEvent) (e : TextDocumentContentChangeEvent) (t : List ℕ) (o : Option (List ℕ)) → length es ≡ 1 → e ≡ get_or es 0 e → changed (change_of e) t ≡ o → all_changed (map change_of es) t ≡ o
only_changed es e t o one is h =
    at_drop_more (λ ds. all_changed (map change_of ds) t) es 0 e (omega arith)
    ∙ ap (λ x. option_and_then (all_changed (map change_of (drop (0 + 1) es))) (changed (change_of x) t)) (sym is)
    ∙ ap (option_and_then (all_changed (map change_of (drop (0 + 1) es)))) h ∙ go o
  where
    go : (o : Option (List ℕ)) → option_and_then (all_changed (map change_of (drop (0 + 1) es))) o ≡ o
    go None = refl
    go (Some x) = at_drop_all (λ ds. all_changed (map change_of ds) x) es (0 + 1) (omega arith)
