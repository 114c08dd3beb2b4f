-- Blocks of bytes: the lines that end in one, and the code units of its characters.
use Rattle.std.proofs.Common.{◌≡◌, ◌<◌, ◌≤◌, ◌+◌, ◌-◌, ◌/◌, ℕ, suc, zero, List, [], ◌∷◌, ◌++◌, Bool, true, false, cond, Option, Some, None, option_map, refl, sym, ap, ◌∙◌, subst, arith, length, take, drop, get_or, nat_le, ◌⊎◌, inl, inr, sum_by}
use Rattle.std.specs.Prelude.{is_some, ◌==◌, ◌||◌, ◌&&◌, not}
use Rattle.std.specs.Option.{option_and_then}
use Rattle.std.specs.Str.{chars, IsUtf8, IsCharBoundary}
use Rattle.std.proofs.lemmas.Bool.{lt-ltb, le-ltb, lt-leb, le-leb, cases_lt}
use Rattle.std.proofs.lemmas.List.{length-append, length-take-le, take-append-drop}
use Rattle.std.proofs.lemmas.List.Sums.{sum_by-append, sum_by-cons}
use Rattle.std.proofs.lemmas.Str.{encode_ascii, encodes-append, encodes-chars, encodes_same, IsUtf8-take, IsUtf8-drop, IsCharBoundary-past_char, len_utf8_bounds}
use Rattle.std.specs.Char.{len_utf8}
use Rattle.std.proofs.Math.Seq.{take-append-add}
use lib.Utf8.{encode, encodes, next}
use Rattle.lsp_documents.specs.Lines.{units, first_line, after_carriage_return, later_lines, from_line, fitting}
use Rattle.lsp_documents.specs.Blocks.{ends_with, units_begun}
use Rattle.lsp_documents.proofs.LineLemmas.{later-encodes}

-- ---- lines that end in a block

-- 1 where a line ends with the character, which the others follow
abbrev ends_before : ℕ → List ℕ → ℕ
ends_before c [] = ends_with c 0
ends_before c (d ∷ ds) = ends_with c d

-- how many lines end with the first characters
abbrev pub count_ends : ℕ → List ℕ → ℕ
count_ends zero t = 0
count_ends (suc k) [] = 0
count_ends (suc k) (c ∷ cs) = ends_before c cs + count_ends k cs

-- a line ends with the character, or what follows has the same later lines
abbrev IsStep : ℕ → Option (List ℕ) → List ℕ → Option (List ℕ) → Type 0
IsStep e later cs others = ((e ≡ 1) × (later ≡ Some cs)) ⊎ ((e ≡ 0) × (later ≡ others))

step : (c : ℕ) (cs : List ℕ) → IsStep (ends_before c cs) (later_lines (c ∷ cs)) cs (later_lines cs)
step c [] = go (c == 10) (c == 13)
  where
    go : (a b : Bool) → IsStep (cond (a || (b && true)) 1 0) (cond a (Some []) (cond b (Some []) None)) [] None
    go true b = inl (refl, refl)
    go false true = inl (refl, refl)
    go false false = inr (refl, refl)
step c (d ∷ ds) = go (c == 10) (c == 13) (d == 10) (cond (d == 13) (Some (after_carriage_return ds)) (later_lines ds))
  where
    go : (a b f : Bool) (o : Option (List ℕ)) → IsStep (cond (a || (b && not f)) 1 0) (cond a (Some (d ∷ ds)) (cond b (Some (cond f ds (d ∷ ds))) (cond f (Some ds) o))) (d ∷ ds) (cond f (Some ds) o)
    go true b f o = inl (refl, refl)
    go false true true o = inr (refl, refl)
    go false true false o = inl (refl, refl)
    go false false f o = inr (refl, refl)

pub from_next : (n : ℕ) (t : List ℕ) → from_line (suc n) t ≡ option_and_then (from_line n) (later_lines t)
from_next zero t = go (later_lines t)
  where
    go : (o : Option (List ℕ)) → o ≡ option_and_then (from_line zero) o
    go None = refl
    go (Some rest) = refl
from_next (suc n) t = ap (option_and_then later_lines) (from_next n t) ∙ go (later_lines t)
  where
    go : (o : Option (List ℕ)) → option_and_then later_lines (option_and_then (from_line n) o) ≡ option_and_then (from_line (suc n)) o
    go None = refl
    go (Some rest) = refl

pub passed_lines : (k : ℕ) (t : List ℕ) (n : ℕ) → k ≤ length t → count_ends k t < n → from_line n t ≡ from_line (n - count_ends k t) (drop k t)
passed_lines zero t n le less = let e : n ≡ n - 0 = omega arith in ap (λ m. from_line m t) e
passed_lines (suc k) [] n le less = absurd (omega arith)
passed_lines (suc k) (c ∷ cs) zero le less = absurd (omega arith)
passed_lines (suc k) (c ∷ cs) (suc m) le less =
    elim (step c cs) [
      | inl h ↦ let e : m - count_ends k cs ≡ suc m - (ends_before c cs + count_ends k cs) = omega (arith, h.0) in
          from_next m (c ∷ cs) ∙ ap (option_and_then (from_line m)) h.1 ∙ passed_lines k cs m (omega (arith, le)) (omega (arith, less, h.0))
          ∙ ap (λ j. from_line j (drop k cs)) e
      | inr h ↦ let e : suc m - count_ends k cs ≡ suc m - (ends_before c cs + count_ends k cs) = omega (arith, h.0) in
          from_next m (c ∷ cs) ∙ ap (option_and_then (from_line m)) h.1 ∙ sym (from_next m cs) ∙ passed_lines k cs (suc m) (omega (arith, le)) (omega (arith, less, h.0))
          ∙ ap (λ j. from_line j (drop k cs)) e
    ]

ends_more : (k : ℕ) (t : List ℕ) → suc k < length t → count_ends (suc k) t ≡ count_ends k t + ends_with (get_or t k 0) (get_or t (suc k) 0)
ends_more k [] less = absurd (omega arith)
ends_more zero (c ∷ []) less = absurd (omega arith)
ends_more zero (c ∷ d ∷ ds) less = omega arith
ends_more (suc k) (c ∷ cs) less = omega (arith, ends_more k cs (omega arith))

pub count_more : (k : ℕ) (t : List ℕ) → k + 1 < length t → count_ends (k + 1) t ≡ count_ends k t + ends_with (get_or t k 0) (get_or t (k + 1) 0)
count_more k t less =
    let e : k + 1 ≡ suc k = omega arith in
    subst (λ n. count_ends n t ≡ count_ends k t + ends_with (get_or t k 0) (get_or t n 0)) (sym e) (ends_more k t (omega arith))

pub ends_with-le : (b d : ℕ) → ends_with b d ≤ 1
ends_with-le b d = go (b == 10 || (b == 13 && not (d == 10)))
  where
    go : (x : Bool) → cond x 1 0 ≤ 1
    go true = omega arith
    go false = omega arith

-- ---- code units of the characters that begin in a block

small : (b : ℕ) → b < 128 → units_begun b ≡ 1
small b h = rw (lt-ltb b 128 h, lt-leb 240 b (omega arith))

inside : (n : ℕ) → units_begun (next n) ≡ 0
inside n =
    rw (le-ltb (next n) 128 (omega arith), lt-leb 192 (next n) (omega arith), lt-leb 240 (next n) (omega arith))

lead : (b : ℕ) → 192 ≤ b → b < 240 → units_begun b ≡ 1
lead b l h = rw (le-ltb b 128 (omega arith), le-leb 192 b l, lt-leb 240 b h)

long_lead : (b : ℕ) → 240 ≤ b → units_begun b ≡ 2
long_lead b l = rw (le-ltb b 128 (omega arith), le-leb 192 b (omega arith), le-leb 240 b l)

two : (c : ℕ) → 128 ≤ c → c < 2048 → encode c ≡ (192 + c / 64) ∷ next c ∷ []
unfolding encode
two c l h = rw (le-ltb c 128 l, lt-ltb c 2048 h)

three : (c : ℕ) → 2048 ≤ c → c < 65536 → encode c ≡ (224 + c / 4096) ∷ next (c / 64) ∷ next c ∷ []
unfolding encode
three c l h = rw (le-ltb c 128 (omega arith), le-ltb c 2048 l, lt-ltb c 65536 h)

four : (c : ℕ) → 65536 ≤ c → encode c ≡ (240 + c / 262144) ∷ next (c / 4096) ∷ next (c / 64) ∷ next c ∷ []
unfolding encode
four c l = rw (le-ltb c 128 (omega arith), le-ltb c 2048 (omega arith), le-ltb c 65536 l)

one_unit : (c : ℕ) → c < 65536 → units c ≡ 1
one_unit c h = rw (lt-ltb c 65536 h)

two_units : (c : ℕ) → 65536 ≤ c → units c ≡ 2
two_units c l = rw (le-ltb c 65536 l)

units_encode : (c : ℕ) → sum_by units_begun (encode c) ≡ units c
units_encode c =
    elim (cases_lt c 128) [
      | inl h ↦ ap (sum_by units_begun) (encode_ascii c h) ∙ omega (arith, small c h, one_unit c (omega arith))
      | inr l ↦ elim (cases_lt c 2048) [
        | inl h ↦ ap (sum_by units_begun) (two c l h) ∙ omega (arith, lead (192 + c / 64) (omega arith) (omega arith), inside c, one_unit c (omega arith))
        | inr l ↦ elim (cases_lt c 65536) [
          | inl h ↦ ap (sum_by units_begun) (three c l h) ∙ omega (arith, lead (224 + c / 4096) (omega arith) (omega arith), inside (c / 64), inside c, one_unit c h)
          | inr l ↦ ap (sum_by units_begun) (four c l) ∙ omega (arith, long_lead (240 + c / 262144) (omega arith), inside (c / 4096), inside (c / 64), inside c, two_units c l)
        ]
      ]
    ]

units_encodes : (cs : List ℕ) → sum_by units_begun (encodes cs) ≡ sum_by units cs
units_encodes [] = refl
units_encodes (c ∷ cs) = sum_by-append units_begun (encode c) (encodes cs) ∙ omega (arith, units_encode c, units_encodes cs, sum_by-cons units c cs)

pub units_of_bytes : (bs : List ℕ) → IsUtf8 bs → sum_by units_begun bs ≡ sum_by units (chars bs)
units_of_bytes bs u = ap (sum_by units_begun) (sym (encodes-chars bs u)) ∙ units_encodes (chars bs)

-- ---- a block of one line

fits_before : (xs ys : List ℕ) (n : ℕ) → later_lines xs ≡ None → sum_by units xs ≤ n → fitting n (first_line (xs ++ ys)) ≡ length xs + fitting (n - sum_by units xs) (first_line ys)
fits_before [] ys n none le = let e : n ≡ n - 0 = omega arith in let f : fitting n (first_line ys) ≡ fitting (n - 0) (first_line ys) = ap (λ m. fitting m (first_line ys)) e in omega (arith, f)
fits_before (c ∷ cs) ys n none le =
    let all : sum_by units (c ∷ cs) ≡ units c + sum_by units cs = sum_by-cons units c cs in
    let left : n - units c - sum_by units cs ≡ n - sum_by units (c ∷ cs) = omega (arith, all, le) in
    go (c == 10) (c == 13) none (le-leb (units c) n (omega (arith, all, le))) (λ e. fits_before cs ys (n - units c) e (omega (arith, all, le)) ∙ ap (λ m. length cs + fitting m (first_line ys)) left)
  where
    go : (a b : Bool) → cond a (Some cs) (cond b (Some (after_carriage_return cs)) (later_lines cs)) ≡ None → nat_le (units c) n ≡ true
        → (later_lines cs ≡ None → fitting (n - units c) (first_line (cs ++ ys)) ≡ length cs + fitting (n - sum_by units (c ∷ cs)) (first_line ys))
        → fitting n (cond (a || b) [] (c ∷ first_line (cs ++ ys))) ≡ suc (length cs) + fitting (n - sum_by units (c ∷ cs)) (first_line ys)
    go true b e fits rest = cc
    go false true e fits rest = cc
    go false false e fits rest =
        ap (λ x. cond x (suc (fitting (n - units c) (first_line (cs ++ ys)))) 0) fits ∙ omega (arith, rest e)

-- how many bytes of a text are the characters of its first line that fit
abbrev pub fitting_bytes : List ℕ → ℕ → ℕ
fitting_bytes bs n = length (encodes (take (fitting n (first_line (chars bs))) (chars bs)))

no_later : (xs : List ℕ) → later_lines (encodes xs) ≡ None → later_lines xs ≡ None
no_later xs e = go (later_lines xs) refl (sym (later-encodes xs) ∙ e)
  where
    go : (o : Option (List ℕ)) → later_lines xs ≡ o → option_map encodes o ≡ None → later_lines xs ≡ None
    go None is h = is
    go (Some rest) is h = cc

pub block_fits : (bs : List ℕ) (e n : ℕ) → IsUtf8 bs → IsCharBoundary bs e → later_lines (take e bs) ≡ None → sum_by units (chars (take e bs)) ≤ n
    → fitting_bytes bs n ≡ e + fitting_bytes (drop e bs) (n - sum_by units (chars (take e bs)))
block_fits bs e n u b none le =
    let xs = chars (take e bs) in
    let ys = chars (drop e bs) in
    let front : encodes xs ≡ take e bs = encodes-chars (take e bs) (IsUtf8-take bs e u b) in
    let back : encodes ys ≡ drop e bs = encodes-chars (drop e bs) (IsUtf8-drop bs e u b) in
    let parts : xs ++ ys ≡ chars bs = encodes_same (xs ++ ys) (chars bs) (encodes-append xs ys ∙ ap (λ ds. ds ++ encodes ys) front ∙ ap (λ ds. take e bs ++ ds) back ∙ take-append-drop e bs ∙ sym (encodes-chars bs u)) in
    let m = fitting (n - sum_by units xs) (first_line ys) in
    let fits : fitting n (first_line (xs ++ ys)) ≡ length xs + m = fits_before xs ys n (no_later xs (ap later_lines front ∙ none)) le in
    ap (λ ds. length (encodes (take (fitting n (first_line ds)) ds))) (sym parts)
    ∙ ap (λ k. length (encodes (take k (xs ++ ys)))) fits
    ∙ ap (λ ds. length (encodes ds)) (take-append-add xs ys m)
    ∙ ap length (encodes-append xs (take m ys)) ∙ length-append (encodes xs) (encodes (take m ys))
    ∙ ap (λ k. k + length (encodes (take m ys))) (ap length front ∙ length-take-le e bs b.0)

-- a search that finds nothing
pub none_later : (o : Option ℕ) (f : ℕ → List ℕ) (later : Option (List ℕ)) → is_some o ≡ false → later ≡ option_map f o → later ≡ None
none_later None f later absent e = e
none_later (Some n) f later absent e = cc

-- a text has a whole character in its first four bytes
pub some_bytes : (bs : List ℕ) (e most : ℕ) → IsUtf8 bs → 0 < length bs → 4 ≤ most → ((i : ℕ) → e < i → i ≤ most → ¬ (IsCharBoundary bs i)) → 0 < e
some_bytes bs e most u long four nearest = go (chars bs) refl (encodes-chars bs u)
  where
    go : (cs : List ℕ) → chars bs ≡ cs → encodes cs ≡ bs → 0 < e
    go [] is k = absurd (omega (arith, ap length k, long))
    go (c ∷ cs) is k =
        let cut = IsCharBoundary-past_char bs (encodes cs) 0 c (omega arith) u (sym k) in
        elim (cases_lt 0 e) [
          | inl h ↦ h
          | inr h ↦ absurd (nearest (0 + len_utf8 c) (omega (arith, h, (len_utf8_bounds c).0)) (omega (arith, four, (len_utf8_bounds c).1)) cut)
        ]
