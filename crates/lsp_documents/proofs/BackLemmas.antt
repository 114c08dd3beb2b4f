-- Places and positions lead to each other.
use Rattle.std.proofs.Common.{◌≡◌, ◌≢◌, ◌<◌, ◌≤◌, ◌+◌, ◌-◌, ℕ, suc, zero, List, [], ◌∷◌, ◌++◌, Bool, true, false, cond, Option, Some, None, refl, sym, ap, ◌∙◌, subst, arith, length, take, drop, nat_lt, ◌⊎◌, inl, inr, sum_by}
use Rattle.std.specs.Prelude.{IfSome, unwrap_or, ◌==◌, ◌||◌}
use Rattle.std.specs.Option.{option_and_then}
use Rattle.std.proofs.lemmas.Bool.{eqb-true, lt-leb, le-leb, cases_lt}
use Rattle.std.proofs.lemmas.List.{take-take, take-append-drop, append_assoc, drop-append-le, length-append, length-drop, length-take-le}
use Rattle.std.proofs.lemmas.List.Sums.{sum_by-cons, sum_by-take-le}
use Rattle.lsp_documents.specs.Lines.{units, ends_line, first_line, after_carriage_return, later_lines, from_line, fitting, place_of, place_from, IsPosition, IsInLineEnd, PositionsComeBack}
use Rattle.lsp_documents.proofs.BlockLemmas.{from_next}
use Rattle.lsp_documents.proofs.FittingLemmas.{fitting-le, first_line-le}
use Rattle.lsp_documents.proofs.LineLemmas.{IsEndOf, IsOptionEnd, from_line-end, later-end}
use Rattle.lsp_documents.proofs.PlaceLemmas.{from_line-add}

-- ---- what fits

some_unit : (c : ℕ) → 1 ≤ units c
some_unit c = go (nat_lt c 0x1_0000)
  where
    go : (b : Bool) → 1 ≤ cond b 1 2
    go true = omega arith
    go false = omega arith

no_unit : (xs : List ℕ) → fitting 0 xs ≡ 0
no_unit [] = refl
no_unit (c ∷ cs) = ap (λ b. cond b (suc (fitting (0 - units c) cs)) 0) (lt-leb (units c) 0 (some_unit c))

one_more : (c n : ℕ) (cs : List ℕ) → units c ≤ n → fitting n (c ∷ cs) ≡ suc (fitting (n - units c) cs)
one_more c n cs le = ap (λ b. cond b (suc (fitting (n - units c) cs)) 0) (le-leb (units c) n le)

-- so many characters of a line fit as their units say
fits_back : (k : ℕ) (xs : List ℕ) → k ≤ length (first_line xs) → fitting (sum_by units (take k xs)) (first_line xs) ≡ k
fits_back zero xs le = no_unit (first_line xs)
fits_back (suc k) [] le = absurd (omega arith)
fits_back (suc k) (c ∷ cs) le = go (ends_line c) le (fits_back k cs)
  where
    go : (b : Bool) → suc k ≤ length (cond b [] (c ∷ first_line cs)) → (k ≤ length (first_line cs) → fitting (sum_by units (take k cs)) (first_line cs) ≡ k)
        → fitting (sum_by units (c ∷ take k cs)) (cond b [] (c ∷ first_line cs)) ≡ suc k
    go true h rest = absurd (omega arith)
    go false h rest =
        let all : sum_by units (c ∷ take k cs) ≡ units c + sum_by units (take k cs) = sum_by-cons units c (take k cs) in
        let left : sum_by units (c ∷ take k cs) - units c ≡ sum_by units (take k cs) = omega (arith, all) in
        one_more c (sum_by units (c ∷ take k cs)) (first_line cs) (omega (arith, all))
        ∙ ap (λ m. suc (fitting m (first_line cs))) left ∙ ap suc (rest (omega (arith, h)))

fits_all : (n : ℕ) (xs : List ℕ) → sum_by units xs ≤ n → fitting n xs ≡ length xs
fits_all n [] le = refl
fits_all n (c ∷ cs) le =
    let all : sum_by units (c ∷ cs) ≡ units c + sum_by units cs = sum_by-cons units c cs in
    one_more c n cs (omega (arith, all, le)) ∙ ap suc (fits_all (n - units c) cs (omega (arith, all, le)))

fits_rise : (m n : ℕ) (xs : List ℕ) → m ≤ n → fitting m xs ≤ fitting n xs
fits_rise m n [] le = omega arith
fits_rise m n (c ∷ cs) le =
    elim (cases_lt m (units c)) [
      | inl less ↦ omega (arith, ap (λ b. cond b (suc (fitting (m - units c) cs)) 0) (lt-leb (units c) m less))
      | inr fit ↦ omega (arith, one_more c m cs fit, one_more c n cs (omega (arith, fit, le)), fits_rise (m - units c) (n - units c) cs (omega (arith, le)))
    ]

units_fit : (n : ℕ) (xs : List ℕ) → sum_by units (take (fitting n (first_line xs)) xs) ≤ n
units_fit n [] = omega arith
units_fit n (c ∷ cs) = go (ends_line c) (units_fit (n - units c) cs)
  where
    some : sum_by units (take (fitting (n - units c) (first_line cs)) cs) ≤ n - units c → units c ≤ n → sum_by units (take (fitting n (c ∷ first_line cs)) (c ∷ cs)) ≤ n
    some rest fit =
        let front : sum_by units (take (fitting n (c ∷ first_line cs)) (c ∷ cs)) ≡ sum_by units (c ∷ take (fitting (n - units c) (first_line cs)) cs) =
        ap (λ m. sum_by units (take m (c ∷ cs))) (one_more c n (first_line cs) fit) in
        omega (arith, front, sum_by-cons units c (take (fitting (n - units c) (first_line cs)) cs), rest, fit)

    none : n < units c → sum_by units (take (fitting n (c ∷ first_line cs)) (c ∷ cs)) ≤ n
    none less =
        let front : sum_by units (take (fitting n (c ∷ first_line cs)) (c ∷ cs)) ≡ 0 =
        ap (λ b. sum_by units (take (cond b (suc (fitting (n - units c) (first_line cs))) 0) (c ∷ cs))) (lt-leb (units c) n less) in
        omega (arith, front)

    go : (b : Bool) → sum_by units (take (fitting (n - units c) (first_line cs)) cs) ≤ n - units c → sum_by units (take (fitting n (cond b [] (c ∷ first_line cs))) (c ∷ cs)) ≤ n
    go true rest = omega arith
    go false rest = elim (cases_lt n (units c)) [ inl less ↦ none less | inr fit ↦ some rest fit ]

line_front : (xs : List ℕ) → take (length (first_line xs)) xs ≡ first_line xs
line_front [] = refl
line_front (c ∷ cs) = go (ends_line c) (line_front cs)
  where
    go : (b : Bool) → take (length (first_line cs)) cs ≡ first_line cs → take (length (cond b [] (c ∷ first_line cs))) (c ∷ cs) ≡ cond b [] (c ∷ first_line cs)
    go true h = refl
    go false h = ap (λ ds. c ∷ ds) h

units_past : (k : ℕ) (xs : List ℕ) → length (first_line xs) ≤ k → sum_by units (first_line xs) ≤ sum_by units (take k xs)
units_past k xs le =
    let n = length (first_line xs) in
    let front : take n (take k xs) ≡ first_line xs = take-take n k xs le ∙ line_front xs in
    omega (arith, ap (sum_by units) front, sum_by-take-le units (take k xs) n)

-- ---- the end of the first line

-- the first line and its end are more than the first line
first_before : (xs : List ℕ) → IfSome (later_lines xs) (λ later. length (first_line xs) + length later < length xs)
first_before [] = tt
first_before (c ∷ cs) = go (c == 10) (c == 13) (first_before cs)
  where
    cr : (ds : List ℕ) → length (after_carriage_return ds) ≤ length ds
    cr [] = omega arith
    cr (d ∷ ds) = one (d == 10)
      where
        one : (b : Bool) → length (cond b ds (d ∷ ds)) ≤ suc (length ds)
        one true = omega arith
        one false = omega arith

    more : (o : Option (List ℕ)) → IfSome o (λ later. length (first_line cs) + length later < length cs) → IfSome o (λ later. suc (length (first_line cs)) + length later < suc (length cs))
    more None h = tt
    more (Some later) h = omega (arith, h)

    go : (a b : Bool) → IfSome (later_lines cs) (λ later. length (first_line cs) + length later < length cs)
        → IfSome (cond a (Some cs) (cond b (Some (after_carriage_return cs)) (later_lines cs))) (λ later. length (cond (a || b) [] (c ∷ first_line cs)) + length later < suc (length cs))
    go true b h = omega arith
    go false true h = omega (arith, cr cs)
    go false false h = more (later_lines cs) h

-- a place before the next line is in the line, or inside its end
abbrev IsBefore : List ℕ → ℕ → Type 0
IsBefore xs k = (k ≤ length (first_line xs)) ⊎ (IsInLineEnd xs k × (k ≡ length (first_line xs) + 1))

before_next : (xs : List ℕ) (k : ℕ) → k ≤ length xs → IfSome (later_lines xs) (λ later. k + length later < length xs) → IsBefore xs k
before_next xs zero le h = inl (omega arith)
before_next [] (suc k) le h = absurd (omega arith)
before_next (c ∷ cs) (suc k) le h = go (c == 10) (c == 13) refl (before_next cs k (omega arith)) h
  where
    inside : (ds : List ℕ) → cs ≡ ds → c ≡ 13 → suc k + length (after_carriage_return ds) < suc (length ds) → (suc k ≤ 0) ⊎ (IsInLineEnd (c ∷ cs) (suc k) × (suc k ≡ 0 + 1))
    inside [] is e less = absurd (omega arith)
    inside (d ∷ ds) is e less = lf (d == 10) refl less
      where
        lf : (b : Bool) → (d == 10) ≡ b → suc k + length (cond b ds (d ∷ ds)) < suc (suc (length ds)) → (suc k ≤ 0) ⊎ (IsInLineEnd (c ∷ cs) (suc k) × (suc k ≡ 0 + 1))
        lf true f less =
            inr (
              record {
                before = [];
                later = ds;
                text_is = ap (λ x. x ∷ cs) e ∙ ap (λ x. 13 ∷ x) is ∙ ap (λ x. 13 ∷ x ∷ ds) (eqb-true d 10 f);
                at_is = omega arith;
              },
              omega arith,
            )
        lf false f less = absurd (omega arith)

    less_here : (o : Option (List ℕ)) → IfSome o (λ later. suc k + length later < suc (length cs)) → IfSome o (λ later. k + length later < length cs)
    less_here None h = tt
    less_here (Some later) h = omega (arith, h)

    go : (a b : Bool) → (c == 13) ≡ b → (IfSome (later_lines cs) (λ later. k + length later < length cs) → IsBefore cs k)
        → IfSome (cond a (Some cs) (cond b (Some (after_carriage_return cs)) (later_lines cs))) (λ later. suc k + length later < suc (length cs))
        → (suc k ≤ length (cond (a || b) [] (c ∷ first_line cs))) ⊎ (IsInLineEnd (c ∷ cs) (suc k) × (suc k ≡ length (cond (a || b) [] (c ∷ first_line cs)) + 1))
    go true b e rest h = absurd (omega (arith, h))
    go false true e rest h = inside cs refl (eqb-true c 13 e) h
    go false false e rest h = elim (rest (less_here (later_lines cs) h)) [
      | inl le ↦ inl (omega (arith, le))
      | inr p ↦ inr (
        record {
          before = c ∷ p.0.before;
          later = p.0.later;
          text_is = ap (λ x. c ∷ x) p.0.text_is;
          at_is = omega (arith, p.0.at_is);
        },
        omega (arith, p.1),
      )
    ]

-- ---- inside an end of line

short : (before later : List ℕ) → length (first_line (before ++ 13 ∷ later)) ≤ length before
short [] later = omega arith
short (b ∷ bs) later = go (ends_line b) (short bs later)
  where
    go : (e : Bool) → length (first_line (bs ++ 13 ∷ later)) ≤ length bs → length (cond e [] (b ∷ first_line (bs ++ 13 ∷ later))) ≤ suc (length bs)
    go true h = omega arith
    go false h = omega (arith, h)

-- no place of a line is inside its end
in_line_outside : (xs : List ℕ) (k : ℕ) → k ≤ length (first_line xs) → ¬ IsInLineEnd xs k
in_line_outside xs k le h = absurd (omega (arith, ap (λ ds. length (first_line ds)) h.text_is, short h.before (10 ∷ h.later), h.at_is))

long : (before later : List ℕ) → 2 + length later ≤ length (after_carriage_return (before ++ 13 ∷ 10 ∷ later))
long [] later = omega arith
long (b ∷ bs) later = go (b == 10)
  where
    go : (e : Bool) → 2 + length later ≤ length (cond e (bs ++ 13 ∷ 10 ∷ later) (b ∷ bs ++ 13 ∷ 10 ∷ later))
    go true = omega (arith, length-append bs (13 ∷ 10 ∷ later))
    go false = omega (arith, length-append bs (13 ∷ 10 ∷ later))

other_length : (before l : List ℕ) → IfSome (later_lines (before ++ 13 ∷ 10 ∷ l)) (λ later. length later ≢ length l + 1)
other_length [] l = λ e. absurd (omega arith)
other_length (b ∷ bs) l = go (b == 10) (b == 13) (other_length bs l)
  where
    go : (x y : Bool) → IfSome (later_lines (bs ++ 13 ∷ 10 ∷ l)) (λ later. length later ≢ length l + 1)
        → IfSome (cond x (Some (bs ++ 13 ∷ 10 ∷ l)) (cond y (Some (after_carriage_return (bs ++ 13 ∷ 10 ∷ l))) (later_lines (bs ++ 13 ∷ 10 ∷ l)))) (λ later. length later ≢ length l + 1)
    go true y h = λ e. absurd (omega (arith, length-append bs (13 ∷ 10 ∷ l)))
    go false true h = λ e. absurd (omega (arith, long bs l))
    go false false h = h

-- nor does a line start there
later_outside : (xs later : List ℕ) → later_lines xs ≡ Some later → length later ≤ length xs → ¬ IsInLineEnd xs (length xs - length later)
later_outside xs later is le h =
    let found : IfSome (Some later) (λ rest. length rest ≢ length h.later + 1) = subst (λ o. IfSome o (λ rest. length rest ≢ length h.later + 1)) (sym (ap later_lines h.text_is) ∙ is) (other_length h.before h.later) in
    let whole : length xs ≡ length h.before + length (13 ∷ 10 ∷ h.later) = ap length h.text_is ∙ length-append h.before (13 ∷ 10 ∷ h.later) in
    found (omega (arith, whole, h.at_is, le))

inside_rest : (t : List ℕ) (s j : ℕ) → 1 ≤ j → IsInLineEnd t (s + j) → IsInLineEnd (drop s t) j
inside_rest t s j some h =
    let le : s ≤ length h.before = omega (arith, h.at_is) in record {
      before = drop s h.before;
      later = h.later;
      text_is = ap (drop s) h.text_is ∙ drop-append-le s h.before (13 ∷ 10 ∷ h.later) le;
      at_is = omega (arith, length-drop s h.before, h.at_is);
    }

inside_whole : (t rest : List ℕ) (s k : ℕ) → s ≤ length t → drop s t ≡ rest → IsInLineEnd rest k → IsInLineEnd t (s + k)
inside_whole t rest s k le same h = record {
  before = take s t ++ h.before;
  later = h.later;
  text_is =
      sym (take-append-drop s t) ∙ ap (λ ds. take s t ++ ds) (same ∙ h.text_is)
      ∙ sym (append_assoc (take s t) h.before (13 ∷ 10 ∷ h.later));
  at_is = omega (arith, length-append (take s t) h.before, length-take-le s t le, h.at_is);
}

from_end : (t rest : List ℕ) (line : ℕ) → from_line line t ≡ Some rest → IsEndOf t rest
from_end t rest line is = subst (IsOptionEnd t) is (from_line-end line t)

later_of : (xs later : List ℕ) → later_lines xs ≡ Some later → IsEndOf xs later
later_of xs later is = subst (IsOptionEnd xs) is (later-end xs)

later_shorter : (xs later : List ℕ) → later_lines xs ≡ Some later → length later < length xs
later_shorter xs later is =
    let less : IfSome (Some later) (λ rest. length (first_line xs) + length rest < length xs) = subst (λ o. IfSome o (λ rest. length (first_line xs) + length rest < length xs)) is (first_before xs) in
    omega (arith, less)

start_outside : (line : ℕ) (t rest : List ℕ) → from_line line t ≡ Some rest → ¬ IsInLineEnd t (length t - length rest)
start_outside zero t rest is h = absurd (omega (arith, h.at_is, (from_end t rest 0 is).shorter, ap (λ o. length (unwrap_or o [])) is))
start_outside (suc n) t rest is h = go (from_line n t) refl is
  where
    go : (o : Option (List ℕ)) → from_line n t ≡ o → option_and_then later_lines o ≡ Some rest → ⊥
    go None e f = cc
    go (Some r) e f =
        let end = from_end t r n e in
        let later = later_of r rest f in
        let s = length t - length r in
        let j = length r - length rest in
        let whole : length t - length rest ≡ s + j = omega (arith, end.shorter, later.shorter) in
        let there = inside_rest t s j (omega (arith, later_shorter r rest f)) (subst (IsInLineEnd t) whole h) in
        later_outside r rest f later.shorter (subst (λ ds. IsInLineEnd ds j) end.same there)

-- nor is a place of a line there
place_outside : (line : ℕ) (t rest : List ℕ) (k : ℕ) → from_line line t ≡ Some rest → k ≤ length (first_line rest) → ¬ IsInLineEnd t (length t - length rest + k)
place_outside line t rest zero is le h = start_outside line t rest is (subst (IsInLineEnd t) (omega arith) h)
place_outside line t rest (suc k) is le h =
    in_line_outside rest (suc k) le (subst (λ ds. IsInLineEnd ds (suc k)) (from_end t rest line is).same (inside_rest t (length t - length rest) (suc k) (omega arith) h))

-- ---- a position, from the start of its line

place_in : (line character : ℕ) (t rest : List ℕ) → from_line line t ≡ Some rest → place_of line character t ≡ length t - length rest + fitting character (first_line rest)
place_in line character t rest is = ap (place_from (length t) character) is

pub record IsFrom (t rest : List ℕ) (at character k : ℕ) : Type 0 where
  pub is : length t - length rest + k ≡ at
  pub within : k ≤ length rest
  pub character_is : character ≡ sum_by units (take k rest)
  pub before : IsBefore rest k

from : (t : List ℕ) (at line character : ℕ) → (p : IsPosition t at line character) → (k : ℕ) × IsFrom t p.rest at character k
from t at line character p =
    let end = from_end t p.rest line p.line_is in
    let k = at - (length t - length p.rest) in
    let le : k ≤ length p.rest = omega (arith, p.within, end.shorter, p.begun) in (
      k,
      record {
        is = omega (arith, p.begun);
        within = le;
        character_is = p.character_is;
        before = before_next p.rest k le (go end (later_lines p.rest) (later-end p.rest) p.not_later);
      },
    )
  where
    go : IsEndOf t p.rest → (o : Option (List ℕ)) → IsOptionEnd p.rest o → IfSome o (λ later. at < length t - length later) → IfSome o (λ later. at - (length t - length p.rest) + length later < length p.rest)
    go end None e h = tt
    go end (Some later) e h = omega (arith, end.shorter, e.shorter, h, p.begun)

back : (t : List ℕ) (at line character : ℕ) → IsPosition t at line character → ¬ IsInLineEnd t at → place_of line character t ≡ at
back t at line character p out =
    let end = from_end t p.rest line p.line_is in
    let f = from t at line character p in
    let s = length t - length p.rest in
    elim f.1.before [
      | inl le ↦ place_in line character t p.rest p.line_is ∙ ap (λ m. s + fitting m (first_line p.rest)) f.1.character_is ∙ ap (λ m. s + m) (fits_back f.0 p.rest le) ∙ f.1.is
      | inr h ↦ absurd (out (subst (IsInLineEnd t) f.1.is (inside_whole t p.rest s f.0 (omega arith) end.same h.0)))
    ]

before_end : (t : List ℕ) (at line character : ℕ) → IsPosition t at line character → IsInLineEnd t at → place_of line character t + 1 ≡ at
before_end t at line character p inside =
    let f = from t at line character p in
    let s = length t - length p.rest in
    elim f.1.before [
      | inl le ↦ absurd (place_outside line t p.rest f.0 p.line_is le (subst (IsInLineEnd t) (sym f.1.is) inside))
      | inr h ↦
          let all = fits_all character (first_line p.rest) (omega (arith, f.1.character_is, units_past f.0 p.rest (omega (arith, h.1)))) in
          omega (arith, place_in line character t p.rest p.line_is, all, h.1, f.1.is)
    ]

-- ---- the place of any position in a line

in_line : (t rest : List ℕ) (line character : ℕ) → from_line line t ≡ Some rest → (c : ℕ) × (c ≤ character) × IsPosition t (place_of line character t) line c
in_line t rest line character is =
    let end = from_end t rest line is in
    let k = fitting character (first_line rest) in
    let s = length t - length rest in
    let place = place_in line character t rest is in
    let le : k ≤ length (first_line rest) = fitting-le character (first_line rest) in
    let same : k ≡ place_of line character t - s = omega (arith, place) in (
      sum_by units (take k rest),
      units_fit character rest,
      record {
        rest = rest;
        line_is = is;
        within = omega (arith, place, le, first_line-le rest, end.shorter);
        begun = omega (arith, place);
        not_later = go end place le (later_lines rest) (first_before rest);
        character_is = ap (λ m. sum_by units (take m rest)) same;
      },
    )
  where
    go : IsEndOf t rest → place_of line character t ≡ length t - length rest + fitting character (first_line rest) → fitting character (first_line rest) ≤ length (first_line rest)
        → (o : Option (List ℕ)) → IfSome o (λ later. length (first_line rest) + length later < length rest) → IfSome o (λ later. place_of line character t < length t - length later)
    go end place le None h = tt
    go end place le (Some later) h = omega (arith, end.shorter, place, le, h)

place_rise : (t : List ℕ) (line c character : ℕ) → c ≤ character → place_of line c t ≤ place_of line character t
place_rise t line c character le = go (from_line line t)
  where
    go : (o : Option (List ℕ)) → place_from (length t) c o ≤ place_from (length t) character o
    go None = omega arith
    go (Some rest) = omega (arith, fits_rise c character (first_line rest) le)

outside : (t : List ℕ) (line character : ℕ) → ¬ IsInLineEnd t (place_of line character t)
outside t line character = go (from_line line t) refl
  where
    go : (o : Option (List ℕ)) → from_line line t ≡ o → ¬ IsInLineEnd t (place_of line character t)
    go None is h = absurd (omega (arith, ap (place_from (length t) character) is, h.at_is, ap length h.text_is, length-append h.before (13 ∷ 10 ∷ h.later)))
    go (Some rest) is h =
        place_outside line t rest (fitting character (first_line rest)) is (fitting-le character (first_line rest)) (subst (IsInLineEnd t) (place_in line character t rest is) h)

-- ---- each place has one position

-- a line that has the place, or goes on behind it
here : (t rest : List ℕ) (at line : ℕ) → from_line line t ≡ Some rest → length t - length rest ≤ at → at ≤ length t → IfSome (later_lines rest) (λ later. at < length t - length later) → (l : ℕ) × (character : ℕ) × IsPosition t at l character
here t rest at line is begun within h = (
  line,
  sum_by units (take (at - (length t - length rest)) rest),
  record {
    rest = rest;
    line_is = is;
    within = within;
    begun = begun;
    not_later = h;
    character_is = refl;
  },
)

-- so many lines at most are tried
found : (most : ℕ) (t rest : List ℕ) (at line : ℕ) → from_line line t ≡ Some rest → length rest ≤ most → length t - length rest ≤ at → at ≤ length t → (l : ℕ) × (character : ℕ) × IsPosition t at l character
found zero t rest at line is few begun within = go (later_lines rest) refl
  where
    go : (o : Option (List ℕ)) → later_lines rest ≡ o → (l : ℕ) × (character : ℕ) × IsPosition t at l character
    go None e = here t rest at line is begun within (subst (λ o. IfSome o (λ later. at < length t - length later)) (sym e) tt)
    go (Some later) e = absurd (omega (arith, later_shorter rest later e, few))
found (suc n) t rest at line is few begun within = go (later_lines rest) refl (found n t)
  where
    go : (o : Option (List ℕ)) → later_lines rest ≡ o
        → ((ds : List ℕ) (i j : ℕ) → from_line j t ≡ Some ds → length ds ≤ n → length t - length ds ≤ i → i ≤ length t → (l : ℕ) × (character : ℕ) × IsPosition t i l character)
        → (l : ℕ) × (character : ℕ) × IsPosition t at l character
    go None e next = here t rest at line is begun within (subst (λ o. IfSome o (λ later. at < length t - length later)) (sym e) tt)
    go (Some later) e next =
        elim (cases_lt at (length t - length later)) [
          | inl less ↦ here t rest at line is begun within (subst (λ o. IfSome o (λ later. at < length t - length later)) (sym e) less)
          | inr past ↦ next later at (suc line) (ap (option_and_then later_lines) is ∙ e) (omega (arith, later_shorter rest later e, few)) past within
        ]

some : (t : List ℕ) (at : ℕ) → at ≤ length t → (line : ℕ) × (character : ℕ) × IsPosition t at line character
some t at within = found (length t) t t at 0 refl (omega arith) (omega arith) within

one_line : (t : List ℕ) (at line line' c c' : ℕ) → IsPosition t at line c → IsPosition t at line' c' → ¬ (line < line')
one_line t at line line' c c' p q less = go (later_lines p.rest) refl later p.not_later
  where
    j : ℕ
    j = line' - line - 1

    apart : line' ≡ line + suc j
    apart = omega (arith, less)

    later : option_and_then (from_line j) (later_lines p.rest) ≡ Some q.rest
    later = sym (from_next j p.rest) ∙ sym (from_line-add t p.rest line (suc j) p.line_is) ∙ ap (λ n. from_line n t) (sym apart) ∙ q.line_is

    go : (o : Option (List ℕ)) → later_lines p.rest ≡ o → option_and_then (from_line j) o ≡ Some q.rest → IfSome o (λ rest. at < length t - length rest) → ⊥
    go None e f h = cc
    go (Some rest) e f h = absurd (omega (arith, (from_end rest q.rest j f).shorter, h, q.begun))

pub one_position : (t : List ℕ) (at line c line' c' : ℕ) → IsPosition t at line c → IsPosition t at line' c' → (line ≡ line') × (c ≡ c')
one_position t at line c line' c' p q =
    let less = one_line t at line line' c c' p q in
    let more = one_line t at line' line c' c q p in
    let same : line ≡ line' = elim (cases_lt line line') [ inl h ↦ absurd (less h) | inr h ↦ elim (cases_lt line' line) [ inl k ↦ absurd (more k) | inr k ↦ omega (arith, h, k) ] ] in
    let rests : p.rest ≡ q.rest = cc (p.line_is, q.line_is, same) in
    (same, p.character_is ∙ ap (λ ds. sum_by units (take (at - (length t - length ds)) ds)) rests ∙ sym q.character_is)

last : (t : List ℕ) (at line c character : ℕ) → IsPosition t at line c → ¬ IsInLineEnd t at → c ≤ character → at ≤ place_of line character t
last t at line c character p out le = omega (arith, back t at line c p out, place_rise t line c character le)

pub positions_back : PositionsComeBack
positions_back = record {
  some = some;
  one = one_position;
  back = back;
  before_end = before_end;
  in_line = in_line;
  last = last;
  outside = outside;
}
