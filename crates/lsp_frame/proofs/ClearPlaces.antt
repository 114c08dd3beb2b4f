-- Places before which no empty line stands, and the first empty line after them.
use Rattle.std.proofs.Common.{◌≡◌, ◌≢◌, ℕ, zero, suc, ◌+◌, ◌-◌, ◌<◌, ◌≤◌, List, [], ◌∷◌, ◌++◌, length, take, drop, get_or, Bool, true, false, ◌==◌, nat_eq, nat_lt, cond, Option, Some, None, refl, sym, ap, ◌∙◌, subst, arith, length-drop, length-append}
use Rattle.std.proofs.lemmas.Grind.{common_steps}
use Rattle.std.proofs.lemmas.Bool.Decides.{Decides-eqb}
use Rattle.std.proofs.lemmas.Slice.Eq.{starts_is}
use Rattle.std.specs.List.{starts_with}
use Rattle.memchr.specs.Find.{Nowhere, Passes, is_byte}
use Rattle.lsp_frame.specs.Blocks.{block_len, place_after, or_later, empty_line, empty_line_if}
use Rattle.lsp_frame.specs.Kept.{IsClear, IsLooked, is_after_lf}

-- ---- bytes of parts

get_drop_from : (bs : List ℕ) (n i : ℕ) → get_or (drop n bs) i 0 ≡ get_or bs (i + n) 0
get_drop_from bs n i = grind (arith, common_steps)

get_drop : (bs : List ℕ) (n i m : ℕ) → i + n ≡ m → get_or (drop n bs) i 0 ≡ get_or bs m 0
get_drop bs n i m e = get_drop_from bs n i ∙ ap (λ k. get_or bs k 0) e

get_front : (bs : List ℕ) (m i : ℕ) → i < m → get_or (take m bs) i 0 ≡ get_or bs i 0
get_front bs m i h = grind (arith, common_steps)

get_past : (bs : List ℕ) (i : ℕ) → length bs ≤ i → get_or bs i 0 ≡ 0
get_past bs i h = grind (arith, common_steps)

get_joined : (xs ys : List ℕ) (i : ℕ) → i < length xs → get_or (xs ++ ys) i 0 ≡ get_or xs i 0
get_joined xs ys i h = grind (arith, common_steps)

front_short : (m : ℕ) (bs : List ℕ) → length (take m bs) ≤ m
front_short m bs = grind (arith, common_steps)

front_fits : (m : ℕ) (bs : List ℕ) → length (take m bs) ≤ length bs
front_fits m bs = grind (arith, common_steps)

-- ---- an empty line, by its first bytes

-- no empty line stands at these two bytes
abbrev NoLine : ℕ → ℕ → Type 0
NoLine x y = (x ≢ 10) × (x ≡ 13 → y ≢ 10)

abbrev IsNone : Option ℕ → Type 0
IsNone o = o ≡ None

abbrev IsSome : Option ℕ → ℕ → Type 0
IsSome o n = o ≡ Some n

no_line : (bs : List ℕ) → NoLine (get_or bs 0 0) (get_or bs 1 0) → empty_line bs ≡ None
no_line bs none = lf (starts_with nat_eq bs (10 ∷ [])) refl
  where
    cr : (b : Bool) → starts_with nat_eq bs (13 ∷ 10 ∷ []) ≡ b → IsNone (cond b (Some 2) None)
    cr true e =
        let whole = (starts_is Decides-eqb bs (13 ∷ 10 ∷ []) _ refl).0 e in
        absurd (none.1 (ap (λ t. get_or t 0 0) whole) (ap (λ t. get_or t 1 0) whole))
    cr false e = refl

    lf : (b : Bool) → starts_with nat_eq bs (10 ∷ []) ≡ b → IsNone (cond b (Some 1) (cond (starts_with nat_eq bs (13 ∷ 10 ∷ [])) (Some 2) None))
    lf true e = absurd (none.0 (ap (λ t. get_or t 0 0) ((starts_is Decides-eqb bs (10 ∷ []) _ refl).0 e)))
    lf false e = cr (starts_with nat_eq bs (13 ∷ 10 ∷ [])) refl

line_none : (bs : List ℕ) → empty_line bs ≡ None → NoLine (get_or bs 0 0) (get_or bs 1 0)
line_none bs none = (λ e. not_lf bs none e, λ e f. not_cr bs none e f)
  where
    starts_true : (bs needle rest : List ℕ) → bs ≡ needle ++ rest → starts_with nat_eq bs needle ≡ true
    starts_true bs needle rest e = (starts_is Decides-eqb bs needle _ refl).1 rest e

    some_none : (n : ℕ) → IsNone (Some n) → ⊥
    some_none n e = absurd cc

    not_lf : (bs : List ℕ) → IsNone (empty_line bs) → get_or bs 0 0 ≢ 10
    not_lf [] none e = absurd (omega (arith, e))
    not_lf (x ∷ xs) none e =
        let is : starts_with nat_eq (x ∷ xs) (10 ∷ []) ≡ true = starts_true (x ∷ xs) (10 ∷ []) xs (ap (λ t. t ∷ xs) e) in
        some_none 1 (rw is at none)

    by_lf : (xs : List ℕ) (b : Bool) → IsNone (cond b (Some 1) (cond true (Some 2) None)) → ⊥
    by_lf xs true none = some_none 1 none
    by_lf xs false none = some_none 2 none

    not_cr : (bs : List ℕ) → IsNone (empty_line bs) → get_or bs 0 0 ≡ 13 → get_or bs 1 0 ≢ 10
    not_cr [] none e f = absurd (omega (arith, e))
    not_cr (x ∷ []) none e f = absurd (omega (arith, f))
    not_cr (x ∷ y ∷ xs) none e f =
        let is : starts_with nat_eq (x ∷ y ∷ xs) (13 ∷ 10 ∷ []) ≡ true = starts_true (x ∷ y ∷ xs) (13 ∷ 10 ∷ []) xs (ap (λ t. t ∷ y ∷ xs) e ∙ ap (λ t. 13 ∷ t ∷ xs) f) in
        by_lf xs (starts_with nat_eq (x ∷ y ∷ xs) (10 ∷ [])) (rw is at none)

-- ---- clear places

pub clear_none : (bs : List ℕ) → IsClear bs 0
clear_none bs i h = absurd (omega (arith, h))

pub clear_less : (bs : List ℕ) (j k : ℕ) → j ≤ k → IsClear bs k → IsClear bs j
clear_less bs j k le clear i h e = clear i (omega (arith, h, le)) e

-- one place more, where no empty line stands
pub clear_more : (bs : List ℕ) (k : ℕ) → IsClear bs k → empty_line_if (is_after_lf bs k) (drop k bs) ≡ None → IsClear bs (k + 1)
clear_more bs k clear none i h e = last (nat_lt (suc i) k) refl
  where
    line_at : (b : Bool) (xs : List ℕ) → b ≡ true → IsNone (empty_line_if b xs) → empty_line xs ≡ None
    line_at true xs f none = none
    line_at false xs f none = absurd cc

    here : suc i ≡ k → NoLine (get_or bs (suc i) 0) (get_or bs (suc (suc i)) 0)
    here same =
        let P : ℕ → Type 0 = λ n. IsNone (empty_line_if (is_after_lf bs n) (drop n bs)) in
        let at : P (suc i) = subst P (sym same) none in
        let parts = line_none (drop (suc i) bs) (line_at (get_or bs i 0 == 10) (drop (suc i) bs) (grind arith) at) in (
          λ f. parts.0 (get_drop bs (suc i) 0 (suc i) (omega arith) ∙ f),
          λ f g. parts.1 (get_drop bs (suc i) 0 (suc i) (omega arith) ∙ f) (get_drop bs (suc i) 1 (suc (suc i)) (omega arith) ∙ g),
        )

    last : (b : Bool) → nat_lt (suc i) k ≡ b → NoLine (get_or bs (suc i) 0) (get_or bs (suc (suc i)) 0)
    last true f = clear i (grind arith) e
    last false f = here (grind (arith, h))

-- before the end of a front
pub clear_front : (bs : List ℕ) (m k : ℕ) → IsClear bs k → IsClear (take m bs) k
clear_front bs m k clear i h e = at (nat_lt (suc i) m) refl
  where
    past : (j : ℕ) → m ≤ j → get_or (take m bs) j 0 ≡ 0
    past j le = get_past (take m bs) j (omega (arith, front_short m bs, le))

    second : (b : Bool) → nat_lt (suc (suc i)) m ≡ b → get_or bs (suc (suc i)) 0 ≢ 10 → get_or (take m bs) (suc (suc i)) 0 ≢ 10
    second true f none g = none (sym (get_front bs m (suc (suc i)) (grind arith)) ∙ g)
    second false f none g = absurd (omega (arith, past (suc (suc i)) (grind arith), g))

    at : (b : Bool) → nat_lt (suc i) m ≡ b → NoLine (get_or (take m bs) (suc i) 0) (get_or (take m bs) (suc (suc i)) 0)
    at true f =
        let in_front : suc i < m = grind arith in
        let parts = clear i h (sym (get_front bs m i (omega (arith, in_front))) ∙ e) in (
          λ g. parts.0 (sym (get_front bs m (suc i) in_front) ∙ g),
          λ g. second (nat_lt (suc (suc i)) m) refl (parts.1 (sym (get_front bs m (suc i) in_front) ∙ g)),
        )
    at false f =
        let none = past (suc i) (grind arith) in
        (λ g. absurd (omega (arith, none, g)), λ g. absurd (omega (arith, none, g)))

-- ---- the first empty line after a clear place

next_byte : (bs : List ℕ) (i : ℕ) → i < length bs → drop i bs ≡ get_or bs i 0 ∷ drop (suc i) bs
next_byte [] i h = absurd (omega (arith, h))
next_byte (x ∷ bs) zero h = refl
next_byte (x ∷ bs) (suc i) h = next_byte bs i (omega (arith, h))

clear_here : (bs : List ℕ) (i : ℕ) → IsClear bs (suc i) → empty_line_if (is_after_lf bs i) (drop i bs) ≡ None
clear_here bs zero clear = refl
clear_here bs (suc i) clear = after (get_or bs i 0 == 10) refl
  where
    after : (b : Bool) → (get_or bs i 0 == 10) ≡ b → IsNone (empty_line_if b (drop (suc i) bs))
    after false e = refl
    after true e =
        let parts = clear i (omega arith) (grind arith) in
        no_line (drop (suc i) bs) (
          λ f. parts.0 (sym (get_drop bs (suc i) 0 (suc i) (omega arith)) ∙ f),
          λ f g. parts.1 (sym (get_drop bs (suc i) 0 (suc i) (omega arith)) ∙ f) (sym (get_drop bs (suc i) 1 (suc (suc i)) (omega arith)) ∙ g),
        )

plus_one : (i : ℕ) → i + 1 ≡ suc i
plus_one i = omega arith

one_later : (bs : List ℕ) (i : ℕ) → i < length bs → empty_line_if (is_after_lf bs i) (drop i bs) ≡ None
    → place_after i (is_after_lf bs i) (drop i bs) ≡ place_after (suc i) (is_after_lf bs (suc i)) (drop (suc i) bs)
one_later bs i h none =
    let byte = next_byte bs i h in
    let P : List ℕ → Type 0 = λ t. IsNone (empty_line_if (is_after_lf bs i) t) in
    let here : P (get_or bs i 0 ∷ drop (suc i) bs) = subst P byte none in
    ap (place_after i (is_after_lf bs i)) byte
    ∙ ap (λ o. or_later i o (place_after (i + 1) (get_or bs i 0 == 10) (drop (suc i) bs))) here
    ∙ ap (λ n. place_after n (get_or bs i 0 == 10) (drop (suc i) bs)) (plus_one i)

from_front : (bs : List ℕ) → empty_line bs ≡ None → block_len bs ≡ place_after 0 false bs
from_front [] none = refl
from_front (x ∷ bs) none = ap (λ o. or_later 0 o (place_after (0 + 1) (x == 10) bs)) none

pub block_after_clear : (bs : List ℕ) (i : ℕ) → empty_line bs ≡ None → i ≤ length bs → IsClear bs i → block_len bs ≡ place_after i (is_after_lf bs i) (drop i bs)
block_after_clear bs zero none h clear = from_front bs none
block_after_clear bs (suc i) none h clear =
    block_after_clear bs i none (omega (arith, h)) (clear_less bs i (suc i) (omega arith) clear)
    ∙ one_later bs i (omega (arith, h)) (clear_here bs i clear)

-- an empty line at the front
pub block_at_front : (bs : List ℕ) (n : ℕ) → empty_line bs ≡ Some n → n ≤ length bs → 0 < n → Some n ≡ block_len bs
block_at_front [] n e fits some = absurd (omega (arith, fits, some))
block_at_front (x ∷ bs) n e fits some = let same : n ≡ 0 + n = omega arith in ap Some same ∙ sym (ap (λ o. or_later 0 o (place_after (0 + 1) (x == 10) bs)) e)

-- an empty line at a clear place
pub block_at_clear : (bs : List ℕ) (i n : ℕ) → empty_line bs ≡ None → i < length bs → IsClear bs i → empty_line_if (is_after_lf bs i) (drop i bs) ≡ Some n → Some (i + n) ≡ block_len bs
block_at_clear bs i n none h clear e =
    let byte = next_byte bs i h in
    let P : List ℕ → Type 0 = λ t. IsSome (empty_line_if (is_after_lf bs i) t) n in
    let here : P (get_or bs i 0 ∷ drop (suc i) bs) = subst P byte e in
    sym (block_after_clear bs i none (omega (arith, h)) clear
    ∙ ap (place_after i (is_after_lf bs i)) byte
    ∙ ap (λ o. or_later i o (place_after (i + 1) (get_or bs i 0 == 10) (drop (suc i) bs))) here)

-- no empty line at all
pub no_block : (bs : List ℕ) (i : ℕ) → empty_line bs ≡ None → length bs ≤ i → IsClear bs i → None ≡ block_len bs
no_block bs i none h clear =
    sym (block_after_clear bs (length bs) none (omega arith) (clear_less bs (length bs) i h clear)
    ∙ ap (place_after (length bs) (is_after_lf bs (length bs))) (nothing bs))
  where
    nothing : (bs : List ℕ) → drop (length bs) bs ≡ []
    nothing bs = grind (arith, common_steps)

-- through a line, which ends at its first LF
pub clear_to_end : (bs : List ℕ) (place line m : ℕ) → place + line + 1 ≡ m → Nowhere (Passes (is_byte 10) (drop place bs)) 0 line → IsClear bs (place + 1) → IsClear bs m
clear_to_end bs place line m same none clear i h e = at (nat_lt i place) refl
  where
    at : (b : Bool) → nat_lt i place ≡ b → NoLine (get_or bs (suc i) 0) (get_or bs (suc (suc i)) 0)
    at true f =
        let before : i < place = grind arith in
        clear i (omega (arith, before)) e
    at false f =
        let after : place ≤ i = grind arith in
        absurd (none (i - place) (omega arith) (omega (arith, after, h, same)) (ap (λ b. b == 10) (get_drop bs place (i - place) i (omega (arith, after)) ∙ e)))

after_line : (bs : List ℕ) (m i : ℕ) → m ≡ suc i → get_or bs i 0 ≡ 10 → is_after_lf bs m ≡ true
after_line bs m i same e = ap (is_after_lf bs) same ∙ ap (λ b. b == 10) e

-- after a line, an empty line stands there or none does
pub at_line_end : (bs : List ℕ) (place line m : ℕ) → place + line + 1 ≡ m → Passes (is_byte 10) (drop place bs) line → (o : Option ℕ) → empty_line (drop m bs) ≡ o → empty_line_if (is_after_lf bs m) (drop m bs) ≡ o
at_line_end bs place line m same ends o e =
    let lf : get_or bs (line + place) 0 ≡ 10 = sym (get_drop_from bs place line) ∙ is_ten (get_or (drop place bs) line 0) ends in
    rw (after_line bs m (line + place) (omega (arith, same)) lf) e
  where
    is_ten : (x : ℕ) → (x == 10) ≡ true → x ≡ 10
    is_ten x f = grind arith

-- to the end, where no line ends any more
pub clear_to_last : (bs : List ℕ) (place : ℕ) → Nowhere (Passes (is_byte 10) (drop place bs)) 0 (length (drop place bs)) → IsClear bs (place + 1) → IsClear bs (length bs)
clear_to_last bs place none clear =
    let n = length (drop place bs) in
    clear_less bs (length bs) (place + n + 1) (omega (arith, length-drop place bs)) (clear_to_end bs place n (place + n + 1) refl none clear)

-- from the place right before one that was looked through
pub clear_before : (bs : List ℕ) (looked place : ℕ) → place ≡ looked - 1 → IsClear bs looked → IsClear bs (place + 1)
clear_before bs looked place same clear i h e = clear i (omega (arith, h, same)) e

-- ---- how far a codec has looked

pub looked_none : (bs : List ℕ) → IsLooked bs 0
looked_none bs = (omega arith, clear_none bs)

pub looked_more : (bs c : List ℕ) (k : ℕ) → IsLooked bs k → IsLooked (bs ++ c) k
looked_more bs c k looked = (
  omega (arith, looked.0, length-append bs c),
  λ i h e.
      let fits : suc (suc i) < length bs = omega (arith, h, looked.0) in
      let parts = looked.1 i h (sym (get_joined bs c i (omega (arith, fits))) ∙ e) in (
        λ f. parts.0 (sym (get_joined bs c (suc i) (omega (arith, fits))) ∙ f),
        λ f g. parts.1 (sym (get_joined bs c (suc i) (omega (arith, fits))) ∙ f) (sym (get_joined bs c (suc (suc i)) fits) ∙ g),
      ),
)

pub looked_after : (bs : List ℕ) (n k : ℕ) → IsLooked bs k → IsLooked (drop n bs) (k - n)
looked_after bs n k looked = (
  omega (arith, looked.0, length-drop n bs),
  λ i h e.
      let parts = looked.1 (i + n) (omega (arith, h)) (sym (get_drop bs n i (i + n) refl) ∙ e) in (
        λ f. parts.0 (sym (get_drop bs n (suc i) (suc (i + n)) (omega arith)) ∙ f),
        λ f g. parts.1 (sym (get_drop bs n (suc i) (suc (i + n)) (omega arith)) ∙ f) (sym (get_drop bs n (suc (suc i)) (suc (suc (i + n))) (omega arith)) ∙ g),
      ),
)

-- a front that is clear up to a place in it
clear_whole : (bs : List ℕ) (m k : ℕ) → k ≤ length (take m bs) - 1 → IsClear (take m bs) k → IsLooked bs k
clear_whole bs m k fits clear = (
  omega (arith, fits, front_fits m bs),
  λ i h e.
      let short : suc (suc i) < m = omega (arith, h, fits, front_short m bs) in
      let parts = clear i h (get_front bs m i (omega (arith, short)) ∙ e) in (
        λ f. parts.0 (get_front bs m (suc i) (omega (arith, short)) ∙ f),
        λ f g. parts.1 (get_front bs m (suc i) (omega (arith, short)) ∙ f) (get_front bs m (suc (suc i)) short ∙ g),
      ),
)

-- through the empty line of a front
pub looked_block : (bs : List ℕ) (m q : ℕ) → q ≤ length (take m bs) → IsClear (take m bs) (q - 2) → IsLooked bs (q - 2)
looked_block bs m q fits clear = clear_whole bs m (q - 2) (omega (arith, fits)) clear

-- through a front that has no empty line
pub looked_all : (bs : List ℕ) (m : ℕ) → IsClear (take m bs) (length (take m bs)) → IsLooked bs (length (take m bs) - 1)
looked_all bs m clear = clear_whole bs m (length (take m bs) - 1) (omega arith) (clear_less (take m bs) (length (take m bs) - 1) (length (take m bs)) (omega arith) clear)

-- at a later place
pub looked_further : (bs : List ℕ) (place n k : ℕ) → IsLooked (drop place bs) k → IsLooked (drop (place + n) bs) (k - n)
looked_further bs place n k looked = subst (λ t. IsLooked t (k - n)) (further place n bs) (looked_after (drop place bs) n k looked)
  where
    further : (n m : ℕ) (xs : List ℕ) → drop m (drop n xs) ≡ drop (n + m) xs
    further n m xs = grind (arith, common_steps)
