-- Names in lists, and the members that objects have at them.
use Rattle.std.proofs.Common.{Bor, map, ◌≡◌, ℕ, List, [], ◌∷◌, ◌++◌, Bool, true, false, not, ◌&&◌, ◌||◌, bytes_eq, None, true≢false, refl, sym, ap, ◌∙◌}
use Rattle.std.proofs.lemmas.Slice.Eq.{bytes_eq-Decides}
use Rattle.std.proofs.lemmas.Bool.{and_parts, not-true}
use Rattle.std.specs.List.{list_any}
use Rattle.serde_json.specs.Data.{Data, Members, put}
use Rattle.serde_json.specs.Find.{get_member}
use Rattle.serde_json.proofs.Views.{get_member-put_other}
use Rattle.lsp_shape.specs.Shape.{has_name, are_apart}
use Rattle.lsp_shape.specs.FloatsRead.{or_false_left, or_false_right, neither}

pub same_bytes : (s : List ℕ) → bytes_eq s s ≡ true
same_bytes s = (bytes_eq-Decides s s).1 refl

pub are_same : (s t : List ℕ) → bytes_eq s t ≡ true → s ≡ t
are_same s t e = (bytes_eq-Decides s t).0 e

pub or_left : (a b : Bool) → a ≡ true → (a || b) ≡ true
or_left a b e = rw e refl

pub or_right : (a b : Bool) → b ≡ true → (a || b) ≡ true
or_right true b e = refl
or_right false b e = e

pub both : (a b : Bool) → a ≡ true → b ≡ true → (a && b) ≡ true
both a b p q = rw (p, q) refl

pub has_first : (n : List ℕ) (ns : List (List ℕ)) → has_name n (n ∷ ns) ≡ true
has_first n ns = or_left _ (has_name n ns) (same_bytes n)

pub has_later : (q n : List ℕ) (ns : List (List ℕ)) → has_name q ns ≡ true → has_name q (n ∷ ns) ≡ true
has_later q n ns h = or_right (bytes_eq q n) _ h

pub has_name-append_left : (q : List ℕ) (ms ns : List (List ℕ)) → has_name q ms ≡ true → has_name q (ms ++ ns) ≡ true
has_name-append_left q [] ns h = absurd (true≢false (sym h))
has_name-append_left q (m ∷ ms) ns h = first (has_name-append_left q ms ns) (bytes_eq q m) refl h
  where
    first : (has_name q ms ≡ true → has_name q (ms ++ ns) ≡ true) → (b : Bool) → bytes_eq q m ≡ b → (b || has_name q ms) ≡ true
        → (bytes_eq q m || has_name q (ms ++ ns)) ≡ true
    first later true e g = or_left _ _ e
    first later false e g = or_right (bytes_eq q m) _ (later g)

pub has_name-append_right : (q : List ℕ) (ms ns : List (List ℕ)) → has_name q ns ≡ true → has_name q (ms ++ ns) ≡ true
has_name-append_right q [] ns h = h
has_name-append_right q (m ∷ ms) ns h = or_right (bytes_eq q m) _ (has_name-append_right q ms ns h)

pub has_name-between : (q n : List ℕ) (ms ns : List (List ℕ)) → has_name q (n ∷ ns) ≡ true → has_name q (n ∷ (ms ++ ns)) ≡ true
has_name-between q n ms ns h = at (bytes_eq q n) refl h
  where
    at : (b : Bool) → bytes_eq q n ≡ b → (b || has_name q ns) ≡ true → has_name q (n ∷ (ms ++ ns)) ≡ true
    at true e g = or_left (bytes_eq q n) _ e
    at false e g = has_later q n (ms ++ ns) (has_name-append_right q ms ns g)

-- a name that is in the list, and one that is not
pub differ : (q name : List ℕ) (ns : List (List ℕ)) → has_name name ns ≡ false → has_name q ns ≡ true → q ≡ name → ⊥
differ q name ns absent here e = true≢false (sym here ∙ ap (λ n. has_name n ns) e ∙ absent)

pub not_first : (q n : List ℕ) (ns : List (List ℕ)) → has_name q (n ∷ ns) ≡ false → q ≡ n → ⊥
not_first q n ns h e = true≢false (sym ((bytes_eq-Decides q n).1 e) ∙ or_false_left (bytes_eq q n) _ h)

pub not_later : (q n : List ℕ) (ns : List (List ℕ)) → has_name q (n ∷ ns) ≡ false → has_name q ns ≡ false
not_later q n ns h = or_false_right (bytes_eq q n) _ h

pub not_append_left : (q : List ℕ) (ms ns : List (List ℕ)) → has_name q (ms ++ ns) ≡ false → has_name q ms ≡ false
not_append_left q [] ns h = refl
not_append_left q (m ∷ ms) ns h = neither (bytes_eq q m) _ (or_false_left (bytes_eq q m) _ h) (not_append_left q ms ns (or_false_right (bytes_eq q m) _ h))

pub not_append_right : (q : List ℕ) (ms ns : List (List ℕ)) → has_name q (ms ++ ns) ≡ false → has_name q ns ≡ false
not_append_right q [] ns h = h
not_append_right q (m ∷ ms) ns h = not_append_right q ms ns (or_false_right (bytes_eq q m) _ h)

-- a name of the first list is not in the second
pub apart : (q : List ℕ) (ms ns : List (List ℕ)) → are_apart ms ns ≡ true → has_name q ms ≡ true → has_name q ns ≡ false
apart q [] ns a h = absurd (true≢false (sym h))
apart q (m ∷ ms) ns a h =
    let parts = and_parts (not (has_name m ns)) (are_apart ms ns) a in
    first (not-true (has_name m ns) parts.0) (apart q ms ns parts.1) (bytes_eq q m) refl h
  where
    first : has_name m ns ≡ false → (has_name q ms ≡ true → has_name q ns ≡ false) → (b : Bool) → bytes_eq q m ≡ b → (b || has_name q ms) ≡ true
        → has_name q ns ≡ false
    first absent later true e g = ap (λ n. has_name n ns) (are_same q m e) ∙ absent
    first absent later false e g = later g

-- a name of the second list is not in the first
pub apart_other : (q : List ℕ) (ms ns : List (List ℕ)) → are_apart ms ns ≡ true → has_name q ns ≡ true → has_name q ms ≡ false
apart_other q ms ns a h = first (has_name q ms) refl
  where
    first : (b : Bool) → has_name q ms ≡ b → b ≡ false
    first true e = absurd (true≢false (sym h ∙ apart q ms ns a e))
    first false e = refl

-- ---- the same members at the same names

abbrev pub Agree : List (List ℕ) → Members → Members → Type 0
Agree ns ms os = (q : List ℕ) → has_name q ns ≡ true → get_member q ms ≡ get_member q os

-- no members at the names
abbrev pub Fresh : List (List ℕ) → Members → Type 0
Fresh ns ms = (q : List ℕ) → has_name q ns ≡ true → get_member q ms ≡ None

pub fresh_put : (ns : List (List ℕ)) (name : List ℕ) (d : Data) (ms : Members) → has_name name ns ≡ false → Fresh ns ms → Fresh ns (put name d ms)
fresh_put ns name d ms absent fresh q h = get_member-put_other q name d ms (differ q name ns absent h) ∙ fresh q h

-- names that are borrowed
pub has_name-borrowed : (q : List ℕ) (ns : List (Bor (List ℕ))) → has_name q (map (λ n. n.now) ns) ≡ list_any (λ n. bytes_eq q n.now) ns
has_name-borrowed q [] = refl
has_name-borrowed q (n ∷ ns) = ap (λ b. bytes_eq q n.now || b) (has_name-borrowed q ns)
