-- Lists, item by item.
use Rattle.std.proofs.Common.{◌≡◌, ◌==◌, Bool, true, false, ◌&&◌, take, ℕ, suc, ◌+◌, ◌<◌, List, [], ◌∷◌, ◌++◌, length, get_or, drop, map, Option, Some, None, refl, ap, sym, ◌∙◌, arith, add-one}
use Rattle.std.proofs.Math.Seq.{drop-cons, take-suc}
use Rattle.std.proofs.lemmas.List.{map-append}
use Rattle.serde_json.specs.Data.{Data, item}
use Rattle.serde_json.specs.View.{view, items_of, items_view}
use Rattle.serde_json.specs.declared.value.Value.{Value}
use Rattle.lsp_shape.specs.Plain.{Plain, Parts, parts, parts_of}
use Rattle.lsp_shape.specs.Read.{and_part, read_items, item_count}
use Rattle.lsp_shape.specs.Write.{write_items, is_empty}
use Rattle.lsp_shape.specs.Values.{every}

-- what is read, where these come first
abbrev pub after : List Plain → Option Parts → Option Parts
after [] o = o
after (p ∷ ps) o = and_part (Some p) (after ps o)

pub after-None : (ps : List Plain) → after ps None ≡ None
after-None [] = refl
after-None (p ∷ ps) = ap (and_part (Some p)) (after-None ps)

pub after-push : (ps : List Plain) (p : Plain) (o : Option Parts) → after (ps ++ p ∷ []) o ≡ after ps (and_part (Some p) o)
after-push [] p o = refl
after-push (q ∷ ps) p o = ap (and_part (Some q)) (after-push ps p o)

pub after-end : (ps : List Plain) → after ps (Some (parts_of [])) ≡ Some (parts_of ps)
after-end [] = refl
after-end (p ∷ ps) = ap (and_part (Some p)) (after-end ps)

pub items_of-written : {A : Type 0} (show : A → Plain) (write : Plain → Data) (xs : List A) → items_of (map (λ x. write (show x)) xs) ≡ write_items write (parts_of (map show xs))
items_of-written show write [] = refl
items_of-written show write (x ∷ xs) = ap (item (write (show x))) (items_of-written show write xs)

drop_next : (xs : List Value) (i : ℕ) (v : Value) → i < length xs → v ≡ get_or xs i v → drop i xs ≡ v ∷ drop (i + 1) xs
drop_next xs i v h e = rw add-one (drop-cons xs i v h ∙ ap (λ w. w ∷ drop (suc i) xs) (sym e))

both : (a b : Bool) → a ≡ true → b ≡ true → (a && b) ≡ true
both a b p q = rw (p, q) refl

left_true : (a b : Bool) → (a && b) ≡ true → a ≡ true
left_true true b p = refl
left_true false b p = p

right_true : (a b : Bool) → (a && b) ≡ true → b ≡ true
right_true true b p = p
right_true false b p = cc

read_next : (f : Data → Option Plain) (xs : List Value) (i : ℕ) (v : Value) → i < length xs → v ≡ get_or xs i v
    → read_items f (items_view (drop i xs)) ≡ and_part (f (view v)) (read_items f (items_view (drop (i + 1) xs)))
read_next f xs i v h e = ap (λ ys. read_items f (items_view ys)) (drop_next xs i v h e)

pub one_more : {A : Type 0} (show : A → Plain) (f : Data → Option Plain) (xs : List Value) (i : ℕ) (v : Value) (done more : List A) (x : A) (o : Option Parts)
    → o ≡ after (map show done) (read_items f (items_view (drop i xs)))
    → i < length xs → v ≡ get_or xs i v → f (view v) ≡ Some (show x) → more ≡ done ++ x ∷ []
    → o ≡ after (map show more) (read_items f (items_view (drop (i + 1) xs)))
one_more show f xs i v done more x o before h e reads pushed =
    let rest : Option Parts = read_items f (items_view (drop (i + 1) xs)) in
    before
    ∙ ap (after (map show done)) (read_next f xs i v h e ∙ ap (λ p. and_part p rest) reads)
    ∙ sym (ap (λ ys. after (map show ys) rest) pushed ∙ ap (λ ps. after ps rest) (map-append show done (x ∷ [])) ∙ after-push (map show done) (show x) rest)

pub none_more : {A : Type 0} (show : A → Plain) (f : Data → Option Plain) (xs : List Value) (i : ℕ) (v : Value) (done : List A) (o : Option Parts)
    → o ≡ after (map show done) (read_items f (items_view (drop i xs)))
    → i < length xs → v ≡ get_or xs i v → f (view v) ≡ None → o ≡ None
none_more show f xs i v done o before h e reads =
    before ∙ ap (after (map show done)) (read_next f xs i v h e ∙ ap (λ p. and_part p (read_items f (items_view (drop (i + 1) xs)))) reads) ∙ after-None (map show done)

pub every-push : (test : Plain → Bool) (ps : List Plain) (p : Plain) → every test (parts_of ps) ≡ true → test p ≡ true → every test (parts_of (ps ++ p ∷ [])) ≡ true
every-push test [] p a b = rw b refl
every-push test (q ∷ ps) p a b = both (test q) _ (left_true (test q) _ a) (every-push test ps p (right_true (test q) _ a) b)

-- one more value that was written
pub one_written : {A : Type 0} (show : A → Plain) (test : Plain → Bool) (xs : List A) (i : ℕ) (x : A) → i < length xs → x ≡ get_or xs i x
    → every test (parts_of (map show (take i xs))) ≡ true → test (show x) ≡ true → every test (parts_of (map show (take (i + 1) xs))) ≡ true
one_written show test xs i x h e a b =
    rw (add-one, take-suc xs i x h, ← e, map-append) (every-push test (map show (take i xs)) (show x) a b)

pub not_empty : {A : Type 0} (show : A → Plain) (xs : List A) → false ≡ (length xs == 0) → is_empty (parts (parts_of (map show xs))) ≡ false
not_empty show [] e = sym e
not_empty show (x ∷ xs) e = refl

pub items_counted : (xs : List Value) → item_count (items_view xs) ≡ length xs
items_counted [] = refl
items_counted (x ∷ xs) = ap (λ n. n + 1) (items_counted xs) ∙ (omega arith)

pub ruleset item_lemmas = (after-None, after-push, after-end, items_of-written)
