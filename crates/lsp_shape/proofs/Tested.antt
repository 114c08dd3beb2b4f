-- A list whose length is tested reads as a list of any length, where the length passes.
use Rattle.std.proofs.Common.{◌≡◌, ℕ, ◌+◌, ◌%◌, ◌==◌, List, [], ◌∷◌, length, map, Bool, true, false, cond, Option, Some, None, option_map, Result, Ok, Err, IfOk, OnOk, refl, ap, ◌∙◌, arith}
use Rattle.serde_json.specs.Data.{Data, null, boolean, number, string, array, object, Items, no_items, item}
use Rattle.lsp_shape.specs.Plain.{Plain, parts, parts_of, Parts, no_parts}
use Rattle.lsp_shape.specs.Read.{read_items, read_list, item_count}
use Rattle.lsp_shape.specs.Values.{part_count, counted, every}
use Rattle.lsp_shape.specs.Shown.{show_unsigned, show_tokens}
use Rattle.lsp_shape.specs.FloatsRead.{mapped, split}

counted_parts : (f : Data → Option Plain) (ds : Items) (ps : Parts) → read_items f ds ≡ Some ps → item_count ds ≡ part_count ps
counted_parts f no_items ps e = let is : no_parts ≡ ps = cc in ap part_count is
counted_parts f (item d ds) ps e =
    let m = split (f d) (read_items f ds) ps e in
    ap (λ n. n + 1) (counted_parts f ds m.1 m.3) ∙ ap part_count m.4

-- what the items are read as, where the length passes
pub tested_read : (test : ℕ → Bool) (f : Data → Option Plain) (d : Data) (ps : Parts) → read_list (λ n. true) f d ≡ Some (parts ps) → test (part_count ps) ≡ true → read_list test f d ≡ Some (parts ps)
tested_read test f null ps e t = cc
tested_read test f (boolean x) ps e t = cc
tested_read test f (number x) ps e t = cc
tested_read test f (string x) ps e t = cc
tested_read test f (array x) ps e t =
    let m = mapped parts (read_items f x) (parts ps) e in
    let same : m.0 ≡ ps = cc in
    let passes : test (item_count x) ≡ true = ap test (counted_parts f x m.0 m.1 ∙ ap part_count same) ∙ t in
    rw passes e
tested_read test f (object x) ps e t = cc

pub tested_unread : (test : ℕ → Bool) (f : Data → Option Plain) (d : Data) (ps : Parts) → read_list (λ n. true) f d ≡ Some (parts ps) → test (part_count ps) ≡ false → read_list test f d ≡ None
tested_unread test f null ps e t = refl
tested_unread test f (boolean x) ps e t = refl
tested_unread test f (number x) ps e t = refl
tested_unread test f (string x) ps e t = refl
tested_unread test f (array x) ps e t =
    let m = mapped parts (read_items f x) (parts ps) e in
    let same : m.0 ≡ ps = cc in
    let fails : test (item_count x) ≡ false = ap test (counted_parts f x m.0 m.1 ∙ ap part_count same) ∙ t in
    rw fails refl
tested_unread test f (object x) ps e t = refl

unread_at : (b : Bool) (o : Option Plain) → o ≡ None → cond b o None ≡ None
unread_at true o e = e
unread_at false o e = refl

pub never_read : (test : ℕ → Bool) (f : Data → Option Plain) (d : Data) → read_list (λ n. true) f d ≡ None → read_list test f d ≡ None
never_read test f (array x) e = unread_at (test (item_count x)) (option_map parts (read_items f x)) e
never_read test f _ e = refl

pub part_count-map : {A : Type 0} (show : A → Plain) (xs : List A) → part_count (parts_of (map show xs)) ≡ length xs
part_count-map show [] = refl
part_count-map show (x ∷ xs) = ap (λ n. n + 1) (part_count-map show xs) ∙ (omega arith)

-- plain data of a list of any length, where the length passes
pub tested_of : {A : Type 0} (test : ℕ → Bool) (is : Plain → Bool) (show : A → Plain) (xs : List A)
    → test (length xs) ≡ true → every is (parts_of (map show xs)) ≡ true → counted test is (parts_of (map show xs)) ≡ true
tested_of test is show xs a b = rw (part_count-map show xs, a, b) refl

-- the numbers of tokens, where there are five for each
pub fives_read : {E : Type 0} (f : Data → Option Plain) (d : Data) (ns : List ℕ) (r : Result (List ℕ) E)
    → read_list (λ n. true) f d ≡ Some (parts (parts_of (map show_unsigned ns)))
    → IfOk r (λ t. t ≡ ns) → OnOk r (length ns % 5 ≡ 0) → IfOk r (λ t. read_list (λ n. n % 5 == 0) f d ≡ Some (show_tokens t))
fives_read f d ns (Ok t) is same fives =
    rw same (tested_read (λ n. n % 5 == 0) f d (parts_of (map show_unsigned ns)) is (ap (λ n. n % 5 == 0) (part_count-map show_unsigned ns) ∙ ap (λ n. n == 0) fives))
fives_read f d ns (Err e) is same fives = same
