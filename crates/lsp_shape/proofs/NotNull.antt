-- What is read of a value that is not null is not written as null.
use Rattle.std.proofs.Common.{◌≡◌, ℕ, zero, suc, ◌+◌, List, [], Bool, true, false, not, ◌&&◌, cond, Option, Some, None, option_map, ℤ, pos, int_le, refl, sym, ap, ◌∙◌, subst, arith}
use Rattle.std.proofs.lemmas.Bool.{false≢true}
use Rattle.std.specs.Option.{option_and_then}
use Rattle.serde_json.specs.Data.{Data, null, boolean, number, string, array, object, Members}
use Rattle.serde_json.specs.Find.{get, as_str, as_integer, of_integer}
use Rattle.lsp_shape.specs.Plain.{Plain, leaf, present, parts, choice, Parts}
use Rattle.lsp_shape.specs.Shape.{Shape, nil, truth, integer, bits, text, any, list_of, maybe, map_of, fields, fields_and, recursive, union, tagged, Fields, Shapes, no_shapes, or_shape, Variants, no_variants, variant, field_names}
use Rattle.lsp_shape.specs.Read.{read, read_fields, read_first, read_tagged, read_nil, read_truth, read_integer, integer_within, read_text, read_list, read_items, item_count, read_maybe, read_record, first_of_two, text_is, read_entries, read_map, and_rest, read_with_rest, reads_none}
use Rattle.lsp_shape.specs.Write.{write, write_leaf, write_list, write_maybe, write_map, write_choice, write_nth, write_tagged}
use Rattle.lsp_shape.specs.Values.{is_null}
use Rattle.lsp_shape.specs.FloatsRead.{mapped}
use Rattle.lsp_shape.proofs.Recursive.{read-recursive}

abbrev pub NotNull : (Data → Option Plain) → (Plain → Data) → Type 0
NotNull f w = (d : Data) (p : Plain) → not (is_null d) ≡ true → f d ≡ Some p → not (is_null (w p)) ≡ true

-- the number of a variant, counted from that number
abbrev pub count_up : ℕ → ℕ → ℕ
count_up i zero = i
count_up i (suc n) = count_up (suc i) n

pub count_up-add : (i n : ℕ) → count_up i n ≡ i + n
count_up-add i zero = omega arith
count_up-add i (suc n) = count_up-add (suc i) n ∙ (omega arith)

written_as : (w : Plain → Data) (q p : Plain) → Some q ≡ Some p → not (is_null (w q)) ≡ true → not (is_null (w p)) ≡ true
written_as w q p e n = let h : q ≡ p = cc in subst (λ x. not (is_null (w x)) ≡ true) h n

pub chosen : (b : Bool) (o : Option Plain) (p : Plain) → cond b o None ≡ Some p → (b ≡ true) × (o ≡ Some p)
chosen true o p e = (refl, e)
chosen false o p e = let h : None ≡ Some p = e in absurd cc

whole_number : (z : ℤ) → not (is_null (number (of_integer z))) ≡ true
whole_number z = refl

not_null_nil : NotNull read_nil write_leaf
not_null_nil null p n e = absurd (false≢true n)
not_null_nil _ p n e = cc

not_null_truth : NotNull read_truth write_leaf
not_null_truth (boolean x) p n e = written_as write_leaf (leaf (boolean x)) p e refl
not_null_truth _ p n e = cc

not_null_within : (low high : ℤ) (o : Option ℤ) (p : Plain) → integer_within low high o ≡ Some p → not (is_null (write_leaf p)) ≡ true
not_null_within low high None p e = cc
not_null_within low high (Some z) p e = written_as write_leaf (leaf (number (of_integer z))) p (chosen (int_le low z && int_le z high) _ p e).1 (whole_number z)

not_null_integer : (low high : ℤ) → NotNull (read_integer low high) write_leaf
not_null_integer low high (number x) p n e = not_null_within low high (as_integer x) p e
not_null_integer low high _ p n e = cc

not_null_text : (test : List ℕ → Bool) → NotNull (read_text test) write_leaf
not_null_text test (string x) p n e = written_as write_leaf (leaf (string x)) p (chosen (test x) _ p e).1 refl
not_null_text test _ p n e = cc

not_null_any : NotNull (λ d. Some (leaf d)) write_leaf
not_null_any d p n e = written_as write_leaf (leaf d) p e n

-- what is made of parts
from_parts : (w : Plain → Data) → ((ps : Parts) → not (is_null (w (parts ps))) ≡ true) → (o : Option Parts) (p : Plain) → option_map parts o ≡ Some p → not (is_null (w p)) ≡ true
from_parts w k o p e = let m = mapped parts o p e in subst (λ x. not (is_null (w x)) ≡ true) m.2 (k m.0)

not_null_list : (test : ℕ → Bool) (f : Data → Option Plain) (w : Plain → Data) → NotNull (read_list test f) (write_list w)
not_null_list test f w (array x) p n e = from_parts (write_list w) (λ ps. refl) (read_items f x) p (chosen (test (item_count x)) _ p e).1
not_null_list test f w _ p n e = cc

not_null_present : (f : Data → Option Plain) (w : Plain → Data) → NotNull f w → (d : Data) (p : Plain) → not (is_null d) ≡ true → option_map present (f d) ≡ Some p → not (is_null (write_maybe w p)) ≡ true
not_null_present f w k d p n e = let m = mapped present (f d) p e in subst (λ x. not (is_null (write_maybe w x)) ≡ true) m.2 (k d m.0 n m.1)

not_null_maybe : (f : Data → Option Plain) (w : Plain → Data) → NotNull f w → NotNull (read_maybe f) (write_maybe w)
not_null_maybe f w k null p n e = absurd (false≢true n)
not_null_maybe f w k other p n e = not_null_present f w k other p n e

not_null_map : (f : Members → Option Parts) (w : Plain → Data) → NotNull (read_map f) (write_map w)
not_null_map f w (object x) p n e = from_parts (write_map w) (λ ps. refl) (f x) p e
not_null_map f w _ p n e = cc

pub not_null_record : (g : Data → Option Parts) (w : Plain → Data) → ((ps : Parts) → not (is_null (w (parts ps))) ≡ true) → NotNull (read_record g) w
not_null_record g w k (object x) p n e = from_parts w k (g (object x)) p e
not_null_record g w k _ p n e = cc

not_null_with_rest : (f : Members → Option Parts) (g : Data → Option Parts) (w : Plain → Data) → ((ps : Parts) → not (is_null (w (parts ps))) ≡ true) → NotNull (read_with_rest f g) w
not_null_with_rest f g w k (object x) p n e = from_parts w k (and_rest (f x) (g (object x))) p e
not_null_with_rest f g w k _ p n e = cc

pub not_null_itself : (fs : Fields) → NotNull (read (recursive fs)) (write (recursive fs))
not_null_itself fs d p n e = not_null_record (read_fields fs (read (recursive fs))) (write (recursive fs)) (λ ps. refl) d p n (sym (read-recursive fs d) ∙ e)

abbrev FirstNotNull : Shapes → Type 0
FirstNotNull ss = (i : ℕ) (d : Data) (p : Plain) → not (is_null d) ≡ true → read_first ss i d ≡ Some p → (n : ℕ) × (q : Plain) × (choice (count_up i n) q ≡ p) × (not (is_null (write_nth ss n q)) ≡ true)

first_not_null : (s : Shape) (ss : Shapes) → NotNull (read s) (write s) → FirstNotNull ss → (i : ℕ) (d : Data) (p : Plain) → not (is_null d) ≡ true → (o : Option Plain) → read s d ≡ o
    → first_of_two (option_map (choice i) o) (read_first ss (suc i) d) ≡ Some p → (n : ℕ) × (q : Plain) × (choice (count_up i n) q ≡ p) × (not (is_null (write_nth (or_shape s ss) n q)) ≡ true)
first_not_null s ss k later i d p n (Some q) r e = (0, q, cc, k d q n r)
first_not_null s ss k later i d p n None r e = let m = later (suc i) d p n e in (suc m.0, m.1, m.2, m.3)

abbrev TaggedNotNull : Variants → Type 0
TaggedNotNull vs = (i : ℕ) (t : Option (List ℕ)) (d : Data) (p : Plain) → read_tagged vs i t d ≡ Some p → (n : ℕ) × (q : Plain) × (choice (count_up i n) q ≡ p) × ((tag : List ℕ) → not (is_null (write_tagged vs tag n q)) ≡ true)

tagged_not_null : (name : List ℕ) (s : Shape) (vs : Variants) → TaggedNotNull vs → (i : ℕ) (t : Option (List ℕ)) (d : Data) (p : Plain) → (b : Bool) → cond b (option_map (choice i) (read s d)) (read_tagged vs (suc i) t d) ≡ Some p
    → (n : ℕ) × (q : Plain) × (choice (count_up i n) q ≡ p) × ((tag : List ℕ) → not (is_null (write_tagged (variant name s vs) tag n q)) ≡ true)
tagged_not_null name s vs later i t d p true e = let m = mapped (choice i) (read s d) p e in (0, m.0, m.2, λ tag. refl)
tagged_not_null name s vs later i t d p false e = let m = later (suc i) t d p e in (suc m.0, m.1, m.2, m.3)

any_tagged : (vs : Variants) → TaggedNotNull vs
any_tagged no_variants i t d p e = absurd cc
any_tagged (variant name s vs) i t d p e = tagged_not_null name s vs (any_tagged vs) i t d p (text_is name t) e

union_not_null : (ss : Shapes) → FirstNotNull ss → NotNull (read (union ss)) (write (union ss))
union_not_null ss k d p n e =
    let m = k 0 d p n e in
    let same : count_up 0 m.0 ≡ m.0 = count_up-add 0 m.0 ∙ (omega arith) in
    subst (λ x. not (is_null (write_choice (write_nth ss) x)) ≡ true) (ap (λ j. choice j m.1) (sym same) ∙ m.2) m.3

variants_not_null : (tag : List ℕ) (vs : Variants) → NotNull (read (tagged tag vs)) (write (tagged tag vs))
variants_not_null tag vs d p n e =
    let m = any_tagged vs 0 (option_and_then as_str (get tag d)) d p e in
    let same : count_up 0 m.0 ≡ m.0 = count_up-add 0 m.0 ∙ (omega arith) in
    subst (λ x. not (is_null (write_choice (write_tagged vs tag) x)) ≡ true) (ap (λ j. choice j m.1) (sym same) ∙ m.2) (m.3 tag)

mutual
  pub not_null : (s : Shape) → NotNull (read s) (write s)
  not_null nil = not_null_nil
  not_null truth = not_null_truth
  not_null (integer low high) = not_null_integer low high
  not_null (bits high) = not_null_integer (pos 0) (pos high)
  not_null (text test) = not_null_text test
  not_null any = not_null_any
  not_null (list_of test s) = not_null_list test (read s) (write s)
  not_null (maybe s) = not_null_maybe (read s) (write s) (not_null s)
  not_null (map_of test s) = not_null_map (read_entries [] test (read s)) (write s)
  not_null (fields fs) = not_null_record (read_fields fs reads_none) (write (fields fs)) (λ ps. refl)
  not_null (fields_and s fs) = not_null_with_rest (read_entries (field_names fs) (λ k. true) (read s)) (read_fields fs reads_none) (write (fields_and s fs)) (λ ps. refl)
  not_null (recursive fs) = not_null_itself fs
  not_null (union ss) = union_not_null ss (any_first ss)
  not_null (tagged tag vs) = variants_not_null tag vs

  any_first : (ss : Shapes) → FirstNotNull ss
  any_first no_shapes = λ i d p n e. absurd cc
  any_first (or_shape s ss) = λ i d p n e. first_not_null s ss (not_null s) (any_first ss) i d p n (read s d) refl e
