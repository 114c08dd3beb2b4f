-- What is read reads back from what is written, unless a variant's written value fits an earlier variant.
use Rattle.std.proofs.Common.{◌≡◌, ℕ, zero, suc, ◌≤◌, List, [], Bool, true, false, not, ◌&&◌, cond, Option, Some, None, option_map, ℤ, pos, negsuc, int_le, refl, sym, ap, ◌∙◌, subst, arith}
use Rattle.std.proofs.lemmas.Bool.{and_parts}
use Rattle.std.specs.Option.{option_and_then}
use Rattle.serde_json.specs.Data.{Data, unsigned, null, boolean, number, string, array, object, Items, no_items, item, Members, no_members, member}
use Rattle.serde_json.specs.Find.{get, as_str, as_integer}
use Rattle.lsp_shape.specs.Plain.{Plain, leaf, absent, present, parts, entry, choice, Parts, no_parts, part, plain_depth, parts_depth}
use Rattle.lsp_shape.specs.Shape.{Rule, required, omitted, nullable, or_empty, or_false, unless_empty, unless_false, Count, one, many, Shape, bits, list_of, maybe, map_of, fields, fields_and, recursive, union, tagged, Fields, no_fields, field, flat, supported, again, Shapes, no_shapes, or_shape, Variants, no_variants, variant, has_name, field_names}
use Rattle.lsp_shape.specs.Read.{read, read_fields, read_first, read_tagged, read_integer, integer_within, read_list, read_items, item_count, read_maybe, read_member, read_record, and_part, first_of_two, text_is, read_entries, read_entry, and_rest, read_supported, or_absent, empty_set, read_count, reads_none}
use Rattle.lsp_shape.specs.Write.{write, write_list, write_count, writes_null}
use Rattle.lsp_shape.specs.Values.{is_null, clear, clear_fields, clear_nth, clear_nth_variant, clear_member, clear_maybe, clear_present, clear_entry, clear_parts, clear_first, clear_count, clear_choice, clear_leaf, clear_bits, every, is_any, settled_member, is_settled, are_settled, is_settled_nth, is_settled_variant}
use Rattle.lsp_shape.proofs.Names.{both}
use Rattle.lsp_shape.specs.FloatsRead.{mapped, split, split_rest}
use Rattle.lsp_shape.proofs.NotNull.{NotNull, not_null, not_null_itself, chosen, count_up, count_up-add}
use Rattle.lsp_shape.proofs.Recursive.{read-recursive, clear-recursive, settled-recursive}

abbrev Clears : ℕ → (Data → Option Plain) → (Plain → Bool) → (Plain → Bool) → Type 0
Clears n f st cl = (d : Data) (p : Plain) → plain_depth p ≤ n → f d ≡ Some p → st p ≡ true → cl p ≡ true

abbrev ShapeClears : Shape → Type 0
ShapeClears s = (d : Data) (p : Plain) → read s d ≡ Some p → is_settled s p ≡ true → clear s p ≡ true

bits_within : (high : ℕ) (o : Option ℤ) (p : Plain) → integer_within (pos 0) (pos high) o ≡ Some p → clear_leaf (clear_bits high) p ≡ true
bits_within high None p e = cc
bits_within high (Some (pos n)) p e =
    let m = chosen (int_le (pos 0) (pos n) && int_le (pos n) (pos high)) (Some (leaf (number (unsigned n)))) p e in
    let is : leaf (number (unsigned n)) ≡ p = cc in
    subst (λ x. clear_leaf (clear_bits high) x ≡ true) is m.0
bits_within high (Some (negsuc n)) p e = let h : None ≡ Some p = e in absurd cc

clears_bits : (high : ℕ) (d : Data) (p : Plain) → read_integer (pos 0) (pos high) d ≡ Some p → clear_leaf (clear_bits high) p ≡ true
clears_bits high (number x) p e = bits_within high (as_integer x) p e
clears_bits high _ p e = cc

-- ---- lists and maps

items_clear : (n : ℕ) (f : Data → Option Plain) (st cl : Plain → Bool) → Clears n f st cl → (ds : Items) (ps : Parts) → parts_depth ps ≤ n → read_items f ds ≡ Some ps → every st ps ≡ true → every cl ps ≡ true
items_clear n f st cl k no_items ps h e s = let is : no_parts ≡ ps = cc in subst (λ x. every cl x ≡ true) is refl
items_clear n f st cl k (item d ds) ps h e s =
    let m = split (f d) (read_items f ds) ps e in
    let deep : parts_depth (part m.0 m.1) ≤ n = subst (λ x. parts_depth x ≤ n) (sym m.4) h in
    let t = and_parts (st m.0) (every st m.1) (subst (λ x. every st x ≡ true) (sym m.4) s) in
    subst (λ x. every cl x ≡ true) m.4 (both (cl m.0) (every cl m.1) (k d m.0 (omega arith) m.2 t.0) (items_clear n f st cl k ds m.1 (omega arith) m.3 t.1))

parts_clear : (n : ℕ) (test other : Parts → Bool) (o : Option Parts) (p : Plain) → plain_depth p ≤ n → ((ps : Parts) → parts_depth ps ≤ n → o ≡ Some ps → test ps ≡ true → other ps ≡ true) → option_map parts o ≡ Some p
    → clear_parts test p ≡ true → clear_parts other p ≡ true
parts_clear n test other o p h k e s =
    let m = mapped parts o p e in
    let deep : plain_depth (parts m.0) ≤ n = subst (λ x. plain_depth x ≤ n) (sym m.2) h in
    subst (λ x. clear_parts other x ≡ true) m.2 (k m.0 (omega arith) m.1 (subst (λ x. clear_parts test x ≡ true) (sym m.2) s))

list_clear : (test : ℕ → Bool) (n : ℕ) (f : Data → Option Plain) (st cl : Plain → Bool) → Clears n f st cl → Clears n (read_list test f) (clear_parts (every st)) (clear_parts (every cl))
list_clear test n f st cl k (array x) p h e s = parts_clear n (every st) (every cl) (read_items f x) p h (λ ps g r t. items_clear n f st cl k x ps g r t) (chosen (test (item_count x)) _ p e).1 s
list_clear test n f st cl k _ p h e s = cc

entry_clear : (ns : List (List ℕ)) (test : List ℕ → Bool) (f : Data → Option Plain) (st cl : Plain → Bool) → ((d : Data) (p : Plain) → f d ≡ Some p → st p ≡ true → cl p ≡ true) → (k : List ℕ) (d : Data) (p : Plain) → has_name k ns ≡ false
    → read_entry test f k d ≡ Some p → clear_entry [] st p ≡ true → clear_entry ns cl p ≡ true
entry_clear ns test f st cl c k d p other e s =
    let m = mapped (entry k) (f d) p (chosen (test k) _ p e).1 in
    let t : st m.0 ≡ true = subst (λ x. clear_entry [] st x ≡ true) (sym m.2) s in
    subst (λ x. clear_entry ns cl x ≡ true) m.2 (rw other (c d m.0 m.1 t))

entries_clear : (ns : List (List ℕ)) (test : List ℕ → Bool) (f : Data → Option Plain) (st cl : Plain → Bool) → ((d : Data) (p : Plain) → f d ≡ Some p → st p ≡ true → cl p ≡ true) → (ms : Members) (ps : Parts)
    → read_entries ns test f ms ≡ Some ps → every (clear_entry [] st) ps ≡ true → every (clear_entry ns cl) ps ≡ true
entries_clear ns test f st cl c no_members ps e s = let is : no_parts ≡ ps = cc in subst (λ x. every (clear_entry ns cl) x ≡ true) is refl
entries_clear ns test f st cl c (member k d ms) ps e s = at (entries_clear ns test f st cl c ms) (has_name k ns) refl e
  where
    at : ((qs : Parts) → read_entries ns test f ms ≡ Some qs → every (clear_entry [] st) qs ≡ true → every (clear_entry ns cl) qs ≡ true) → (b : Bool) → has_name k ns ≡ b
        → cond b (read_entries ns test f ms) (and_part (read_entry test f k d) (read_entries ns test f ms)) ≡ Some ps → every (clear_entry ns cl) ps ≡ true
    at later true b g = later ps g s
    at later false b g =
        let m = split (read_entry test f k d) (read_entries ns test f ms) ps g in
        let t = and_parts (clear_entry [] st m.0) (every (clear_entry [] st) m.1) (subst (λ x. every (clear_entry [] st) x ≡ true) (sym m.4) s) in
        subst (λ x. every (clear_entry ns cl) x ≡ true) m.4 (both (clear_entry ns cl m.0) (every (clear_entry ns cl) m.1) (entry_clear ns test f st cl c k d m.0 b m.2 t.0) (later m.1 m.3 t.1))

map_clear : (test : List ℕ → Bool) (s : Shape) → ShapeClears s → ShapeClears (map_of test s)
map_clear test s c null p e t = cc
map_clear test s c (boolean x) p e t = cc
map_clear test s c (number x) p e t = cc
map_clear test s c (string x) p e t = cc
map_clear test s c (array x) p e t = cc
map_clear test s c (object x) p e t =
    let all : plain_depth p ≤ plain_depth p = omega arith in
    parts_clear (plain_depth p) (every (clear_entry [] (is_settled s))) (every (clear_entry [] (clear s))) (read_entries [] test (read s) x) p all
    (λ ps h r g. entries_clear [] test (read s) (is_settled s) (clear s) c x ps r g) e t

-- ---- fields

present_clear : (n : ℕ) (f : Data → Option Plain) (w : Plain → Data) (st cl : Plain → Bool) → Clears n f st cl → NotNull f w → (d : Data) (p : Plain) → plain_depth p ≤ n → not (is_null d) ≡ true → option_map present (f d) ≡ Some p
    → clear_present st p ≡ true → clear_maybe cl w p ≡ true
present_clear n f w st cl k nn d p h some e s =
    let m = mapped present (f d) p e in
    let deep : plain_depth (present m.0) ≤ n = subst (λ x. plain_depth x ≤ n) (sym m.2) h in
    let t : st m.0 ≡ true = subst (λ x. clear_present st x ≡ true) (sym m.2) s in
    subst (λ x. clear_maybe cl w x ≡ true) m.2 (both (not (is_null (w m.0))) (cl m.0) (nn d m.0 some m.1) (k d m.0 (omega arith) m.1 t))

absent_clear : (w : Plain → Data) (cl : Plain → Bool) (p : Plain) → Some absent ≡ Some p → clear_maybe cl w p ≡ true
absent_clear w cl p e = let is : absent ≡ p = cc in subst (λ x. clear_maybe cl w x ≡ true) is refl

maybe_clear : (n : ℕ) (f : Data → Option Plain) (w : Plain → Data) (st cl : Plain → Bool) → Clears n f st cl → NotNull f w → Clears n (read_maybe f) (clear_present st) (clear_maybe cl w)
maybe_clear n f w st cl k nn null p h e s = absent_clear w cl p e
maybe_clear n f w st cl k nn other p h e s = present_clear n f w st cl k nn other p h refl e s

-- what is read where a member is missing
pub record ClearOfDefaults (cl : Plain → Bool) : Type 0 where
  empty : cl (parts no_parts) ≡ true
  no : cl (leaf (boolean false)) ≡ true

by_default : (cl : Plain → Bool) (q p : Plain) → cl q ≡ true → Some q ≡ Some p → cl p ≡ true
by_default cl q p c e = let is : q ≡ p = cc in subst (λ x. cl x ≡ true) is c

member_clear : (r : Rule) (n : ℕ) (f : Data → Option Plain) (w : Plain → Data) (st cl : Plain → Bool) → Clears n f st cl → NotNull f w → ClearOfDefaults cl → (o : Option Data) (p : Plain) → plain_depth p ≤ n → read_member r f o ≡ Some p
    → settled_member r st p ≡ true → clear_member r cl w p ≡ true
member_clear required n f w st cl k nn df None p h e s = cc
member_clear required n f w st cl k nn df (Some d) p h e s = k d p h e s
member_clear omitted n f w st cl k nn df None p h e s = absent_clear w cl p e
member_clear omitted n f w st cl k nn df (Some d) p h e s = maybe_clear n f w st cl k nn d p h e s
member_clear nullable n f w st cl k nn df None p h e s = absent_clear w cl p e
member_clear nullable n f w st cl k nn df (Some d) p h e s = maybe_clear n f w st cl k nn d p h e s
member_clear or_empty n f w st cl k nn df None p h e s = by_default cl (parts no_parts) p df.empty e
member_clear or_empty n f w st cl k nn df (Some d) p h e s = k d p h e s
member_clear or_false n f w st cl k nn df None p h e s = by_default cl (leaf (boolean false)) p df.no e
member_clear or_false n f w st cl k nn df (Some d) p h e s = k d p h e s
member_clear unless_empty n f w st cl k nn df None p h e s = by_default cl (parts no_parts) p df.empty e
member_clear unless_empty n f w st cl k nn df (Some d) p h e s = k d p h e s
member_clear unless_false n f w st cl k nn df None p h e s = by_default cl (leaf (boolean false)) p df.no e
member_clear unless_false n f w st cl k nn df (Some d) p h e s = k d p h e s

supported_present : (f : Data → Option Plain) (st cl : Plain → Bool) → ((d : Data) (p : Plain) → f d ≡ Some p → st p ≡ true → cl p ≡ true) → (d : Data) (p : Plain) → option_map present (f d) ≡ Some p → clear_present st p ≡ true → clear_present cl p ≡ true
supported_present f st cl k d p e s =
    let m = mapped present (f d) p e in
    subst (λ x. clear_present cl x ≡ true) m.2 (k d m.0 m.1 (subst (λ x. clear_present st x ≡ true) (sym m.2) s))

supported_absent : (cl : Plain → Bool) (p : Plain) → Some absent ≡ Some p → clear_present cl p ≡ true
supported_absent cl p e = let is : absent ≡ p = cc in subst (λ x. clear_present cl x ≡ true) is refl

supported_truth : (f : Data → Option Plain) (st cl : Plain → Bool) → ((d : Data) (p : Plain) → f d ≡ Some p → st p ≡ true → cl p ≡ true) → (b : Bool) (p : Plain) → or_absent b f ≡ Some p → clear_present st p ≡ true → clear_present cl p ≡ true
supported_truth f st cl k false p e s = supported_absent cl p e
supported_truth f st cl k true p e s = supported_present f st cl k empty_set p e s

supported_clear : (f : Data → Option Plain) (st cl : Plain → Bool) → ((d : Data) (p : Plain) → f d ≡ Some p → st p ≡ true → cl p ≡ true) → (o : Option Data) (p : Plain) → read_supported f o ≡ Some p → clear_present st p ≡ true → clear_present cl p ≡ true
supported_clear f st cl k None p e s = supported_absent cl p e
supported_clear f st cl k (Some null) p e s = supported_absent cl p e
supported_clear f st cl k (Some (boolean x)) p e s = supported_truth f st cl k x p e s
supported_clear f st cl k (Some (number x)) p e s = supported_present f st cl k (number x) p e s
supported_clear f st cl k (Some (string x)) p e s = supported_present f st cl k (string x) p e s
supported_clear f st cl k (Some (array x)) p e s = supported_present f st cl k (array x) p e s
supported_clear f st cl k (Some (object x)) p e s = supported_present f st cl k (object x) p e s

abbrev FieldsClear : Fields → Type 0
FieldsClear fs = (n : ℕ) (f : Data → Option Plain) (w : Plain → Data) (st cl : Plain → Bool) → Clears n f st cl → NotNull f w → ClearOfDefaults cl → (d : Data) (ps : Parts) → parts_depth ps ≤ n → read_fields fs f d ≡ Some ps → are_settled fs st ps ≡ true → clear_fields fs cl w ps ≡ true

-- a field before others
one_clear : (n : ℕ) (o : Option Plain) (r : Option Parts) (ps : Parts) (test own : Plain → Bool) (tests others : Parts → Bool) → parts_depth ps ≤ n
    → ((p : Plain) → plain_depth p ≤ n → o ≡ Some p → test p ≡ true → own p ≡ true) → ((qs : Parts) → parts_depth qs ≤ n → r ≡ Some qs → tests qs ≡ true → others qs ≡ true)
    → and_part o r ≡ Some ps → clear_first test tests ps ≡ true → clear_first own others ps ≡ true
one_clear n o r ps test own tests others h here later e s =
    let m = split o r ps e in
    let deep : parts_depth (part m.0 m.1) ≤ n = subst (λ x. parts_depth x ≤ n) (sym m.4) h in
    let t = and_parts (test m.0) (tests m.1) (subst (λ x. clear_first test tests x ≡ true) (sym m.4) s) in
    subst (λ x. clear_first own others x ≡ true) m.4 (both (own m.0) (others m.1) (here m.0 (omega arith) m.2 t.0) (later m.1 (omega arith) m.3 t.1))

count_clear : (c : Count) (n : ℕ) (f : Data → Option Plain) (st cl : Plain → Bool) → Clears n f st cl → Clears n (read_count c f) (clear_count c st) (clear_count c cl)
count_clear one n f st cl k = k
count_clear many n f st cl k = λ d p h e s. list_clear (λ m. true) n f st cl k d p h e s

array_not_null : (f : Data → Option Plain) (w : Plain → Data) → NotNull (read_list (λ m. true) f) (write_list w)
array_not_null f w (array x) p n e = let m = mapped parts (read_items f x) p e in subst (λ y. not (is_null (write_list w y)) ≡ true) m.2 refl
array_not_null f w _ p n e = cc

count_not_null : (c : Count) (f : Data → Option Plain) (w : Plain → Data) → NotNull f w → NotNull (read_count c f) (write_count c w)
count_not_null one f w k = k
count_not_null many f w k = array_not_null f w

count_defaults : (c : Count) (cl : Plain → Bool) → ClearOfDefaults cl → ClearOfDefaults (clear_count c cl)
count_defaults one cl d = d
count_defaults many cl d = record { empty = refl; no = refl }

first_part : (fs : Fields) (cl : Plain → Bool) (w : Plain → Data) → clear_fields fs cl w no_parts ≡ true
first_part no_fields cl w = refl
first_part (field name r s fs) cl w = refl
first_part (flat s fs) cl w = refl
first_part (supported name s fs) cl w = refl
first_part (again name r c fs) cl w = refl

defaults : (s : Shape) → ClearOfDefaults (clear s)
defaults (fields fs) = record { empty = first_part fs is_any writes_null; no = refl }
defaults (recursive fs) = record { empty = first_part fs _ _; no = refl }
defaults _ = record { empty = refl; no = refl }

field_clear : (name : List ℕ) (r : Rule) (s : Shape) (fs : Fields) → ShapeClears s → FieldsClear fs → FieldsClear (field name r s fs)
field_clear name r s fs own later n f w st cl k nn df d ps h e t =
    one_clear n _ _ ps (settled_member r (is_settled s)) (clear_member r (clear s) (write s)) (are_settled fs st) (clear_fields fs cl w) h
    (λ p g is u. member_clear r n (read s) (write s) (is_settled s) (clear s) (λ x q y. own x q) (not_null s) (defaults s) (get name d) p g is u)
    (λ qs g is u. later n f w st cl k nn df d qs g is u) e t

flat_clear : (s : Shape) (fs : Fields) → ShapeClears s → FieldsClear fs → FieldsClear (flat s fs)
flat_clear s fs own later n f w st cl k nn df d ps h e t =
    one_clear n _ _ ps (is_settled s) (clear s) (are_settled fs st) (clear_fields fs cl w) h (λ p g is u. own d p is u) (λ qs g is u. later n f w st cl k nn df d qs g is u) e t

supported_field_clear : (name : List ℕ) (s : Shape) (fs : Fields) → ShapeClears s → FieldsClear fs → FieldsClear (supported name s fs)
supported_field_clear name s fs own later n f w st cl k nn df d ps h e t =
    one_clear n _ _ ps (clear_present (is_settled s)) (clear_present (clear s)) (are_settled fs st) (clear_fields fs cl w) h
    (λ p g is u. supported_clear (read s) (is_settled s) (clear s) own (get name d) p is u) (λ qs g is u. later n f w st cl k nn df d qs g is u) e t

again_clear : (name : List ℕ) (r : Rule) (c : Count) (fs : Fields) → FieldsClear fs → FieldsClear (again name r c fs)
again_clear name r c fs later n f w st cl k nn df d ps h e t =
    one_clear n _ _ ps (settled_member r (clear_count c st)) (clear_member r (clear_count c cl) (write_count c w)) (are_settled fs st) (clear_fields fs cl w) h
    (λ p g is u. member_clear r n (read_count c f) (write_count c w) (clear_count c st) (clear_count c cl) (count_clear c n f st cl k) (count_not_null c f w nn) (count_defaults c cl df) (get name d) p g is u)
    (λ qs g is u. later n f w st cl k nn df d qs g is u) e t

none_clear : (n : ℕ) → Clears n reads_none is_any is_any
none_clear n d p h e s = refl

none_not_null : NotNull reads_none writes_null
none_not_null d p n e = cc

any_defaults : ClearOfDefaults is_any
any_defaults = record { empty = refl; no = refl }

record_clear : (n : ℕ) (g : Data → Option Parts) (test other : Parts → Bool) → ((d : Data) (ps : Parts) → parts_depth ps ≤ n → g d ≡ Some ps → test ps ≡ true → other ps ≡ true) → (d : Data) (p : Plain) → plain_depth p ≤ suc n
    → read_record g d ≡ Some p → clear_parts test p ≡ true → clear_parts other p ≡ true
record_clear n g test other k null p h e s = cc
record_clear n g test other k (boolean x) p h e s = cc
record_clear n g test other k (number x) p h e s = cc
record_clear n g test other k (string x) p h e s = cc
record_clear n g test other k (array x) p h e s = cc
record_clear n g test other k (object x) p h e s =
    let m = mapped parts (g (object x)) p e in
    let deep : plain_depth (parts m.0) ≤ suc n = subst (λ y. plain_depth y ≤ suc n) (sym m.2) h in
    subst (λ y. clear_parts other y ≡ true) m.2 (k (object x) m.0 (omega arith) m.1 (subst (λ y. clear_parts test y ≡ true) (sym m.2) s))

fields_clear : (fs : Fields) → FieldsClear fs → ShapeClears (fields fs)
fields_clear fs k d p e s =
    record_clear (plain_depth p) (read_fields fs reads_none) (are_settled fs is_any) (clear_fields fs is_any writes_null)
    (λ x ps h r t. k (plain_depth p) reads_none writes_null is_any is_any (none_clear (plain_depth p)) none_not_null any_defaults x ps h r t) d p (omega arith) e s

rest_clear : (s : Shape) (fs : Fields) → ShapeClears s → FieldsClear fs → (x : Members) (ps : Parts) → and_rest (read_entries (field_names fs) (λ k. true) (read s) x) (read_fields fs reads_none (object x)) ≡ Some ps
    → clear_first (clear_parts (every (clear_entry [] (is_settled s)))) (are_settled fs is_any) ps ≡ true
    → clear_first (clear_parts (every (clear_entry (field_names fs) (clear s)))) (clear_fields fs is_any writes_null) ps ≡ true
rest_clear s fs own k x ps e t =
    let m = split_rest (read_entries (field_names fs) (λ k. true) (read s) x) (read_fields fs reads_none (object x)) ps e in
    let u = and_parts (every (clear_entry [] (is_settled s)) m.0) (are_settled fs is_any m.1) (subst (λ y. clear_first (clear_parts (every (clear_entry [] (is_settled s)))) (are_settled fs is_any) y ≡ true) (sym m.4) t) in
    subst (λ y. clear_first (clear_parts (every (clear_entry (field_names fs) (clear s)))) (clear_fields fs is_any writes_null) y ≡ true) m.4
    (both _ _ (entries_clear (field_names fs) (λ k. true) (read s) (is_settled s) (clear s) own x m.0 m.2 u.0)
    (k (parts_depth m.1) reads_none writes_null is_any is_any (none_clear (parts_depth m.1)) none_not_null any_defaults (object x) m.1 (omega arith) m.3 u.1))

fields_and_clear : (s : Shape) (fs : Fields) → ShapeClears s → FieldsClear fs → ShapeClears (fields_and s fs)
fields_and_clear s fs own k null p e t = cc
fields_and_clear s fs own k (boolean x) p e t = cc
fields_and_clear s fs own k (number x) p e t = cc
fields_and_clear s fs own k (string x) p e t = cc
fields_and_clear s fs own k (array x) p e t = cc
fields_and_clear s fs own k (object x) p e t =
    parts_clear (plain_depth p) _ _ (and_rest (read_entries (field_names fs) (λ k. true) (read s) x) (read_fields fs reads_none (object x))) p (omega arith) (λ ps h r u. rest_clear s fs own k x ps r u) e t

levels_clear : (fs : Fields) → FieldsClear fs → (n : ℕ) → Clears n (read (recursive fs)) (is_settled (recursive fs)) (clear (recursive fs))
levels_clear fs k zero d p h e s = level_zero p h
  where
    level_zero : (p : Plain) → plain_depth p ≤ 0 → clear (recursive fs) p ≡ true
    level_zero (parts ps) h = absurd (omega arith)
    level_zero _ h = refl
levels_clear fs k (suc n) d p h e s =
    clear-recursive fs p
    ∙ record_clear n (read_fields fs (read (recursive fs))) (are_settled fs (is_settled (recursive fs))) (clear_fields fs (clear (recursive fs)) (write (recursive fs)))
    (λ x ps g r t. k n (read (recursive fs)) (write (recursive fs)) (is_settled (recursive fs)) (clear (recursive fs)) (levels_clear fs k n) (not_null_itself fs) (defaults (recursive fs)) x ps g r t)
    d p h (sym (read-recursive fs d) ∙ e) (sym (settled-recursive fs p) ∙ s)

-- ---- variants

abbrev FirstClears : Shapes → Type 0
FirstClears ss = (i : ℕ) (d : Data) (p : Plain) → read_first ss i d ≡ Some p → (n : ℕ) × (q : Plain) × (choice (count_up i n) q ≡ p) × (is_settled_nth ss n q ≡ true → clear_nth ss n q ≡ true)

abbrev TaggedClears : Variants → Type 0
TaggedClears vs = (i : ℕ) (t : Option (List ℕ)) (d : Data) (p : Plain) → read_tagged vs i t d ≡ Some p → (n : ℕ) × (q : Plain) × (choice (count_up i n) q ≡ p) × (is_settled_variant vs n q ≡ true → clear_nth_variant vs n q ≡ true)

kept : (a b c : Bool) → (b ≡ true → c ≡ true) → (a && b) ≡ true → (a && c) ≡ true
kept a b c k e = let t = and_parts a b e in both a c t.0 (k t.1)

first_clears : (s : Shape) (ss : Shapes) → ShapeClears s → FirstClears ss → (i : ℕ) (d : Data) (p : Plain) → (o : Option Plain) → read s d ≡ o → first_of_two (option_map (choice i) o) (read_first ss (suc i) d) ≡ Some p
    → (n : ℕ) × (q : Plain) × (choice (count_up i n) q ≡ p) × (is_settled_nth (or_shape s ss) n q ≡ true → clear_nth (or_shape s ss) n q ≡ true)
first_clears s ss own later i d p (Some q) r e = (0, q, cc, own d q r)
first_clears s ss own later i d p None r e = let m = later (suc i) d p e in (suc m.0, m.1, m.2, kept _ (is_settled_nth ss m.0 m.1) (clear_nth ss m.0 m.1) m.3)

tagged_clears : (name : List ℕ) (s : Shape) (vs : Variants) → ShapeClears s → TaggedClears vs → (i : ℕ) (t : Option (List ℕ)) (d : Data) (p : Plain) (b : Bool) → cond b (option_map (choice i) (read s d)) (read_tagged vs (suc i) t d) ≡ Some p
    → (n : ℕ) × (q : Plain) × (choice (count_up i n) q ≡ p) × (is_settled_variant (variant name s vs) n q ≡ true → clear_nth_variant (variant name s vs) n q ≡ true)
tagged_clears name s vs own later i t d p true e = let m = mapped (choice i) (read s d) p e in (0, m.0, m.2, own d m.0 m.1)
tagged_clears name s vs own later i t d p false e = let m = later (suc i) t d p e in (suc m.0, m.1, m.2, m.3)

choice_clear : (test other : ℕ → Plain → Bool) (n : ℕ) (q p : Plain) → choice (count_up 0 n) q ≡ p → (test n q ≡ true → other n q ≡ true) → clear_choice test p ≡ true → clear_choice other p ≡ true
choice_clear test other n q p e k s =
    let same : count_up 0 n ≡ n = count_up-add 0 n ∙ (omega arith) in
    let is = ap (λ j. choice j q) (sym same) ∙ e in
    subst (λ x. clear_choice other x ≡ true) is (k (subst (λ x. clear_choice test x ≡ true) (sym is) s))

mutual
  -- what is read of a value
  pub read_clear : (s : Shape) → ShapeClears s
  read_clear (bits high) = λ d p e t. clears_bits high d p e
  read_clear (list_of test s) = λ d p e t. list_clear test (plain_depth p) (read s) (is_settled s) (clear s) (λ x q h. read_clear s x q) d p (omega arith) e t
  read_clear (maybe s) = λ d p e t. maybe_clear (plain_depth p) (read s) (write s) (is_settled s) (clear s) (λ x q h. read_clear s x q) (not_null s) d p (omega arith) e t
  read_clear (map_of test s) = map_clear test s (read_clear s)
  read_clear (fields fs) = fields_clear fs (all_clear fs)
  read_clear (fields_and s fs) = fields_and_clear s fs (read_clear s) (all_clear fs)
  read_clear (recursive fs) = λ d p e t. levels_clear fs (all_clear fs) (plain_depth p) d p (omega arith) e t
  read_clear (union ss) = λ d p e t. let m = first_clear ss 0 d p e in choice_clear (is_settled_nth ss) (clear_nth ss) m.0 m.1 p m.2 m.3 t
  read_clear (tagged tag vs) = λ d p e t. let m = variants_clear vs 0 (option_and_then as_str (get tag d)) d p e in choice_clear (is_settled_variant vs) (clear_nth_variant vs) m.0 m.1 p m.2 m.3 t
  read_clear _ = λ d p e t. refl

  all_clear : (fs : Fields) → FieldsClear fs
  all_clear no_fields = λ n f w st cl k nn df d ps h e t. refl
  all_clear (field name r s fs) = field_clear name r s fs (read_clear s) (all_clear fs)
  all_clear (flat s fs) = flat_clear s fs (read_clear s) (all_clear fs)
  all_clear (supported name s fs) = supported_field_clear name s fs (read_clear s) (all_clear fs)
  all_clear (again name r c fs) = again_clear name r c fs (all_clear fs)

  first_clear : (ss : Shapes) → FirstClears ss
  first_clear no_shapes = λ i d p e. absurd cc
  first_clear (or_shape s ss) = λ i d p e. first_clears s ss (read_clear s) (first_clear ss) i d p (read s d) refl e

  variants_clear : (vs : Variants) → TaggedClears vs
  variants_clear no_variants = λ i t d p e. absurd cc
  variants_clear (variant name s vs) = λ i t d p e. tagged_clears name s vs (read_clear s) (variants_clear vs) i t d p (text_is name t) e
