-- What is read of a value with no float has none.
use Rattle.std.proofs.Common.{◌≡◌, ℕ, zero, suc, List, [], Ordering, Less, Equal, Greater, nat_cmp, subst, Bool, true, false, Option, Some, None, option_map, refl, cond, true≢false, ◌||◌, ℤ, pos, negsuc}
use Rattle.std.specs.Cmp.Lexicographic.{slice_cmp}
use Rattle.std.specs.Ordering.{match_ordering}
use Rattle.serde_json.specs.Data.{Data, null, boolean, number, string, array, object, Items, no_items, item, Members, no_members, member, depth}
use Rattle.serde_json.specs.Find.{get, get_member, as_integer, of_integer}
use Rattle.serde_json.specs.Written.{has_float, items_have_float, members_have_float}
use Rattle.lsp_shape.specs.Plain.{Plain, leaf, absent, present, parts, entry, choice, Parts, no_parts, part, plain_has_float, parts_have_float}
use Rattle.lsp_shape.specs.Shape.{Rule, required, omitted, nullable, or_empty, or_false, unless_empty, unless_false, Count, one, many, Shape, nil, truth, integer, bits, text, any, list_of, maybe, map_of, fields, fields_and, recursive, union, tagged, Fields, no_fields, field, flat, supported, again, Shapes, no_shapes, or_shape, Variants, no_variants, variant, has_name, field_names}
use Rattle.lsp_shape.specs.Read.{read, read_fields, read_first, read_tagged, read_nil, read_truth, read_integer, integer_within, read_text, read_list, read_items, item_count, read_maybe, read_member, read_record, and_part, first_of_two, text_is, read_entries, read_entry, read_map, and_rest, read_with_rest, read_or_truth, read_supported, or_absent, empty_set, read_count, reads_none, iterate}

pub or_false_left : (a b : Bool) → (a || b) ≡ false → a ≡ false
or_false_left true b e = e
or_false_left false b e = refl

pub or_false_right : (a b : Bool) → (a || b) ≡ false → b ≡ false
or_false_right true b e = absurd (true≢false e)
or_false_right false b e = e

pub neither : (a b : Bool) → a ≡ false → b ≡ false → (a || b) ≡ false
neither a b p q = rw (p, q) refl

found : (o : Ordering) (rest : Option Data) (e d : Data) → has_float e ≡ false → (rest ≡ Some d → has_float d ≡ false) → match_ordering o rest (Some e) rest ≡ Some d → has_float d ≡ false
found Less rest e d p q is = q is
found Equal rest e d p q is = let h : e ≡ d = cc in subst (λ x. has_float x ≡ false) h p
found Greater rest e d p q is = q is

pub member_floatless : (k : List ℕ) (ms : Members) (d : Data) → members_have_float ms ≡ false → get_member k ms ≡ Some d → has_float d ≡ false
member_floatless k no_members d n is = cc
member_floatless k (member l e ms) d n is =
    found (slice_cmp nat_cmp k l) (get_member k ms) e d (or_false_left (has_float e) (members_have_float ms) n) (member_floatless k ms d (or_false_right (has_float e) (members_have_float ms) n)) is

-- ---- what each reader gives

abbrev Keeps : (Data → Option Plain) → Type 0
Keeps f = (d : Data) (p : Plain) → has_float d ≡ false → f d ≡ Some p → plain_has_float p ≡ false

abbrev KeepsParts : (Data → Option Parts) → Type 0
KeepsParts g = (d : Data) (ps : Parts) → has_float d ≡ false → g d ≡ Some ps → parts_have_float ps ≡ false

is_plain : (q p : Plain) → plain_has_float q ≡ false → Some q ≡ Some p → plain_has_float p ≡ false
is_plain q p n e = let h : q ≡ p = cc in subst (λ x. plain_has_float x ≡ false) h n

chosen : (b : Bool) (q p : Plain) → plain_has_float q ≡ false → cond b (Some q) None ≡ Some p → plain_has_float p ≡ false
chosen true q p n e = is_plain q p n e
chosen false q p n e = cc

keeps_nil : Keeps read_nil
keeps_nil null p n e = is_plain (leaf null) p refl e
keeps_nil _ p n e = cc

keeps_truth : Keeps read_truth
keeps_truth (boolean x) p n e = is_plain (leaf (boolean x)) p refl e
keeps_truth _ p n e = cc

whole : (z : ℤ) → has_float (number (of_integer z)) ≡ false
whole (pos n) = refl
whole (negsuc n) = refl

keeps_within : (low high : ℤ) (o : Option ℤ) (p : Plain) → integer_within low high o ≡ Some p → plain_has_float p ≡ false
keeps_within low high None p e = cc
keeps_within low high (Some z) p e = chosen _ (leaf (number (of_integer z))) p (whole z) e

keeps_integer : (low high : ℤ) → Keeps (read_integer low high)
keeps_integer low high (number x) p n e = keeps_within low high (as_integer x) p e
keeps_integer low high _ p n e = cc

keeps_text : (test : List ℕ → Bool) → Keeps (read_text test)
keeps_text test (string x) p n e = chosen (test x) (leaf (string x)) p refl e
keeps_text test _ p n e = cc

pub mapped : {A B : Type 0} (g : A → B) (o : Option A) (b : B) → option_map g o ≡ Some b → (a : A) × (o ≡ Some a) × (g a ≡ b)
mapped g None b e = cc
mapped g (Some a) b e = (a, refl, cc)

pub split : (o : Option Plain) (r : Option Parts) (ps : Parts) → and_part o r ≡ Some ps → (q : Plain) × (qs : Parts) × (o ≡ Some q) × (r ≡ Some qs) × (part q qs ≡ ps)
split None r ps e = cc
split (Some q) None ps e = cc
split (Some q) (Some qs) ps e = (q, qs, refl, refl, cc)

joined : (q : Plain) (qs ps : Parts) → plain_has_float q ≡ false → parts_have_float qs ≡ false → part q qs ≡ ps → parts_have_float ps ≡ false
joined q qs ps a b e = subst (λ x. parts_have_float x ≡ false) e (neither (plain_has_float q) (parts_have_float qs) a b)

keeps_map : (g : Plain → Plain) (o : Option Plain) (p : Plain) → ((q : Plain) → o ≡ Some q → plain_has_float (g q) ≡ false) → option_map g o ≡ Some p → plain_has_float p ≡ false
keeps_map g o p k e = let m = mapped g o p e in subst (λ x. plain_has_float x ≡ false) m.2 (k m.0 m.1)

keeps_items : (f : Data → Option Plain) → Keeps f → (ds : Items) (ps : Parts) → items_have_float ds ≡ false → read_items f ds ≡ Some ps → parts_have_float ps ≡ false
keeps_items f k no_items ps n e = let h : no_parts ≡ ps = cc in subst (λ x. parts_have_float x ≡ false) h refl
keeps_items f k (item d ds) ps n e =
    let s = split (f d) (read_items f ds) ps e in
    joined s.0 s.1 ps (k d s.0 (or_false_left (has_float d) (items_have_float ds) n) s.2) (keeps_items f k ds s.1 (or_false_right (has_float d) (items_have_float ds) n) s.3) s.4

parts_plain : (o : Option Parts) (p : Plain) → ((ps : Parts) → o ≡ Some ps → parts_have_float ps ≡ false) → option_map parts o ≡ Some p → plain_has_float p ≡ false
parts_plain o p k e = let m = mapped parts o p e in subst (λ x. plain_has_float x ≡ false) m.2 (k m.0 m.1)

either_of : (t : Bool) (a b : Option Plain) (p : Plain) → (a ≡ Some p → plain_has_float p ≡ false) → (b ≡ Some p → plain_has_float p ≡ false) → cond t a b ≡ Some p → plain_has_float p ≡ false
either_of true a b p k m e = k e
either_of false a b p k m e = m e

keeps_list : (test : ℕ → Bool) (f : Data → Option Plain) → Keeps f → Keeps (read_list test f)
keeps_list test f k null p n e = cc
keeps_list test f k (boolean x) p n e = cc
keeps_list test f k (number x) p n e = cc
keeps_list test f k (string x) p n e = cc
keeps_list test f k (array x) p n e =
    either_of (test (item_count x)) (option_map parts (read_items f x)) None p (λ h. parts_plain (read_items f x) p (λ ps is. keeps_items f k x ps n is) h) (λ h. cc) e
keeps_list test f k (object x) p n e = cc

keeps_maybe : (f : Data → Option Plain) → Keeps f → Keeps (read_maybe f)
keeps_maybe f k null p n e = is_plain absent p refl e
keeps_maybe f k other p n e = keeps_map present (f other) p (λ q is. k other q n is) e

keeps_member : (r : Rule) (f : Data → Option Plain) → Keeps f → (o : Option Data) (p : Plain) → ((d : Data) → o ≡ Some d → has_float d ≡ false) → read_member r f o ≡ Some p → plain_has_float p ≡ false
keeps_member required f k None p n e = cc
keeps_member required f k (Some d) p n e = k d p (n d refl) e
keeps_member omitted f k None p n e = is_plain absent p refl e
keeps_member omitted f k (Some d) p n e = keeps_maybe f k d p (n d refl) e
keeps_member nullable f k None p n e = is_plain absent p refl e
keeps_member nullable f k (Some d) p n e = keeps_maybe f k d p (n d refl) e
keeps_member or_empty f k None p n e = is_plain (parts no_parts) p refl e
keeps_member or_empty f k (Some d) p n e = k d p (n d refl) e
keeps_member or_false f k None p n e = is_plain (leaf (boolean false)) p refl e
keeps_member or_false f k (Some d) p n e = k d p (n d refl) e
keeps_member unless_empty f k None p n e = is_plain (parts no_parts) p refl e
keeps_member unless_empty f k (Some d) p n e = k d p (n d refl) e
keeps_member unless_false f k None p n e = is_plain (leaf (boolean false)) p refl e
keeps_member unless_false f k (Some d) p n e = k d p (n d refl) e

keeps_or_absent : (b : Bool) (f : Data → Option Plain) (p : Plain) → Keeps f → or_absent b f ≡ Some p → plain_has_float p ≡ false
keeps_or_absent false f p k e = is_plain absent p refl e
keeps_or_absent true f p k e = keeps_map present (f empty_set) p (λ q is. k empty_set q refl is) e

keeps_or_truth : (f : Data → Option Plain) → Keeps f → Keeps (read_or_truth f)
keeps_or_truth f k null p n e = is_plain absent p refl e
keeps_or_truth f k (boolean x) p n e = keeps_or_absent x f p k e
keeps_or_truth f k other p n e = keeps_map present (f other) p (λ q is. k other q n is) e

keeps_supported : (f : Data → Option Plain) → Keeps f → (o : Option Data) (p : Plain) → ((d : Data) → o ≡ Some d → has_float d ≡ false) → read_supported f o ≡ Some p → plain_has_float p ≡ false
keeps_supported f k None p n e = is_plain absent p refl e
keeps_supported f k (Some d) p n e = keeps_or_truth f k d p (n d refl) e

get_floatless : (k : List ℕ) (d e : Data) → has_float d ≡ false → get k d ≡ Some e → has_float e ≡ false
get_floatless k (object ms) e n is = member_floatless k ms e n is
get_floatless k _ e n is = cc

keeps_record : (g : Data → Option Parts) → KeepsParts g → Keeps (read_record g)
keeps_record g k (object x) p n e = parts_plain (g (object x)) p (λ ps is. k (object x) ps n is) e
keeps_record g k _ p n e = cc

one_of_two : (a b : Option Plain) (p : Plain) → (a ≡ Some p → plain_has_float p ≡ false) → (b ≡ Some p → plain_has_float p ≡ false) → first_of_two a b ≡ Some p → plain_has_float p ≡ false
one_of_two None b p k m e = m e
one_of_two (Some a) b p k m e = k e

either_parts : (t : Bool) (a b : Option Parts) (ps : Parts) → (a ≡ Some ps → parts_have_float ps ≡ false) → (b ≡ Some ps → parts_have_float ps ≡ false) → cond t a b ≡ Some ps → parts_have_float ps ≡ false
either_parts true a b ps k m e = k e
either_parts false a b ps k m e = m e

keeps_entry : (test : List ℕ → Bool) (f : Data → Option Plain) → Keeps f → (k : List ℕ) (d : Data) (p : Plain) → has_float d ≡ false → read_entry test f k d ≡ Some p → plain_has_float p ≡ false
keeps_entry test f keeps k d p n e = either_of (test k) (option_map (entry k) (f d)) None p (λ h. keeps_map (entry k) (f d) p (λ q is. keeps d q n is) h) (λ h. cc) e

keeps_entries : (ns : List (List ℕ)) (test : List ℕ → Bool) (f : Data → Option Plain) → Keeps f → (ms : Members) (ps : Parts) → members_have_float ms ≡ false → read_entries ns test f ms ≡ Some ps → parts_have_float ps ≡ false
keeps_entries ns test f k no_members ps n e = let h : no_parts ≡ ps = cc in subst (λ x. parts_have_float x ≡ false) h refl
keeps_entries ns test f k (member l d ms) ps n e =
    let here = or_false_left (has_float d) (members_have_float ms) n in
    let later = or_false_right (has_float d) (members_have_float ms) n in
    either_parts (has_name l ns) (read_entries ns test f ms) (and_part (read_entry test f l d) (read_entries ns test f ms)) ps
    (λ h. keeps_entries ns test f k ms ps later h)
    (λ h. let s = split (read_entry test f l d) (read_entries ns test f ms) ps h in
    joined s.0 s.1 ps (keeps_entry test f k l d s.0 here s.2) (keeps_entries ns test f k ms s.1 later s.3) s.4) e

keeps_object : (f : Members → Option Parts) → ((ms : Members) (ps : Parts) → members_have_float ms ≡ false → f ms ≡ Some ps → parts_have_float ps ≡ false) → Keeps (read_map f)
keeps_object f k (object ms) p n e = parts_plain (f ms) p (λ ps is. k ms ps n is) e
keeps_object f k _ p n e = cc

pub split_rest : (a b : Option Parts) (ps : Parts) → and_rest a b ≡ Some ps → (es : Parts) × (qs : Parts) × (a ≡ Some es) × (b ≡ Some qs) × (part (parts es) qs ≡ ps)
split_rest None b ps e = cc
split_rest (Some es) None ps e = cc
split_rest (Some es) (Some qs) ps e = (es, qs, refl, refl, cc)

keeps_with_rest : (f : Members → Option Parts) (g : Data → Option Parts) → ((ms : Members) (ps : Parts) → members_have_float ms ≡ false → f ms ≡ Some ps → parts_have_float ps ≡ false) → KeepsParts g → Keeps (read_with_rest f g)
keeps_with_rest f g k j null p n e = cc
keeps_with_rest f g k j (boolean x) p n e = cc
keeps_with_rest f g k j (number x) p n e = cc
keeps_with_rest f g k j (string x) p n e = cc
keeps_with_rest f g k j (array x) p n e = cc
keeps_with_rest f g k j (object ms) p n e = parts_plain (and_rest (f ms) (g (object ms))) p
    (λ ps is. let s = split_rest (f ms) (g (object ms)) ps is in joined (parts s.0) s.1 ps (k ms s.0 n s.2) (j (object ms) s.1 n s.3) s.4) e

keeps_none : Keeps reads_none
keeps_none d p n e = cc

keeps_count : (c : Count) (f : Data → Option Plain) → Keeps f → Keeps (read_count c f)
keeps_count one f k = k
keeps_count many f k = keeps_list (λ n. true) f k

keeps_iterate : (F : (Data → Option Plain) → Data → Option Plain) → ((f : Data → Option Plain) → Keeps f → Keeps (F f)) → (n : ℕ) → Keeps (iterate {A = Data → Option Plain} n reads_none F)
keeps_iterate F k zero = keeps_none
keeps_iterate F k (suc n) = k (iterate {A = Data → Option Plain} n reads_none F) (keeps_iterate F k n)

mutual
  -- what is read of a value with no float has none
  pub read_floatless : (s : Shape) → Keeps (read s)
  read_floatless nil = keeps_nil
  read_floatless truth = keeps_truth
  read_floatless (integer low high) = keeps_integer low high
  read_floatless (bits high) = keeps_integer (pos 0) (pos high)
  read_floatless (text test) = keeps_text test
  read_floatless any = λ d p n e. is_plain (leaf d) p n e
  read_floatless (list_of test s) = keeps_list test (read s) (read_floatless s)
  read_floatless (maybe s) = keeps_maybe (read s) (read_floatless s)
  read_floatless (map_of test s) = keeps_object (read_entries [] test (read s)) (keeps_entries [] test (read s) (read_floatless s))
  read_floatless (fields fs) = keeps_record (read_fields fs reads_none) (fields_floatless fs reads_none keeps_none)
  read_floatless (fields_and s fs) = keeps_with_rest (read_entries (field_names fs) (λ k. true) (read s)) (read_fields fs reads_none)
      (keeps_entries (field_names fs) (λ k. true) (read s) (read_floatless s)) (fields_floatless fs reads_none keeps_none)
  read_floatless (recursive fs) = λ d p n e. keeps_iterate (λ self. read_record (read_fields fs self)) (λ self k. keeps_record (read_fields fs self) (fields_floatless fs self k)) (suc (depth d)) d p n e
  read_floatless (union ss) = first_floatless ss 0
  read_floatless (tagged name vs) = λ d p n e. tagged_floatless vs 0 _ d p n e

  fields_floatless : (fs : Fields) (self : Data → Option Plain) → Keeps self → KeepsParts (read_fields fs self)
  fields_floatless no_fields = λ self k d ps n e. let h : no_parts ≡ ps = cc in subst (λ x. parts_have_float x ≡ false) h refl
  fields_floatless (field name r s fs) = λ self k d ps n e.
      let t = split (read_member r (read s) (get name d)) (read_fields fs self d) ps e in
      joined t.0 t.1 ps (keeps_member r (read s) (read_floatless s) (get name d) t.0 (λ m is. get_floatless name d m n is) t.2) (fields_floatless fs self k d t.1 n t.3) t.4
  fields_floatless (flat s fs) = λ self k d ps n e.
      let t = split (read s d) (read_fields fs self d) ps e in
      joined t.0 t.1 ps (read_floatless s d t.0 n t.2) (fields_floatless fs self k d t.1 n t.3) t.4
  fields_floatless (supported name s fs) = λ self k d ps n e.
      let t = split (read_supported (read s) (get name d)) (read_fields fs self d) ps e in
      joined t.0 t.1 ps (keeps_supported (read s) (read_floatless s) (get name d) t.0 (λ m is. get_floatless name d m n is) t.2) (fields_floatless fs self k d t.1 n t.3) t.4
  fields_floatless (again name r c fs) = λ self k d ps n e.
      let t = split (read_member r (read_count c self) (get name d)) (read_fields fs self d) ps e in
      joined t.0 t.1 ps (keeps_member r (read_count c self) (keeps_count c self k) (get name d) t.0 (λ m is. get_floatless name d m n is) t.2) (fields_floatless fs self k d t.1 n t.3) t.4

  first_floatless : (ss : Shapes) (i : ℕ) → Keeps (read_first ss i)
  first_floatless no_shapes = λ i d p n e. cc
  first_floatless (or_shape s ss) = λ i d p n e.
      one_of_two (option_map (choice i) (read s d)) (read_first ss (suc i) d) p
      (λ h. keeps_map (choice i) (read s d) p (λ q is. read_floatless s d q n is) h) (λ h. first_floatless ss (suc i) d p n h) e

  tagged_floatless : (vs : Variants) (i : ℕ) (t : Option (List ℕ)) → Keeps (read_tagged vs i t)
  tagged_floatless no_variants = λ i t d p n e. cc
  tagged_floatless (variant name s vs) = λ i t d p n e.
      either_of (text_is name t) (option_map (choice i) (read s d)) (read_tagged vs (suc i) t d) p
      (λ h. keeps_map (choice i) (read s d) p (λ q is. read_floatless s d q n is) h) (λ h. tagged_floatless vs (suc i) t d p n h) e
