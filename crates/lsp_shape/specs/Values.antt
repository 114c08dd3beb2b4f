-- The plain data of a shape, and that which reads back from what is written for it.
use Rattle.std.specs.Prelude.{ℕ, suc, ◌+◌, ℤ, pos, int_le, List, [], ◌∷◌, Bool, true, false, ◌&&◌, not, is_some}
use Rattle.serde_json.specs.Data.{Data, Num, unsigned, negative, float, number}
use Rattle.lsp_shape.specs.Plain.{Plain, leaf, absent, present, parts, entry, choice, Parts, no_parts, part, plain_depth}
use Rattle.lsp_shape.specs.Shape.{Rule, omitted, nullable, Count, one, many, Shape, nil, truth, integer, bits, text, any, list_of, maybe, map_of, fields, fields_and, recursive, union, tagged, Fields, no_fields, field, flat, supported, again, Shapes, no_shapes, or_shape, Variants, no_variants, variant, names, field_names, has_name, is_open, are_distinct}
use Rattle.lsp_shape.specs.Read.{read_nil, read_truth, read_text, fits, iterate}
use Rattle.lsp_shape.specs.Write.{write, write_nth, write_count, writes_null, pick}

-- ---- the plain data of a shape

abbrev pub is_leaf : (Data → Bool) → Plain → Bool
is_leaf test (leaf d) = test d
is_leaf test _ = false

abbrev pub is_null : Data → Bool
is_null d = is_some (read_nil d)

abbrev pub is_truth : Data → Bool
is_truth d = is_some (read_truth d)

-- an integer is told by its sign
abbrev pub is_number_within : ℤ → ℤ → Num → Bool
is_number_within low high (unsigned n) = int_le low (pos n) && int_le (pos n) high
is_number_within low high (negative z) = int_le low z && int_le z high && not (int_le (pos 0) z)
is_number_within low high (float x) = false

abbrev pub is_integer_within : ℤ → ℤ → Data → Bool
is_integer_within low high (number n) = is_number_within low high n
is_integer_within low high _ = false

abbrev pub is_unsigned_number : Num → Bool
is_unsigned_number (unsigned n) = true
is_unsigned_number (negative z) = false
is_unsigned_number (float x) = false

abbrev pub is_unsigned : Data → Bool
is_unsigned (number n) = is_unsigned_number n
is_unsigned _ = false

abbrev pub is_text_of : (List ℕ → Bool) → Data → Bool
is_text_of test d = is_some (read_text test d)

abbrev pub every : (Plain → Bool) → Parts → Bool
every test no_parts = true
every test (part p ps) = test p && every test ps

abbrev pub part_count : Parts → ℕ
part_count no_parts = 0
part_count (part p ps) = part_count ps + 1

-- so many parts, each of which passes
abbrev pub counted : (ℕ → Bool) → (Plain → Bool) → Parts → Bool
counted length_test test ps = length_test (part_count ps) && every test ps

abbrev pub is_parts : (Parts → Bool) → Plain → Bool
is_parts test (parts ps) = test ps
is_parts test _ = false

abbrev pub is_maybe : (Plain → Bool) → Plain → Bool
is_maybe test absent = true
is_maybe test (present p) = test p
is_maybe test _ = false

abbrev pub is_entry : (List ℕ → Bool) → (Plain → Bool) → Plain → Bool
is_entry key_test test (entry k p) = key_test k && test p
is_entry key_test test _ = false

abbrev pub is_choice : (ℕ → Plain → Bool) → Plain → Bool
is_choice test (choice n p) = test n p
is_choice test _ = false

abbrev pub by_rule : Rule → (Plain → Bool) → Plain → Bool
by_rule omitted test = is_maybe test
by_rule nullable test = is_maybe test
by_rule _ test = test

abbrev pub first_and : (Plain → Bool) → (Parts → Bool) → Parts → Bool
first_and test more no_parts = false
first_and test more (part p ps) = test p && more ps

abbrev pub no_part : Parts → Bool
no_part no_parts = true
no_part (part p ps) = false

abbrev pub is_count : Count → (Plain → Bool) → Plain → Bool
is_count one test = test
is_count many test = is_parts (every test)

abbrev pub is_none : Plain → Bool
is_none p = false

-- no two variants have one name
abbrev pub are_told_apart : List (List ℕ) → Bool
are_told_apart [] = true
are_told_apart (n ∷ ns) = not (has_name n ns) && are_told_apart ns

abbrev pub tags : Variants → List (List ℕ)
tags no_variants = []
tags (variant name s vs) = name ∷ tags vs

-- beside the members of the shape stands another of that name
abbrev pub leaves_room : List ℕ → Shape → Bool
leaves_room name s = is_open s && not (has_name name (names s))

-- The names in a record differ, and so do those of variants. The member that tells a variant is none of its own.
abbrev mutual
  pub is_of : Shape → Plain → Bool
  is_of nil = is_leaf is_null
  is_of truth = is_leaf is_truth
  is_of (integer low high) = is_leaf (is_integer_within low high)
  is_of (bits high) = is_leaf is_unsigned
  is_of (text test) = is_leaf (is_text_of test)
  is_of any = is_leaf (λ d. true)
  is_of (list_of test s) = is_parts (counted test (is_of s))
  is_of (maybe s) = is_maybe (is_of s)
  is_of (map_of test s) = is_parts (every (is_entry test (is_of s)))
  is_of (fields fs) = λ p. are_distinct fs && is_parts (are_fields fs is_none) p
  is_of (fields_and s fs) = λ p. are_distinct fs && is_parts (first_and (is_parts (every (is_entry (λ k. true) (is_of s)))) (are_fields fs is_none)) p
  is_of (recursive fs) = λ p. are_distinct fs && iterate (suc (plain_depth p)) is_none (λ self. is_parts (are_fields fs self)) p
  is_of (union ss) = is_choice (is_nth ss)
  is_of (tagged name vs) = λ p. are_told_apart (tags vs) && is_choice (is_nth_variant vs name) p

  pub are_fields : Fields → (Plain → Bool) → Parts → Bool
  are_fields no_fields = λ self. no_part
  are_fields (field name r s fs) = λ self. first_and (by_rule r (is_of s)) (are_fields fs self)
  are_fields (flat s fs) = λ self. first_and (is_of s) (are_fields fs self)
  are_fields (supported name s fs) = λ self. first_and (is_maybe (is_of s)) (are_fields fs self)
  are_fields (again name r c fs) = λ self. first_and (by_rule r (is_count c self)) (are_fields fs self)

  pub is_nth : Shapes → ℕ → Plain → Bool
  is_nth no_shapes = λ n p. false
  is_nth (or_shape s ss) = pick (is_of s) (is_nth ss)

  pub is_nth_variant : Variants → List ℕ → ℕ → Plain → Bool
  is_nth_variant no_variants = λ tag n p. false
  is_nth_variant (variant name s vs) = λ tag. pick (λ p. leaves_room tag s && is_of s p) (is_nth_variant vs tag)

-- ---- what reads back

-- what is there is not written as null
abbrev pub clear_maybe : (Plain → Bool) → (Plain → Data) → Plain → Bool
clear_maybe test f (present p) = not (is_null (f p)) && test p
clear_maybe test f _ = true

-- what is there passes
abbrev pub clear_present : (Plain → Bool) → Plain → Bool
clear_present test (present p) = test p
clear_present test _ = true

abbrev pub clear_bits : ℕ → Data → Bool
clear_bits high (number n) = is_number_within (pos 0) (pos high) n
clear_bits high _ = true

abbrev pub clear_leaf : (Data → Bool) → Plain → Bool
clear_leaf test (leaf d) = test d
clear_leaf test _ = true

abbrev pub clear_member : Rule → (Plain → Bool) → (Plain → Data) → Plain → Bool
clear_member omitted test f = clear_maybe test f
clear_member nullable test f = clear_maybe test f
clear_member _ test f = test

-- the value of each entry passes, and no key is one of the names
abbrev pub clear_entry : List (List ℕ) → (Plain → Bool) → Plain → Bool
clear_entry ns test (entry k p) = not (has_name k ns) && test p
clear_entry ns test _ = true

abbrev pub clear_parts : (Parts → Bool) → Plain → Bool
clear_parts test (parts ps) = test ps
clear_parts test _ = true

abbrev pub clear_first : (Plain → Bool) → (Parts → Bool) → Parts → Bool
clear_first test more no_parts = true
clear_first test more (part p ps) = test p && more ps

abbrev pub clear_choice : (ℕ → Plain → Bool) → Plain → Bool
clear_choice test (choice n p) = test n p
clear_choice test _ = true

abbrev pub clear_count : Count → (Plain → Bool) → Plain → Bool
clear_count one test = test
clear_count many test = clear_parts (every test)

abbrev pub is_any : Plain → Bool
is_any p = true

-- Everything but: a variant of a union whose written value fits an earlier variant; what may be absent, is there, and is
-- written as null; an entry of a record's map whose key is the name of a field; bits past those that are read.
abbrev mutual
  pub clear : Shape → Plain → Bool
  clear (bits high) = clear_leaf (clear_bits high)
  clear (list_of test s) = clear_parts (every (clear s))
  clear (maybe s) = clear_maybe (clear s) (write s)
  clear (map_of test s) = clear_parts (every (clear_entry [] (clear s)))
  clear (fields fs) = clear_parts (clear_fields fs is_any writes_null)
  clear (fields_and s fs) = clear_parts (clear_first (clear_parts (every (clear_entry (field_names fs) (clear s)))) (clear_fields fs is_any writes_null))
  clear (recursive fs) = λ p. iterate (suc (plain_depth p)) is_any (λ self. clear_parts (clear_fields fs self (write (recursive fs)))) p
  clear (union ss) = clear_choice (clear_nth ss)
  clear (tagged name vs) = clear_choice (clear_nth_variant vs)
  clear _ = is_any

  pub clear_fields : Fields → (Plain → Bool) → (Plain → Data) → Parts → Bool
  clear_fields no_fields = λ self writes ps. true
  clear_fields (field name r s fs) = λ self writes. clear_first (clear_member r (clear s) (write s)) (clear_fields fs self writes)
  clear_fields (flat s fs) = λ self writes. clear_first (clear s) (clear_fields fs self writes)
  clear_fields (supported name s fs) = λ self writes. clear_first (clear_present (clear s)) (clear_fields fs self writes)
  clear_fields (again name r c fs) = λ self writes. clear_first (clear_member r (clear_count c self) (write_count c writes)) (clear_fields fs self writes)

  pub clear_nth : Shapes → ℕ → Plain → Bool
  clear_nth no_shapes = λ n p. true
  clear_nth (or_shape s ss) = pick (clear s) (λ n p. not (fits s (write_nth ss n p)) && clear_nth ss n p)

  pub clear_nth_variant : Variants → ℕ → Plain → Bool
  clear_nth_variant no_variants = λ n p. true
  clear_nth_variant (variant name s vs) = pick (clear s) (clear_nth_variant vs)

-- ---- what is trimmed once and for all

abbrev pub settled_member : Rule → (Plain → Bool) → Plain → Bool
settled_member omitted test = clear_present test
settled_member nullable test = clear_present test
settled_member _ test = test

-- everything but a variant of a union whose written value fits an earlier variant
abbrev mutual
  pub is_settled : Shape → Plain → Bool
  is_settled (list_of test s) = clear_parts (every (is_settled s))
  is_settled (maybe s) = clear_present (is_settled s)
  is_settled (map_of test s) = clear_parts (every (clear_entry [] (is_settled s)))
  is_settled (fields fs) = clear_parts (are_settled fs is_any)
  is_settled (fields_and s fs) = clear_parts (clear_first (clear_parts (every (clear_entry [] (is_settled s)))) (are_settled fs is_any))
  is_settled (recursive fs) = λ p. iterate (suc (plain_depth p)) is_any (λ self. clear_parts (are_settled fs self)) p
  is_settled (union ss) = clear_choice (is_settled_nth ss)
  is_settled (tagged name vs) = clear_choice (is_settled_variant vs)
  is_settled _ = is_any

  pub are_settled : Fields → (Plain → Bool) → Parts → Bool
  are_settled no_fields = λ self ps. true
  are_settled (field name r s fs) = λ self. clear_first (settled_member r (is_settled s)) (are_settled fs self)
  are_settled (flat s fs) = λ self. clear_first (is_settled s) (are_settled fs self)
  are_settled (supported name s fs) = λ self. clear_first (clear_present (is_settled s)) (are_settled fs self)
  are_settled (again name r c fs) = λ self. clear_first (settled_member r (clear_count c self)) (are_settled fs self)

  pub is_settled_nth : Shapes → ℕ → Plain → Bool
  is_settled_nth no_shapes = λ n p. true
  is_settled_nth (or_shape s ss) = pick (is_settled s) (λ n p. not (fits s (write_nth ss n p)) && is_settled_nth ss n p)

  pub is_settled_variant : Variants → ℕ → Plain → Bool
  is_settled_variant no_variants = λ n p. true
  is_settled_variant (variant name s vs) = pick (is_settled s) (is_settled_variant vs)
