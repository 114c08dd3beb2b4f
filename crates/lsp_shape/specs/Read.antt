-- What a JSON value is read as, by a shape.
use Rattle.std.specs.Prelude.{ℕ, zero, suc, ◌+◌, ℤ, pos, int_le, codes, List, [], Bool, true, false, ◌&&◌, Option, Some, None, option_map, option_and_then, is_some, bytes_eq, if◌then◌else◌}
use Rattle.serde_json.specs.Data.{Data, null, boolean, number, string, array, object, Items, no_items, item, Members, no_members, member, depth}
use Rattle.serde_json.specs.Find.{get, as_str, as_integer, of_integer}
use Rattle.lsp_shape.specs.Plain.{Plain, leaf, absent, present, parts, entry, choice, Parts, no_parts, part}
use Rattle.lsp_shape.specs.Shape.{Rule, required, omitted, nullable, or_empty, or_false, unless_empty, unless_false, Count, one, many, Shape, nil, truth, integer, bits, text, any, list_of, maybe, map_of, fields, fields_and, recursive, union, tagged, Fields, no_fields, field, flat, supported, again, Shapes, no_shapes, or_shape, Variants, no_variants, variant, has_name, field_names}

abbrev pub read_nil : Data → Option Plain
read_nil null = Some (leaf null)
read_nil _ = None

abbrev pub read_truth : Data → Option Plain
read_truth (boolean b) = Some (leaf (boolean b))
read_truth _ = None

abbrev pub integer_within : ℤ → ℤ → Option ℤ → Option Plain
integer_within low high None = None
integer_within low high (Some z) = if int_le low z && int_le z high then Some (leaf (number (of_integer z))) else None

abbrev pub read_integer : ℤ → ℤ → Data → Option Plain
read_integer low high (number n) = integer_within low high (as_integer n)
read_integer low high _ = None

abbrev pub read_text : (List ℕ → Bool) → Data → Option Plain
read_text test (string s) = if test s then Some (leaf (string s)) else None
read_text test _ = None

-- a part before others
abbrev pub and_part : Option Plain → Option Parts → Option Parts
and_part None ps = None
and_part (Some p) None = None
and_part (Some p) (Some ps) = Some (part p ps)

abbrev pub read_items : (Data → Option Plain) → Items → Option Parts
read_items f no_items = Some no_parts
read_items f (item d ds) = and_part (f d) (read_items f ds)

abbrev pub item_count : Items → ℕ
item_count no_items = 0
item_count (item d ds) = item_count ds + 1

abbrev pub read_list : (ℕ → Bool) → (Data → Option Plain) → Data → Option Plain
read_list test f (array ds) = if test (item_count ds) then option_map parts (read_items f ds) else None
read_list test f _ = None

abbrev pub read_maybe : (Data → Option Plain) → Data → Option Plain
read_maybe f null = Some absent
read_maybe f other = option_map present (f other)

-- a member as an entry
abbrev pub read_entry : (List ℕ → Bool) → (Data → Option Plain) → List ℕ → Data → Option Plain
read_entry test f k d = if test k then option_map (entry k) (f d) else None

-- the members that the list does not name, as entries
abbrev pub read_entries : List (List ℕ) → (List ℕ → Bool) → (Data → Option Plain) → Members → Option Parts
read_entries ns test f no_members = Some no_parts
read_entries ns test f (member k d ms) =
    if has_name k ns then read_entries ns test f ms else and_part (read_entry test f k d) (read_entries ns test f ms)

abbrev pub read_map : (Members → Option Parts) → Data → Option Plain
read_map f (object ms) = option_map parts (f ms)
read_map f _ = None

-- an object with an empty list as its value set
abbrev pub empty_set : Data
empty_set = object (member (codes "valueSet") (array no_items) no_members)

abbrev pub or_absent : Bool → (Data → Option Plain) → Option Plain
or_absent false f = Some absent
or_absent true f = option_map present (f empty_set)

abbrev pub read_or_truth : (Data → Option Plain) → Data → Option Plain
read_or_truth f null = Some absent
read_or_truth f (boolean b) = or_absent b f
read_or_truth f other = option_map present (f other)

abbrev pub read_member : Rule → (Data → Option Plain) → Option Data → Option Plain
read_member required f None = None
read_member required f (Some d) = f d
read_member omitted f None = Some absent
read_member omitted f (Some d) = read_maybe f d
read_member nullable f None = Some absent
read_member nullable f (Some d) = read_maybe f d
read_member or_empty f None = Some (parts no_parts)
read_member or_empty f (Some d) = f d
read_member or_false f None = Some (leaf (boolean false))
read_member or_false f (Some d) = f d
read_member unless_empty f None = Some (parts no_parts)
read_member unless_empty f (Some d) = f d
read_member unless_false f None = Some (leaf (boolean false))
read_member unless_false f (Some d) = f d

-- a member that may be true or false instead
abbrev pub read_supported : (Data → Option Plain) → Option Data → Option Plain
read_supported f None = Some absent
read_supported f (Some d) = read_or_truth f d

abbrev pub read_record : (Data → Option Parts) → Data → Option Plain
read_record f (object ms) = option_map parts (f (object ms))
read_record f _ = None

-- the parts, after a map of the members that are not named
abbrev pub and_rest : Option Parts → Option Parts → Option Parts
and_rest None ps = None
and_rest (Some es) None = None
and_rest (Some es) (Some ps) = Some (part (parts es) ps)

-- members that a record names, and the rest of them
abbrev pub read_with_rest : (Members → Option Parts) → (Data → Option Parts) → Data → Option Plain
read_with_rest f g (object ms) = option_map parts (and_rest (f ms) (g (object ms)))
read_with_rest f g _ = None

-- this, or else that
abbrev pub first_of_two : Option Plain → Option Plain → Option Plain
first_of_two None o = o
first_of_two (Some p) o = Some p

abbrev pub text_is : List ℕ → Option (List ℕ) → Bool
text_is t None = false
text_is t (Some s) = bytes_eq s t

-- as many of these as the field holds
abbrev pub read_count : Count → (Data → Option Plain) → Data → Option Plain
read_count one f = f
read_count many f = read_list (λ n. true) f

-- the n-th of a, f a, f (f a) and so on
abbrev pub iterate : {A : Type 0} → ℕ → A → (A → A) → A
iterate zero a f = a
iterate (suc n) a f = f (iterate n a f)

abbrev pub reads_none : Data → Option Plain
reads_none d = None

abbrev mutual
  pub read : Shape → Data → Option Plain
  read nil = read_nil
  read truth = read_truth
  read (integer low high) = read_integer low high
  read (bits high) = read_integer (pos 0) (pos high)
  read (text test) = read_text test
  read any = λ d. Some (leaf d)
  read (list_of test s) = read_list test (read s)
  read (maybe s) = read_maybe (read s)
  read (map_of test s) = read_map (read_entries [] test (read s))
  read (fields fs) = read_record (read_fields fs reads_none)
  read (fields_and s fs) = read_with_rest (read_entries (field_names fs) (λ k. true) (read s)) (read_fields fs reads_none)
  read (recursive fs) = λ d. iterate (suc (depth d)) reads_none (λ self. read_record (read_fields fs self)) d
  read (union ss) = read_first ss 0
  read (tagged name vs) = λ d. read_tagged vs 0 (option_and_then as_str (get name d)) d

  -- by how the record itself is read
  pub read_fields : Fields → (Data → Option Plain) → Data → Option Parts
  read_fields no_fields = λ self d. Some no_parts
  read_fields (field name r s fs) = λ self d. and_part (read_member r (read s) (get name d)) (read_fields fs self d)
  read_fields (flat s fs) = λ self d. and_part (read s d) (read_fields fs self d)
  read_fields (supported name s fs) = λ self d. and_part (read_supported (read s) (get name d)) (read_fields fs self d)
  read_fields (again name r c fs) = λ self d. and_part (read_member r (read_count c self) (get name d)) (read_fields fs self d)

  pub read_first : Shapes → ℕ → Data → Option Plain
  read_first no_shapes = λ n d. None
  read_first (or_shape s ss) = λ n d. first_of_two (option_map (choice n) (read s d)) (read_first ss (suc n) d)

  pub read_tagged : Variants → ℕ → Option (List ℕ) → Data → Option Plain
  read_tagged no_variants = λ n t d. None
  read_tagged (variant name s vs) = λ n t d. if text_is name t then option_map (choice n) (read s d) else read_tagged vs (suc n) t d

abbrev pub fits : Shape → Data → Bool
fits s d = is_some (read s d)
