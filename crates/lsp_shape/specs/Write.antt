-- What is written for plain data, by a shape.
use Rattle.std.specs.Prelude.{ℕ, zero, suc, List, Bool, true, false, Option, option_map}
use Rattle.serde_json.specs.Data.{Data, null, boolean, number, string, array, object, Items, no_items, item, Members, no_members, member, put}
use Rattle.lsp_shape.specs.Plain.{Plain, leaf, absent, present, parts, entry, choice, Parts, no_parts, part, plain_depth}
use Rattle.lsp_shape.specs.Shape.{Rule, omitted, nullable, unless_empty, unless_false, Count, one, many, Shape, list_of, maybe, map_of, fields, fields_and, recursive, union, tagged, Fields, no_fields, field, flat, supported, again, Shapes, no_shapes, or_shape, Variants, no_variants, variant}
use Rattle.lsp_shape.specs.Read.{read, iterate}

abbrev pub write_leaf : Plain → Data
write_leaf (leaf d) = d
write_leaf _ = null

abbrev pub write_items : (Plain → Data) → Parts → Items
write_items f no_parts = no_items
write_items f (part p ps) = item (f p) (write_items f ps)

abbrev pub write_list : (Plain → Data) → Plain → Data
write_list f (parts ps) = array (write_items f ps)
write_list f _ = null

abbrev pub write_maybe : (Plain → Data) → Plain → Data
write_maybe f (present p) = f p
write_maybe f _ = null

-- the entry before the members
abbrev pub write_entry : (Plain → Data) → Plain → Members → Members
write_entry f (entry k p) ms = member k (f p) ms
write_entry f _ ms = ms

abbrev pub write_entries : (Plain → Data) → Parts → Members
write_entries f no_parts = no_members
write_entries f (part p ps) = write_entry f p (write_entries f ps)

abbrev pub members_of_map : (Plain → Data) → Plain → Members
members_of_map f (parts ps) = write_entries f ps
members_of_map f _ = no_members

-- nothing for what is absent
abbrev pub put_present : List ℕ → (Plain → Data) → Plain → Members → Members
put_present name f (present p) ms = put name (f p) ms
put_present name f _ ms = ms

-- an empty list
abbrev pub is_empty : Plain → Bool
is_empty (leaf d) = false
is_empty absent = false
is_empty (present p) = false
is_empty (parts no_parts) = true
is_empty (parts (part p ps)) = false
is_empty (entry k p) = false
is_empty (choice n p) = false

abbrev pub is_false_data : Data → Bool
is_false_data null = false
is_false_data (boolean true) = false
is_false_data (boolean false) = true
is_false_data (number n) = false
is_false_data (string s) = false
is_false_data (array ds) = false
is_false_data (object ms) = false

abbrev pub is_false : Plain → Bool
is_false (leaf d) = is_false_data d
is_false _ = false

abbrev pub put_unless : Bool → List ℕ → Data → Members → Members
put_unless true name d ms = ms
put_unless false name d ms = put name d ms

abbrev pub write_member : List ℕ → Rule → (Plain → Data) → Plain → Members → Members
write_member name omitted f p ms = put_present name f p ms
write_member name nullable f p ms = put name (write_maybe f p) ms
write_member name unless_empty f p ms = put_unless (is_empty p) name (f p) ms
write_member name unless_false f p ms = put_unless (is_false p) name (f p) ms
write_member name _ f p ms = put name (f p) ms

-- the second, with each member of the first put into it
abbrev pub put_all : Members → Members → Members
put_all no_members ms = ms
put_all (member k d more) ms = put_all more (put k d ms)

abbrev pub members_in : Data → Members
members_in (object ms) = ms
members_in _ = no_members

abbrev pub write_part : (Plain → Members → Members) → (Parts → Members → Members) → Parts → Members → Members
write_part f g no_parts ms = ms
write_part f g (part p ps) ms = g ps (f p ms)

abbrev pub write_record : (Parts → Members → Members) → Plain → Data
write_record f (parts ps) = object (f ps no_members)
write_record f _ = null

-- the first part is a map, into which the others are put
abbrev pub write_after_map : (Plain → Members) → (Parts → Members → Members) → Parts → Members
write_after_map f g no_parts = no_members
write_after_map f g (part p ps) = g ps (f p)

abbrev pub write_with_rest : (Plain → Members) → (Parts → Members → Members) → Plain → Data
write_with_rest f g (parts ps) = object (write_after_map f g ps)
write_with_rest f g _ = null

abbrev pub write_map : (Plain → Data) → Plain → Data
write_map f (parts ps) = object (write_entries f ps)
write_map f _ = null

abbrev pub write_choice : (ℕ → Plain → Data) → Plain → Data
write_choice f (choice n p) = f n p
write_choice f _ = null

abbrev pub pick : {A : Type 0} → A → (ℕ → A) → ℕ → A
pick a f zero = a
pick a f (suc n) = f n

abbrev pub write_count : Count → (Plain → Data) → Plain → Data
write_count one f = f
write_count many f = write_list f

abbrev pub writes_null : Plain → Data
writes_null p = null

abbrev mutual
  pub write : Shape → Plain → Data
  write (list_of test s) = write_list (write s)
  write (maybe s) = write_maybe (write s)
  write (map_of test s) = write_map (write s)
  write (fields fs) = write_record (write_fields fs writes_null)
  write (fields_and s fs) = write_with_rest (members_of_map (write s)) (write_fields fs writes_null)
  write (recursive fs) = λ p. iterate (suc (plain_depth p)) writes_null (λ self. write_record (write_fields fs self)) p
  write (union ss) = write_choice (write_nth ss)
  write (tagged name vs) = write_choice (write_tagged vs name)
  write _ = write_leaf

  -- by how the record itself is written
  pub write_fields : Fields → (Plain → Data) → Parts → Members → Members
  write_fields no_fields = λ self ps ms. ms
  write_fields (field name r s fs) = λ self. write_part (write_member name r (write s)) (write_fields fs self)
  write_fields (flat s fs) = λ self. write_part (λ p ms. put_all (members_in (write s p)) ms) (write_fields fs self)
  write_fields (supported name s fs) = λ self. write_part (write_member name omitted (write s)) (write_fields fs self)
  write_fields (again name r c fs) = λ self. write_part (write_member name r (write_count c self)) (write_fields fs self)

  pub write_nth : Shapes → ℕ → Plain → Data
  write_nth no_shapes = λ n p. null
  write_nth (or_shape s ss) = pick (write s) (write_nth ss)

  pub write_tagged : Variants → List ℕ → ℕ → Plain → Data
  write_tagged no_variants = λ tag n p. null
  write_tagged (variant name s vs) = λ tag. pick (λ p. object (put tag (string name) (members_in (write s p)))) (write_tagged vs tag)

-- what is written after a value was read
abbrev pub trim : Shape → Data → Option Data
trim s d = option_map (write s) (read s d)
