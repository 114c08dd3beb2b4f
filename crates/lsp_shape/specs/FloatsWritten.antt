-- What is written of plain data with no float has none.
use Rattle.std.proofs.Common.{◌≡◌, ℕ, zero, suc, List, Ordering, Less, Equal, Greater, nat_cmp, Bool, true, false, refl}
use Rattle.std.specs.Cmp.Lexicographic.{slice_cmp}
use Rattle.std.specs.Ordering.{match_ordering}
use Rattle.serde_json.specs.Data.{Data, string, object, Members, no_members, member, put}
use Rattle.serde_json.specs.Written.{has_float, items_have_float, members_have_float}
use Rattle.lsp_shape.specs.Plain.{Plain, leaf, absent, present, parts, entry, choice, Parts, no_parts, part, plain_depth, plain_has_float, parts_have_float}
use Rattle.lsp_shape.specs.Shape.{Rule, omitted, nullable, unless_empty, unless_false, Count, one, many, Shape, list_of, maybe, map_of, fields, fields_and, recursive, union, tagged, Fields, no_fields, field, flat, supported, again, Shapes, no_shapes, or_shape, Variants, no_variants, variant}
use Rattle.lsp_shape.specs.Read.{iterate}
use Rattle.lsp_shape.specs.Write.{write, write_leaf, write_items, write_list, write_maybe, write_entries, members_of_map, write_map, put_present, put_unless, is_empty, is_false, write_member, put_all, members_in, write_part, write_record, write_after_map, write_with_rest, write_choice, write_count, writes_null, write_fields, write_nth, write_tagged}
use Rattle.lsp_shape.specs.FloatsRead.{or_false_left, or_false_right, neither}

abbrev Keeps : (Plain → Data) → Type 0
Keeps w = (p : Plain) → plain_has_float p ≡ false → has_float (w p) ≡ false

-- members into which plain data is put
abbrev KeepsMembers : (Plain → Members → Members) → Type 0
KeepsMembers g = (p : Plain) (ms : Members) → plain_has_float p ≡ false → members_have_float ms ≡ false → members_have_float (g p ms) ≡ false

abbrev KeepsParts : (Parts → Members → Members) → Type 0
KeepsParts g = (ps : Parts) (ms : Members) → parts_have_float ps ≡ false → members_have_float ms ≡ false → members_have_float (g ps ms) ≡ false

floatless_put : (k : List ℕ) (d : Data) (ms : Members) → has_float d ≡ false → members_have_float ms ≡ false → members_have_float (put k d ms) ≡ false
floatless_put k d no_members n m = neither (has_float d) false n refl
floatless_put k d (member l e ms) n m = at (floatless_put k d ms n (or_false_right (has_float e) _ m)) (slice_cmp nat_cmp k l)
  where
    at : members_have_float (put k d ms) ≡ false → (o : Ordering) → members_have_float (match_ordering o (member k d (member l e ms)) (member l d ms) (member l e (put k d ms))) ≡ false
    at later Less = neither (has_float d) _ n m
    at later Equal = neither (has_float d) _ n (or_false_right (has_float e) _ m)
    at later Greater = neither (has_float e) _ (or_false_left (has_float e) _ m) later

floatless_put_all : (ms os : Members) → members_have_float ms ≡ false → members_have_float os ≡ false → members_have_float (put_all ms os) ≡ false
floatless_put_all no_members os n m = m
floatless_put_all (member k d ms) os n m = floatless_put_all ms (put k d os) (or_false_right (has_float d) _ n) (floatless_put k d os (or_false_left (has_float d) _ n) m)

floatless_members : (d : Data) → has_float d ≡ false → members_have_float (members_in d) ≡ false
floatless_members (object ms) n = n
floatless_members _ n = refl

keeps_leaf : Keeps write_leaf
keeps_leaf (leaf d) n = n
keeps_leaf _ n = refl

keeps_items : (w : Plain → Data) → Keeps w → (ps : Parts) → parts_have_float ps ≡ false → items_have_float (write_items w ps) ≡ false
keeps_items w k no_parts n = refl
keeps_items w k (part p ps) n = neither (has_float (w p)) _ (k p (or_false_left (plain_has_float p) _ n)) (keeps_items w k ps (or_false_right (plain_has_float p) _ n))

keeps_list : (w : Plain → Data) → Keeps w → Keeps (write_list w)
keeps_list w k (parts ps) n = keeps_items w k ps n
keeps_list w k _ n = refl

keeps_maybe : (w : Plain → Data) → Keeps w → Keeps (write_maybe w)
keeps_maybe w k (present p) n = k p n
keeps_maybe w k _ n = refl

keeps_entries : (w : Plain → Data) → Keeps w → (ps : Parts) → parts_have_float ps ≡ false → members_have_float (write_entries w ps) ≡ false
keeps_entries w k no_parts n = refl
keeps_entries w k (part (leaf d) ps) n = keeps_entries w k ps (or_false_right (has_float d) _ n)
keeps_entries w k (part absent ps) n = keeps_entries w k ps n
keeps_entries w k (part (present p) ps) n = keeps_entries w k ps (or_false_right (plain_has_float p) _ n)
keeps_entries w k (part (parts qs) ps) n = keeps_entries w k ps (or_false_right (parts_have_float qs) _ n)
keeps_entries w k (part (entry l p) ps) n = neither (has_float (w p)) _ (k p (or_false_left (plain_has_float p) _ n)) (keeps_entries w k ps (or_false_right (plain_has_float p) _ n))
keeps_entries w k (part (choice m p) ps) n = keeps_entries w k ps (or_false_right (plain_has_float p) _ n)

keeps_map : (w : Plain → Data) → Keeps w → Keeps (write_map w)
keeps_map w k (parts ps) n = keeps_entries w k ps n
keeps_map w k _ n = refl

keeps_map_members : (w : Plain → Data) → Keeps w → (p : Plain) → plain_has_float p ≡ false → members_have_float (members_of_map w p) ≡ false
keeps_map_members w k (parts ps) n = keeps_entries w k ps n
keeps_map_members w k _ n = refl

keeps_present : (name : List ℕ) (w : Plain → Data) → Keeps w → KeepsMembers (put_present name w)
keeps_present name w k (present p) ms n m = floatless_put name (w p) ms (k p n) m
keeps_present name w k _ ms n m = m

keeps_unless : (b : Bool) (name : List ℕ) (d : Data) (ms : Members) → has_float d ≡ false → members_have_float ms ≡ false → members_have_float (put_unless b name d ms) ≡ false
keeps_unless true name d ms n m = m
keeps_unless false name d ms n m = floatless_put name d ms n m

keeps_member : (name : List ℕ) (r : Rule) (w : Plain → Data) → Keeps w → KeepsMembers (write_member name r w)
keeps_member name omitted w k p ms n m = keeps_present name w k p ms n m
keeps_member name nullable w k p ms n m = floatless_put name (write_maybe w p) ms (keeps_maybe w k p n) m
keeps_member name unless_empty w k p ms n m = keeps_unless (is_empty p) name (w p) ms (k p n) m
keeps_member name unless_false w k p ms n m = keeps_unless (is_false p) name (w p) ms (k p n) m
keeps_member name _ w k p ms n m = floatless_put name (w p) ms (k p n) m

keeps_part : (g : Plain → Members → Members) (h : Parts → Members → Members) → KeepsMembers g → KeepsParts h → KeepsParts (write_part g h)
keeps_part g h k j no_parts ms n m = m
keeps_part g h k j (part p ps) ms n m = j ps (g p ms) (or_false_right (plain_has_float p) _ n) (k p ms (or_false_left (plain_has_float p) _ n) m)

keeps_record : (h : Parts → Members → Members) → KeepsParts h → Keeps (write_record h)
keeps_record h k (parts ps) n = k ps no_members n refl
keeps_record h k _ n = refl

keeps_after_map : (g : Plain → Members) (h : Parts → Members → Members) → ((p : Plain) → plain_has_float p ≡ false → members_have_float (g p) ≡ false) → KeepsParts h → (ps : Parts) → parts_have_float ps ≡ false
    → members_have_float (write_after_map g h ps) ≡ false
keeps_after_map g h k j no_parts n = refl
keeps_after_map g h k j (part p ps) n = j ps (g p) (or_false_right (plain_has_float p) _ n) (k p (or_false_left (plain_has_float p) _ n))

keeps_with_rest : (g : Plain → Members) (h : Parts → Members → Members) → ((p : Plain) → plain_has_float p ≡ false → members_have_float (g p) ≡ false) → KeepsParts h → Keeps (write_with_rest g h)
keeps_with_rest g h k j (parts ps) n = keeps_after_map g h k j ps n
keeps_with_rest g h k j _ n = refl

keeps_choice : (f : ℕ → Plain → Data) → ((i : ℕ) → Keeps (f i)) → Keeps (write_choice f)
keeps_choice f k (choice i p) n = k i p n
keeps_choice f k _ n = refl

keeps_count : (c : Count) (w : Plain → Data) → Keeps w → Keeps (write_count c w)
keeps_count one w k = k
keeps_count many w k = keeps_list w k

keeps_null : Keeps writes_null
keeps_null p n = refl

keeps_iterate : (F : (Plain → Data) → Plain → Data) → ((w : Plain → Data) → Keeps w → Keeps (F w)) → (n : ℕ) → Keeps (iterate {A = Plain → Data} n writes_null F)
keeps_iterate F k zero = keeps_null
keeps_iterate F k (suc n) = k (iterate {A = Plain → Data} n writes_null F) (keeps_iterate F k n)

nth_kept : (s : Shape) (ss : Shapes) → Keeps (write s) → ((i : ℕ) → Keeps (write_nth ss i)) → (i : ℕ) → Keeps (write_nth (or_shape s ss) i)
nth_kept s ss k j zero = k
nth_kept s ss k j (suc i) = j i

variant_kept : (name : List ℕ) (s : Shape) (vs : Variants) → Keeps (write s) → ((tag : List ℕ) (i : ℕ) → Keeps (write_tagged vs tag i)) → (tag : List ℕ) (i : ℕ) → Keeps (write_tagged (variant name s vs) tag i)
variant_kept name s vs k j tag zero = λ p n. floatless_put tag (string name) _ refl (floatless_members (write s p) (k p n))
variant_kept name s vs k j tag (suc i) = j tag i

mutual
  -- what is written of plain data with no float has none
  pub write_floatless : (s : Shape) → Keeps (write s)
  write_floatless (list_of test s) = keeps_list (write s) (write_floatless s)
  write_floatless (maybe s) = keeps_maybe (write s) (write_floatless s)
  write_floatless (map_of test s) = keeps_map (write s) (write_floatless s)
  write_floatless (fields fs) = keeps_record (write_fields fs writes_null) (fields_kept fs writes_null keeps_null)
  write_floatless (fields_and s fs) = keeps_with_rest (members_of_map (write s)) (write_fields fs writes_null) (keeps_map_members (write s) (write_floatless s)) (fields_kept fs writes_null keeps_null)
  write_floatless (recursive fs) = λ p n. keeps_iterate (λ self. write_record (write_fields fs self)) (λ self k. keeps_record (write_fields fs self) (fields_kept fs self k)) (suc (plain_depth p)) p n
  write_floatless (union ss) = keeps_choice (write_nth ss) (shapes_kept ss)
  write_floatless (tagged tag vs) = keeps_choice (write_tagged vs tag) (variants_kept vs tag)
  write_floatless _ = keeps_leaf

  fields_kept : (fs : Fields) (self : Plain → Data) → Keeps self → KeepsParts (write_fields fs self)
  fields_kept no_fields = λ self k ps ms n m. m
  fields_kept (field name r s fs) = λ self k. keeps_part (write_member name r (write s)) (write_fields fs self) (keeps_member name r (write s) (write_floatless s)) (fields_kept fs self k)
  fields_kept (flat s fs) = λ self k. keeps_part (λ p ms. put_all (members_in (write s p)) ms) (write_fields fs self)
      (λ p ms n m. floatless_put_all (members_in (write s p)) ms (floatless_members (write s p) (write_floatless s p n)) m) (fields_kept fs self k)
  fields_kept (supported name s fs) = λ self k. keeps_part (write_member name omitted (write s)) (write_fields fs self) (keeps_member name omitted (write s) (write_floatless s)) (fields_kept fs self k)
  fields_kept (again name r c fs) = λ self k. keeps_part (write_member name r (write_count c self)) (write_fields fs self) (keeps_member name r (write_count c self) (keeps_count c self k)) (fields_kept fs self k)

  shapes_kept : (ss : Shapes) (i : ℕ) → Keeps (write_nth ss i)
  shapes_kept no_shapes = λ i p n. refl
  shapes_kept (or_shape s ss) = nth_kept s ss (write_floatless s) (shapes_kept ss)

  variants_kept : (vs : Variants) (tag : List ℕ) (i : ℕ) → Keeps (write_tagged vs tag i)
  variants_kept no_variants = λ tag i p n. refl
  variants_kept (variant name s vs) = variant_kept name s vs (write_floatless s) (variants_kept vs)
