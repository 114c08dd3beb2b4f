-- What is written for a record or a tagged union: an object in order, with members at its names alone.
use Rattle.std.proofs.Common.{◌≡◌, ℕ, zero, suc, List, ◌∷◌, ◌++◌, Bool, true, false, not, ◌&&◌, bytes_eq, None, true≢false, refl, sym, ◌∙◌}
use Rattle.std.proofs.lemmas.Bool.{and_parts, false≢true}
use Rattle.serde_json.specs.Data.{Data, string, object, Members, no_members, put}
use Rattle.serde_json.specs.Find.{get_member}
use Rattle.serde_json.proofs.Views.{get_member-put_other}
use Rattle.lsp_shape.specs.Plain.{Plain, leaf, absent, present, parts, entry, choice, Parts, no_parts, part}
use Rattle.lsp_shape.specs.Shape.{Rule, omitted, nullable, unless_empty, unless_false, Shape, nil, truth, any, fields, tagged, Fields, no_fields, field, flat, supported, again, Variants, no_variants, variant, has_name, names, field_names, variant_names, is_open, are_distinct, are_apart}
use Rattle.lsp_shape.specs.Write.{write, write_fields, write_tagged, write_member, write_part, write_count, put_unless, put_all, members_in, is_empty, is_false, writes_null}
use Rattle.lsp_shape.specs.Values.{is_of, are_fields, by_rule, is_count, first_and, is_maybe, is_nth_variant, is_none, leaves_room, are_told_apart, tags}
use Rattle.lsp_shape.specs.FloatsRead.{or_false_left, or_false_right, neither}
use Rattle.lsp_shape.proofs.Names.{not_first, not_later, not_append_left, not_append_right}
use Rattle.lsp_shape.proofs.Ascending.{Ascending, ascending_put, ascending_put_all}
use Rattle.lsp_shape.proofs.PutAll.{get-put_all_other}

pub record IsWritten (ns : List (List ℕ)) (d : Data) : Type 0 where
  pub whole : d ≡ object (members_in d)
  pub ascending : Ascending (members_in d)
  pub only : (q : List ℕ) → has_name q ns ≡ false → get_member q (members_in d) ≡ None

unless_kept : (b : Bool) (P : Members → Type 0) (name : List ℕ) (d : Data) (ms : Members) → P ms → P (put name d ms) → P (put_unless b name d ms)
unless_kept true P name d ms same more = same
unless_kept false P name d ms same more = more

present_kept : (P : Members → Type 0) (name : List ℕ) (r : Rule) (w : Plain → Data) (p : Plain) (ms : Members) → P ms → ((d : Data) → P (put name d ms)) → P (write_member name omitted w p ms)
present_kept P name r w (present p) ms same more = more (w p)
present_kept P name r w _ ms same more = same

-- writing a field changes nothing, or puts a member of its name
pub member_kept : (P : Members → Type 0) (name : List ℕ) (r : Rule) (w : Plain → Data) (p : Plain) (ms : Members) → P ms → ((d : Data) → P (put name d ms)) → P (write_member name r w p ms)
member_kept P name omitted w p ms same more = present_kept P name omitted w p ms same more
member_kept P name nullable w p ms same more = more _
member_kept P name unless_empty w p ms same more = unless_kept (is_empty p) P name (w p) ms same (more (w p))
member_kept P name unless_false w p ms same more = unless_kept (is_false p) P name (w p) ms same (more (w p))
member_kept P name _ w p ms same more = more (w p)

pub ascending_member : (name : List ℕ) (r : Rule) (w : Plain → Data) (p : Plain) (ms : Members) → Ascending ms → Ascending (write_member name r w p ms)
ascending_member name r w p ms a = member_kept Ascending name r w p ms a (λ d. ascending_put name d ms a)

pub other_member : (name q : List ℕ) (r : Rule) (w : Plain → Data) (p : Plain) (ms : Members) → (q ≡ name → ⊥) → get_member q (write_member name r w p ms) ≡ get_member q ms
other_member name q r w p ms other = member_kept (λ os. get_member q os ≡ get_member q ms) name r w p ms refl (λ d. get_member-put_other q name d ms other)

abbrev pub FieldsWritten : Fields → Type 0
FieldsWritten fs = (self_is : Plain → Bool) (self_write : Plain → Data) (ps : Parts) (ms : Members) → are_distinct fs ≡ true → are_fields fs self_is ps ≡ true
    → (Ascending ms → Ascending (write_fields fs self_write ps ms)) × ((q : List ℕ) → has_name q (field_names fs) ≡ false → get_member q (write_fields fs self_write ps ms) ≡ get_member q ms)

abbrev pub ShapeWritten : Shape → Type 0
ShapeWritten s = (p : Plain) → is_open s ≡ true → is_of s p ≡ true → IsWritten (names s) (write s p)

abbrev VariantsWritten : Variants → Type 0
VariantsWritten vs = (tag : List ℕ) (n : ℕ) (p : Plain) → is_nth_variant vs tag n p ≡ true → IsWritten (tag ∷ variant_names vs) (write_tagged vs tag n p)

pub and_both : (a b c : Bool) → (a && b && c) ≡ true → (b && c) ≡ true
and_both true b c e = e
and_both false b c e = absurd (false≢true e)

closed : (s : Shape) → is_open s ≡ false → ShapeWritten s
closed s e p o i = absurd (true≢false (sym o ∙ e))

fields_shape : (fs : Fields) → FieldsWritten fs → ShapeWritten (fields fs)
fields_shape fs w (parts ps) o i =
    let t = and_parts (are_distinct fs) (are_fields fs is_none ps) i in
    let k = w is_none writes_null ps no_members t.0 t.1 in
    record { whole = refl; ascending = k.0 tt; only = k.1 }
fields_shape fs w (leaf d) o i = absurd (false≢true (and_parts (are_distinct fs) false i).1)
fields_shape fs w absent o i = absurd (false≢true (and_parts (are_distinct fs) false i).1)
fields_shape fs w (present p) o i = absurd (false≢true (and_parts (are_distinct fs) false i).1)
fields_shape fs w (entry k p) o i = absurd (false≢true (and_parts (are_distinct fs) false i).1)
fields_shape fs w (choice n p) o i = absurd (false≢true (and_parts (are_distinct fs) false i).1)

tagged_shape : (tag : List ℕ) (vs : Variants) → VariantsWritten vs → ShapeWritten (tagged tag vs)
tagged_shape tag vs w (choice n p) o i = w tag n p (and_parts (are_told_apart (tags vs)) _ i).1
tagged_shape tag vs w _ o i = absurd (false≢true (and_parts (are_told_apart (tags vs)) false i).1)

one_field : (name : List ℕ) (r : Rule) (w : Plain → Data) (fs : Fields) (self_is : Plain → Bool) (self_write : Plain → Data) (test : Plain → Bool) (p : Plain) (ps : Parts) (ms : Members) → FieldsWritten fs
    → (not (has_name name (field_names fs)) && are_distinct fs) ≡ true → (test p && are_fields fs self_is ps) ≡ true
    → (Ascending ms → Ascending (write_fields fs self_write ps (write_member name r w p ms)))
    × ((q : List ℕ) → has_name q (name ∷ field_names fs) ≡ false → get_member q (write_fields fs self_write ps (write_member name r w p ms)) ≡ get_member q ms)
one_field name r w fs self_is self_write test p ps ms later d i =
    let k = later self_is self_write ps (write_member name r w p ms) (and_parts (not (has_name name (field_names fs))) (are_distinct fs) d).1 (and_parts (test p) (are_fields fs self_is ps) i).1 in
    (λ a. k.0 (ascending_member name r w p ms a), λ q absent. k.1 q (not_later q name (field_names fs) absent) ∙ other_member name q r w p ms (not_first q name (field_names fs) absent))

one_flat : (s : Shape) (fs : Fields) (self_is : Plain → Bool) (self_write : Plain → Data) (p : Plain) (ps : Parts) (ms : Members) → ShapeWritten s → FieldsWritten fs
    → (is_open s && are_apart (names s) (field_names fs) && are_distinct fs) ≡ true → (is_of s p && are_fields fs self_is ps) ≡ true
    → (Ascending ms → Ascending (write_fields fs self_write ps (put_all (members_in (write s p)) ms)))
    × ((q : List ℕ) → has_name q (names s ++ field_names fs) ≡ false → get_member q (write_fields fs self_write ps (put_all (members_in (write s p)) ms)) ≡ get_member q ms)
one_flat s fs self_is self_write p ps ms here later d i =
    let t = and_parts (is_open s && are_apart (names s) (field_names fs)) (are_distinct fs) d in
    let j = and_parts (is_of s p) (are_fields fs self_is ps) i in
    let w = here p (and_parts (is_open s) (are_apart (names s) (field_names fs)) t.0).0 j.0 in
    let k = later self_is self_write ps (put_all (members_in (write s p)) ms) t.1 j.1 in (
      λ a. k.0 (ascending_put_all (members_in (write s p)) ms a),
      λ q absent. k.1 q (not_append_right q (names s) (field_names fs) absent)
          ∙ get-put_all_other q (members_in (write s p)) ms w.ascending (w.only q (not_append_left q (names s) (field_names fs) absent)),
    )

chosen : (tag name : List ℕ) (s : Shape) (ns : List (List ℕ)) (p : Plain) → ShapeWritten s → (leaves_room tag s && is_of s p) ≡ true
    → IsWritten (tag ∷ (names s ++ ns)) (object (put tag (string name) (members_in (write s p))))
chosen tag name s ns p here i =
    let t = and_parts (leaves_room tag s) (is_of s p) i in
    let w = here p (and_parts (is_open s) (not (has_name tag (names s))) t.0).0 t.1 in
    record {
      whole = refl;
      ascending = ascending_put tag (string name) _ w.ascending;
      only = λ q absent.
          get_member-put_other q tag (string name) (members_in (write s p)) (not_first q tag (names s ++ ns) absent)
          ∙ w.only q (not_append_left q (names s) ns (not_later q tag (names s ++ ns) absent));
    }

wider : (tag : List ℕ) (ms ns : List (List ℕ)) (d : Data) → IsWritten (tag ∷ ns) d → IsWritten (tag ∷ (ms ++ ns)) d
wider tag ms ns d w = record {
  whole = w.whole;
  ascending = w.ascending;
  only = λ q gone. w.only q (neither (bytes_eq q tag) (has_name q ns) (or_false_left (bytes_eq q tag) _ gone) (not_append_right q ms ns (or_false_right (bytes_eq q tag) _ gone)));
}

field_case : (name : List ℕ) (r : Rule) (w : Plain → Data) (fs : Fields) (self_is : Plain → Bool) (self_write : Plain → Data) (test : Plain → Bool) (ps : Parts) (ms : Members) → FieldsWritten fs
    → (not (has_name name (field_names fs)) && are_distinct fs) ≡ true → first_and test (are_fields fs self_is) ps ≡ true
    → (Ascending ms → Ascending (write_part (write_member name r w) (write_fields fs self_write) ps ms))
    × ((q : List ℕ) → has_name q (name ∷ field_names fs) ≡ false → get_member q (write_part (write_member name r w) (write_fields fs self_write) ps ms) ≡ get_member q ms)
field_case name r w fs self_is self_write test no_parts ms later d i = absurd (false≢true i)
field_case name r w fs self_is self_write test (part p ps) ms later d i = one_field name r w fs self_is self_write test p ps ms later d i

flat_case : (s : Shape) (fs : Fields) (self_is : Plain → Bool) (self_write : Plain → Data) (ps : Parts) (ms : Members) → ShapeWritten s → FieldsWritten fs
    → are_distinct (flat s fs) ≡ true → are_fields (flat s fs) self_is ps ≡ true
    → (Ascending ms → Ascending (write_fields (flat s fs) self_write ps ms)) × ((q : List ℕ) → has_name q (field_names (flat s fs)) ≡ false → get_member q (write_fields (flat s fs) self_write ps ms) ≡ get_member q ms)
flat_case s fs self_is self_write no_parts ms here later d i = absurd (false≢true i)
flat_case s fs self_is self_write (part p ps) ms here later d i = one_flat s fs self_is self_write p ps ms here later d i

variant_case : (name : List ℕ) (s : Shape) (vs : Variants) → ShapeWritten s → VariantsWritten vs → VariantsWritten (variant name s vs)
variant_case name s vs here later tag zero p i = chosen tag name s (variant_names vs) p here i
variant_case name s vs here later tag (suc n) p i = wider tag (names s) (variant_names vs) _ (later tag n p i)

mutual
  pub shape_written : (s : Shape) → ShapeWritten s
  shape_written nil = closed nil refl
  shape_written truth = closed truth refl
  shape_written any = closed any refl
  shape_written (fields fs) = fields_shape fs (fields_written fs)
  shape_written (tagged tag vs) = tagged_shape tag vs (variants_written vs)
  shape_written other = closed other refl

  pub fields_written : (fs : Fields) → FieldsWritten fs
  fields_written no_fields = λ self_is self_write ps ms d i. (λ a. a, λ q absent. refl)
  fields_written (field name r s fs) = λ self_is self_write ps ms d i. field_case name r (write s) fs self_is self_write (by_rule r (is_of s)) ps ms (fields_written fs) d i
  fields_written (flat s fs) = λ self_is self_write ps ms d i. flat_case s fs self_is self_write ps ms (shape_written s) (fields_written fs) d i
  fields_written (supported name s fs) = λ self_is self_write ps ms d i. field_case name omitted (write s) fs self_is self_write (is_maybe (is_of s)) ps ms (fields_written fs) (and_both (is_open s) _ _ d) i
  fields_written (again name r c fs) = λ self_is self_write ps ms d i. field_case name r (write_count c self_write) fs self_is self_write (by_rule r (is_count c self_is)) ps ms (fields_written fs) d i

  variants_written : (vs : Variants) → VariantsWritten vs
  variants_written no_variants = λ tag n p i. absurd (false≢true i)
  variants_written (variant name s vs) = variant_case name s vs (shape_written s) (variants_written vs)
