-- What is written of a field reads back as the field.
use Rattle.std.proofs.Common.{◌≡◌, ℕ, ◌≤◌, List, Bool, true, false, Option, Some, None, is_some, refl, ap, ◌∙◌}
use Rattle.std.proofs.lemmas.Bool.{false≢true}
use Rattle.serde_json.specs.Data.{Data, boolean, null, number, string, array, object, Members, put}
use Rattle.serde_json.specs.Find.{get_member, as_object}
use Rattle.serde_json.proofs.Views.{get_member-put}
use Rattle.lsp_shape.specs.Plain.{Plain, leaf, absent, present, parts, entry, choice, no_parts, part, plain_depth}
use Rattle.lsp_shape.specs.Shape.{Rule, required, omitted, nullable, or_empty, or_false, unless_empty, unless_false}
use Rattle.lsp_shape.specs.Read.{read_member, read_supported}
use Rattle.lsp_shape.specs.Write.{write_member, put_unless, is_empty, is_false}
use Rattle.lsp_shape.specs.Values.{by_rule, clear_member, is_maybe, clear_present}
use Rattle.lsp_shape.proofs.Leaves.{BackBelow, maybe_back, present_back, supported_back}

found : (f : Option Data → Option Plain) (name : List ℕ) (d : Data) (ms : Members) (o : Option Plain) → f (Some d) ≡ o → f (get_member name (put name d ms)) ≡ o
found f name d ms o e = ap f (get_member-put name d ms) ∙ e

empty_is : (p : Plain) → is_empty p ≡ true → parts no_parts ≡ p
empty_is (leaf d) e = absurd (false≢true e)
empty_is absent e = absurd (false≢true e)
empty_is (present p) e = absurd (false≢true e)
empty_is (parts no_parts) e = refl
empty_is (parts (part p ps)) e = absurd (false≢true e)
empty_is (entry k p) e = absurd (false≢true e)
empty_is (choice n p) e = absurd (false≢true e)

false_is : (p : Plain) → is_false p ≡ true → leaf (boolean false) ≡ p
false_is (leaf null) e = absurd (false≢true e)
false_is (leaf (boolean true)) e = absurd (false≢true e)
false_is (leaf (boolean false)) e = refl
false_is (leaf (number b)) e = absurd (false≢true e)
false_is (leaf (string b)) e = absurd (false≢true e)
false_is (leaf (array b)) e = absurd (false≢true e)
false_is (leaf (object b)) e = absurd (false≢true e)
false_is absent e = absurd (false≢true e)
false_is (present p) e = absurd (false≢true e)
false_is (parts ps) e = absurd (false≢true e)
false_is (entry k p) e = absurd (false≢true e)
false_is (choice n p) e = absurd (false≢true e)

-- what is not written where a test holds
unless_back : (r : Rule) (f : Data → Option Plain) (name : List ℕ) (b : Bool) (d : Data) (p : Plain) (ms : Members) → (b ≡ true → read_member r f None ≡ Some p) → read_member r f (Some d) ≡ Some p
    → get_member name ms ≡ None → read_member r f (get_member name (put_unless b name d ms)) ≡ Some p
unless_back r f name true d p ms left there none = ap (read_member r f) none ∙ left refl
unless_back r f name false d p ms left there none = found (read_member r f) name d ms (Some p) there

-- a field, where the object had no member of its name
pub member_back : (r : Rule) (n : ℕ) (f : Data → Option Plain) (w : Plain → Data) (is cl : Plain → Bool) → BackBelow n f w is cl → (p : Plain) → plain_depth p ≤ n
    → by_rule r is p ≡ true → clear_member r cl w p ≡ true → (name : List ℕ) (ms : Members) → get_member name ms ≡ None
    → read_member r f (get_member name (write_member name r w p ms)) ≡ Some p
member_back required n f w is cl back p h i c name ms none = found (read_member required f) name (w p) ms (Some p) (back p h i c)
member_back omitted n f w is cl back absent h i c name ms none = ap (read_member omitted f) none
member_back omitted n f w is cl back (present p) h i c name ms none = found (read_member omitted f) name (w p) ms (Some (present p)) (present_back n f w is cl back p h i c)
member_back omitted n f w is cl back _ h i c name ms none = absurd (false≢true i)
member_back nullable n f w is cl back p h i c name ms none = found (read_member nullable f) name _ ms (Some p) (maybe_back n f w is cl back p h i c)
member_back or_empty n f w is cl back p h i c name ms none = found (read_member or_empty f) name (w p) ms (Some p) (back p h i c)
member_back or_false n f w is cl back p h i c name ms none = found (read_member or_false f) name (w p) ms (Some p) (back p h i c)
member_back unless_empty n f w is cl back p h i c name ms none = unless_back unless_empty f name (is_empty p) (w p) p ms (λ e. ap Some (empty_is p e)) (back p h i c) none
member_back unless_false n f w is cl back p h i c name ms none = unless_back unless_false f name (is_false p) (w p) p ms (λ e. ap Some (false_is p e)) (back p h i c) none

pub supported_member_back : (f : Data → Option Plain) (w : Plain → Data) (is cl : Plain → Bool) → ((p : Plain) → is p ≡ true → cl p ≡ true → f (w p) ≡ Some p)
    → ((p : Plain) → is p ≡ true → is_some (as_object (w p)) ≡ true) → (p : Plain)
    → is_maybe is p ≡ true → clear_present cl p ≡ true → (name : List ℕ) (ms : Members) → get_member name ms ≡ None
    → read_supported f (get_member name (write_member name omitted w p ms)) ≡ Some p
supported_member_back f w is cl back whole absent i c name ms none = ap (read_supported f) none
supported_member_back f w is cl back whole (present p) i c name ms none = found (read_supported f) name (w p) ms (Some (present p)) (supported_back f w is cl back p i (whole p i) c)
supported_member_back f w is cl back whole _ i c name ms none = absurd (false≢true i)
