-- What a reader says where it wants something else of the value as a whole.
use Rattle.std.proofs.Common.{◌≡◌, ℕ, List, Bool, true, false, refl, ap, sym, subst, ◌∙◌, Option, Some, None, option_map, is_some}
use Rattle.std.specs.Prelude.{Result, Ok, Err, IfOk, IsErrAnd}
use Rattle.std.proofs.lemmas.Bool.{false≢true}
use Rattle.std.proofs.lemmas.Option.{none-some, same_Some}
use Rattle.serde_json.specs.Data.{Data, null, boolean, number, string, array, object, Items, Members}
use Rattle.serde_json.specs.Find.{as_null, as_bool, as_str, as_array, as_object}
use Rattle.lsp_shape.specs.Shape.{Shape}
use Rattle.lsp_shape.specs.Read.{read}
use Rattle.lsp_shape.specs.Why.{is_kind, is_all, suits, Lacks, Refuses, IfUnfit, IsUnfit}
use Rattle.lsp_shape.specs.declared.why.Misfit.{Misfit}
use Rattle.lsp_shape.specs.declared.why.Misfit.TheVariants as misfits
use Rattle.lsp_shape.specs.declared.why.Wanted.{Wanted}
use Rattle.lsp_shape.specs.declared.why.Wanted.TheVariants as wants
use Rattle.lsp_shape.specs.declared.why.Why.{Why}
use Rattle.lsp_shape.proofs.Refusals.{said, other_kind, passed, refuses_none}

module _ {A : Type 0} (w : Wanted) (s : Shape) (d : Data) (m : Misfit) (told : (why : Why) → m ≡ misfits.Unfit why → (t : Shape) (e : Data) → Lacks t e w → Refuses t e why) where
  -- a word that says all that is wanted, of a value of another kind
  pub wants_kind : suits s w ≡ true → is_kind w d ≡ false → IfUnfit {A = A} (Err m) (λ why. Refuses s d why)
  wants_kind t k = λ why is. told why (said (Err m) m refl is) s d (t, λ e. k, other_kind s w t d k)

  -- a word that does not
  pub wants_other : suits s w ≡ true → is_all w ≡ false → read s d ≡ None → IfUnfit {A = A} (Err m) (λ why. Refuses s d why)
  wants_other t a none = λ why is. told why (said (Err m) m refl is) s d (t, λ e. absurd (false≢true (sym a ∙ e)), none)

-- one of several forms, where a question mark passes it on
pub form_told : {A : Type 0} (r : Result A Misfit) (m : Misfit) (s : Shape) (d : Data) → suits s wants.Form ≡ true → IsErrAnd r (λ x. x ≡ m)
    → ((why : Why) → m ≡ misfits.Unfit why → (t : Shape) (e : Data) → Lacks t e wants.Form → Refuses t e why) → ((why : Why) → m ≡ misfits.Unfit why → read s d ≡ None) → IfUnfit r (λ why. Refuses s d why)
form_told r m s d suited a told none = passed r m (λ why. Refuses s d why) a (λ why is. told why is s d (suited, λ e. absurd (false≢true e), none why is))

-- what a question mark passes on is not read
pub passed_none : {A : Type 0} (r : Result A Misfit) (m : Misfit) {s : Shape} {d : Data} → IsErrAnd r (λ x. x ≡ m) → ((why : Why) → m ≡ misfits.Unfit why → Refuses s d why) → IsUnfit r → read s d ≡ None
passed_none (Ok x) m a f e = absurd a
passed_none (Err (misfits.Unfit why)) m a f e = refuses_none (f why (sym a))
passed_none (Err misfits.NoMemory) m a f e = absurd e

pub as_read : {A : Type 0} {r : Result A Misfit} {x : A} (P : A → Type 0) → r ≡ Ok x → IfOk r P → P x
as_read {A} P e a = subst (λ (q : Result A Misfit). IfOk q P) e a

-- ---- what a value is

pub is_null : (d : Data) → is_some (as_null d) ≡ true → d ≡ null
is_null null e = refl
is_null (boolean b) e = absurd (false≢true e)
is_null (number n) e = absurd (false≢true e)
is_null (string s) e = absurd (false≢true e)
is_null (array ds) e = absurd (false≢true e)
is_null (object ms) e = absurd (false≢true e)

pub is_boolean : (d : Data) (b : Bool) → as_bool d ≡ Some b → d ≡ boolean b
is_boolean (boolean a) b e = ap boolean (same_Some a b e)
is_boolean null b e = absurd (none-some b e)
is_boolean (number n) b e = absurd (none-some b e)
is_boolean (string s) b e = absurd (none-some b e)
is_boolean (array ds) b e = absurd (none-some b e)
is_boolean (object ms) b e = absurd (none-some b e)

pub is_string : (d : Data) (t : List ℕ) → as_str d ≡ Some t → d ≡ string t
is_string (string s) t e = ap string (same_Some s t e)
is_string null t e = absurd (none-some t e)
is_string (boolean b) t e = absurd (none-some t e)
is_string (number n) t e = absurd (none-some t e)
is_string (array ds) t e = absurd (none-some t e)
is_string (object ms) t e = absurd (none-some t e)

pub is_array : (d : Data) (es : Items) → as_array d ≡ Some es → d ≡ array es
is_array (array ds) es e = ap array (same_Some ds es e)
is_array null es e = absurd (none-some es e)
is_array (boolean b) es e = absurd (none-some es e)
is_array (number n) es e = absurd (none-some es e)
is_array (string s) es e = absurd (none-some es e)
is_array (object ms) es e = absurd (none-some es e)

pub is_object : (d : Data) (os : Members) → as_object d ≡ Some os → d ≡ object os
is_object (object ms) os e = ap object (same_Some ms os e)
is_object null os e = absurd (none-some os e)
is_object (boolean b) os e = absurd (none-some os e)
is_object (number n) os e = absurd (none-some os e)
is_object (string s) os e = absurd (none-some os e)
is_object (array ds) os e = absurd (none-some os e)

-- what a test of a value gave
pub gave : {A B : Type 0} (f : A → B) {r : Option A} {o : Option B} {x : A} → option_map f r ≡ o → r ≡ Some x → o ≡ Some (f x)
gave f e is = sym e ∙ ap (option_map f) is

pub gave_none : {A B : Type 0} (f : A → B) {r : Option A} {o : Option B} → option_map f r ≡ o → r ≡ None → o ≡ None
gave_none f e is = sym e ∙ ap (option_map f) is
