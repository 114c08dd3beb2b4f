-- One option after another.
use Rattle.std.proofs.Common.{◌≡◌, false, Option, Some, None, is_some, refl, sym}
use Rattle.std.specs.Prelude.{option_and_then}
use Rattle.std.proofs.lemmas.Bool.{false≢true}
use Rattle.std.proofs.lemmas.Option.{none-some}

pub then_some : {A B : Type 0} (f : A → Option B) (o : Option A) (y : B) → option_and_then f o ≡ Some y → (x : A) × (o ≡ Some x) × (f x ≡ Some y)
then_some f None y e = absurd (none-some y e)
then_some f (Some x) y e = (x, refl, e)

pub then_assoc : {A B C : Type 0} (f : A → Option B) (g : B → Option C) (h : A → Option C) → ((x : A) → h x ≡ option_and_then g (f x)) → (o : Option A) → option_and_then h o ≡ option_and_then g (option_and_then f o)
then_assoc f g h e None = refl
then_assoc f g h e (Some x) = e x

pub not_some : {A : Type 0} (o : Option A) → is_some o ≡ false → o ≡ None
not_some None e = refl
not_some (Some x) e = absurd (false≢true (sym e))
