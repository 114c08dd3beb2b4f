-- A record that is cloned, field by field.
use Rattle.std.proofs.Common.{◌≡◌, subst, sym}
use Rattle.std.specs.Prelude.{Result, Ok, Err, IfOk, OnOk, MatchResult}

-- what holds of the copy, where no field lacked memory
pub cloned : {T E Q : Type 0} {v : T} (P : T → Type 0) (r : Result T E) → IfOk r (λ x. x ≡ v) → OnOk r Q → (Q → P v) → MatchResult r P (λ e. ¬ ⊥)
cloned P (Ok x) e q f = subst P (sym e) (f q)
cloned P (Err e) a q f = λ b. b
