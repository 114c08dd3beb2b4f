-- What is passed on of what was read as one of several forms.
use Rattle.std.proofs.Common.{◌≡◌, true, ap, subst, None}
use Rattle.std.specs.Prelude.{Result, Ok, Err, IsOkAnd, MatchResult}
use Rattle.std.proofs.lemmas.Bool.{false≢true}
use Rattle.serde_json.specs.Data.{Data}
use Rattle.lsp_shape.specs.Shape.{Shape}
use Rattle.lsp_shape.specs.Read.{read}
use Rattle.lsp_shape.specs.Why.{suits, Lacks, Refuses, IfUnfit}
use Rattle.lsp_shape.specs.declared.why.Misfit.{Misfit}
use Rattle.lsp_shape.specs.declared.why.Misfit.TheVariants as misfits
use Rattle.lsp_shape.specs.declared.why.Wanted.TheVariants as wants
use Rattle.lsp_shape.specs.declared.why.Why.{Why}

pub mapped_err : {A B : Type 0} (Q : A → B → Type 0) {m : Misfit} (r : Result A Misfit) (out : Result B Misfit) → MatchResult r (λ x. IsOkAnd out (Q x)) (λ e. out ≡ Err e) → out ≡ Err m → r ≡ Err m
mapped_err {A} {B} Q {m} (Ok x) out cases is = absurd (subst (λ (o : Result B Misfit). IsOkAnd o (Q x)) is cases)
mapped_err {A} {B} Q {m} (Err e) out cases is = let same : e ≡ m = cc in ap Err same

-- one of several forms, where `map` passes it on
pub form_mapped : {A B : Type 0} (Q : A → B → Type 0) (r : Result A Misfit) (out : Result B Misfit) (s : Shape) (d : Data) → suits s wants.Form ≡ true → MatchResult r (λ x. IsOkAnd out (Q x)) (λ e. out ≡ Err e)
    → ((why : Why) → r ≡ Err (misfits.Unfit why) → (t : Shape) (e : Data) → Lacks t e wants.Form → Refuses t e why) → ((why : Why) → r ≡ Err (misfits.Unfit why) → read s d ≡ None) → IfUnfit out (λ why. Refuses s d why)
form_mapped Q r out s d suited cases told none = λ why is. let was = mapped_err Q r out cases is in told why was s d (suited, λ e. absurd (false≢true e), none why was)

-- one of several forms, as it was read
pub form_read : {A : Type 0} (r : Result A Misfit) (s : Shape) (d : Data) → suits s wants.Form ≡ true
    → ((why : Why) → r ≡ Err (misfits.Unfit why) → (t : Shape) (e : Data) → Lacks t e wants.Form → Refuses t e why) → ((why : Why) → r ≡ Err (misfits.Unfit why) → read s d ≡ None) → IfUnfit r (λ why. Refuses s d why)
form_read r s d suited told none = λ why is. told why is s d (suited, λ e. absurd (false≢true e), none why is)
