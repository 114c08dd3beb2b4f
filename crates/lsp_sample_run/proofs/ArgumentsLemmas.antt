-- Two arguments are no form.
use Rattle.std.proofs.Common.{◌≡◌, ◌≤◌, ◌<◌, length, List, [], ◌∷◌, None, refl, arith}
use Rattle.std.specs.Prelude.{String}
use Rattle.std.specs.declared.alloc.Global.{Global}
use Rattle.lsp_sample_run.specs.Arguments.{form_asked}

pub two_arguments : (arguments : List (String Global)) → 2 ≤ length arguments → length arguments < 3 → form_asked arguments ≡ None
two_arguments [] some few = absurd (omega (arith, some))
two_arguments (a ∷ []) some few = absurd (omega (arith, some))
two_arguments (a ∷ b ∷ []) some few = refl
two_arguments (a ∷ b ∷ c ∷ arguments) some few = absurd (omega (arith, few))
