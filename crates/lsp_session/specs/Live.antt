-- The live ids as the code keeps them.
use Rattle.std.specs.Prelude.{◌≡◌, ℕ, List, [], ◌∷◌, map, filter, not, Bool, false, ◌||◌}
use Rattle.std.specs.List.{list_any}
use Rattle.lsp_rpc.specs.Message.{IdData}
use Rattle.lsp_rpc.specs.Ids.{same_id}
use Rattle.lsp_rpc.specs.Shown.{show_id}
use Rattle.lsp_rpc.specs.declared.id.Id.{Id}
use Rattle.lsp_session.specs.Admission.{is_live}

abbrev pub ids_of : {X : Type 0} → List (ℕ × (Id × X)) → List IdData
ids_of es = map (λ e. show_id e.1.0) es

-- two of them are equal
abbrev pub have_repeats : {X : Type 0} → List (ℕ × (Id × X)) → Bool
have_repeats [] = false
have_repeats (e ∷ es) = list_any (λ x. same_id (show_id e.1.0) (show_id x.1.0)) es || have_repeats es

-- the id is no longer live, and this says whether it was
pub record IsEnded (i : IdData) (old : List IdData) (was_live : Bool) (new : List IdData) : Type 0 where
  pub was : was_live ≡ is_live i old
  pub ids : new ≡ filter (λ j. not (same_id i j)) old
