-- What is left of a stream, by the next item and by what comes after it.
use Rattle.std.specs.Prelude.{◌↔◌}
use Rattle.std.proofs.Common.{◌≡◌, ℕ, List, [], ◌∷◌, ◌++◌, Bool, true, false, cond, Option, Some, None, Result, option_map, refl, sym, ap, ◌∙◌, append-nil}
use Rattle.lsp_rpc.specs.declared.message.Message.{Message}
use Rattle.lsp_frame.specs.Transitions.{Item, fault}
use Rattle.lsp_frame.specs.Items.{At, all_from, with_item, told_at, items_at}
use Rattle.lsp_frame.specs.Places.{codec_at}
use Rattle.lsp_frame.specs.Shown.{show_found}
use Rattle.lsp_frame.specs.declared.settings.CodecSettings.{CodecSettings}
use Rattle.lsp_frame.specs.declared.parse_error.ParseError.{ParseError}
use Rattle.lsp_frame.specs.declared.parse_error.ParseError.TheVariants.{Rest}
use Rattle.lsp_frame.specs.declared.decode_state.DecodeState.{DecodeState}

abbrev Found : Type 0
Found = Result Message ParseError

-- where no item is shown there is none
pub none_found : (x : Option Found) → option_map show_found x ≡ None → x ≡ None
none_found None e = refl
none_found (Some f) e = absurd cc

module _ (settings : CodecSettings) where
  -- the items of h begin with x, and go on with those of g
  abbrev pub Goes : DecodeState → List ℕ → Option Found → DecodeState → List ℕ → Type 0
  Goes s h x j g = (last : List Item) (c : List ℕ) → all_from settings last s (h ++ c) ≡ with_item (option_map show_found x) (all_from settings last j (g ++ c))

  -- where there is no next item, there is nothing more in g, or input ends there inside a frame
  abbrev pub Ends : Option Found → DecodeState → List ℕ → Bool → Type 0
  Ends x j g b = x ≡ None → (last : List Item) → all_from settings last j g ≡ cond b last []

  without_item : (s j : DecodeState) (h g : List ℕ) (b : Bool) → Goes s h None j g → Ends None j g b → (last : List Item) → all_from settings last s h ≡ cond b last []
  without_item s j h g b goes ends last =
      ap (all_from settings last s) (sym (append-nil h)) ∙ goes last [] ∙ ap (all_from settings last j) (append-nil g) ∙ ends refl last

  with_first : (s j : DecodeState) (h g : List ℕ) (f : Found) → Goes s h (Some f) j g → all_from settings [] s h ≡ [] → ⊥
  with_first s j h g f goes none =
      let some : [] ≡ show_found f ∷ all_from settings [] j (g ++ []) = sym none ∙ ap (all_from settings [] s) (sym (append-nil h)) ∙ goes [] [] in
      absurd cc

  empty_both : (b : Bool) → let P : List Item → Type 0 = λ xs. xs ≡ [] in P (cond b [] [])
  empty_both true = refl
  empty_both false = refl

  what_is_left : (s j : DecodeState) (h g : List ℕ) (x : Option Found) (b : Bool) → Goes s h x j g → Ends x j g b → all_from settings [] s h ≡ []
      → (last : List Item) → all_from settings last s h ≡ cond b last []
  what_is_left s j h g None b goes ends none last = without_item s j h g b goes ends last
  what_is_left s j h g (Some f) b goes ends none last = absurd (with_first s j h g f goes none)

  -- where nothing is told, what is left is what the last transition says
  pub items_left : (a : At) (s j : DecodeState) (h g : List ℕ) (x : Option Found) (b : Bool) → codec_at settings s h ≡ a → Goes s h x j g → Ends x j g b → told_at a ≡ []
      → items_at a ≡ cond b (fault Rest ∷ []) []
  items_left a s j h g x b is goes ends none = ap items_at (sym is) ∙ what_is_left s j h g x b goes ends (ap told_at is ∙ none) (fault Rest ∷ [])

  -- there is no next item exactly where nothing is told
  pub none_told : (a : At) (s j : DecodeState) (h g : List ℕ) (x : Option Found) (b : Bool) → codec_at settings s h ≡ a → Goes s h x j g → Ends x j g b
      → (option_map show_found x ≡ None) ↔ (told_at a ≡ [])
  none_told a s j h g None b is goes ends = (λ _. ap told_at (sym is) ∙ without_item s j h g b goes ends [] ∙ empty_both b, λ _. refl)
  none_told a s j h g (Some f) b is goes ends = (λ e. absurd cc, λ none. absurd (with_first s j h g f goes (ap told_at is ∙ none)))
