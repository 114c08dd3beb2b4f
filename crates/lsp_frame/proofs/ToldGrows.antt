-- What is told stays told, and begins the items, whatever bytes follow.
use Rattle.std.proofs.Common.{◌≡◌, ℕ, zero, suc, List, [], ◌∷◌, ◌++◌, drop, Option, Some, None, refl, ap, ◌∙◌}
use Rattle.lsp_frame.specs.Transitions.{Item, fault, Transition, stop, unfinished, go, transition}
use Rattle.lsp_frame.specs.Items.{with_item, items_after, items_within, all_from, transitions_left}
use Rattle.lsp_frame.specs.Laws.{ToldStays}
use Rattle.lsp_frame.proofs.ItemsByTransition.{all_from-go}
use Rattle.lsp_frame.specs.declared.settings.CodecSettings.{CodecSettings}
use Rattle.lsp_frame.specs.declared.parse_error.ParseError.TheVariants.{Rest}
use Rattle.lsp_frame.specs.declared.decode_state.DecodeState.{DecodeState}
use Rattle.lsp_frame.specs.declared.decode_state.DecodeState.TheVariants.{Frame}

-- ys begins with xs
abbrev Begins : List Item → List Item → Type 0
Begins xs ys = (zs : List Item) × (ys ≡ xs ++ zs)

item_first : (x : Option Item) (xs ys zs : List Item) → Begins xs ys → zs ≡ with_item x ys → Begins (with_item x xs) zs
item_first None xs ys zs b e = (b.0, e ∙ b.1)
item_first (Some x) xs ys zs b e = (b.0, e ∙ ap (λ t. x ∷ t) b.1)

module _ (settings : CodecSettings) where
  after_transition : (last : List Item) (n : ℕ) (k : DecodeState) (h c : List ℕ) → ((j : DecodeState) (g : List ℕ) → Begins (items_within settings [] n j g) (all_from settings last j (g ++ c)))
      → (t : Transition) → transition settings k h ≡ t → Begins (items_after (λ j d. items_within settings [] n j (drop d h)) [] t) (all_from settings last k (h ++ c))
  after_transition last n k h c later stop e = (all_from settings last k (h ++ c), refl)
  after_transition last n k h c later unfinished e = (all_from settings last k (h ++ c), refl)
  after_transition last n k h c later (go x j d) e =
      item_first x (items_within settings [] n j (drop d h)) (all_from settings last j (drop d h ++ c)) (all_from settings last k (h ++ c)) (later j (drop d h)) (all_from-go settings last k h c x j d e)

  grows : (last : List Item) (c : List ℕ) (n : ℕ) (k : DecodeState) (h : List ℕ) → Begins (items_within settings [] n k h) (all_from settings last k (h ++ c))
  grows last c zero k h = (all_from settings last k (h ++ c), refl)
  grows last c (suc n) k h = after_transition last n k h c (grows last c n) (transition settings k h) refl

pub told_stays_lem : ToldStays
told_stays_lem settings b c = (grows settings [] c (transitions_left Frame b) Frame b, grows settings (fault Rest ∷ []) c (transitions_left Frame b) Frame b)
