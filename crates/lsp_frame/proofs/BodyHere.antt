-- A body that is here, whole, tells an item, and its own where it is a text.
use Rattle.std.specs.Str.{is_utf8}
use Rattle.std.proofs.Common.{◌≡◌, ◌≢◌, ℕ, ◌<◌, ◌≤◌, List, [], ◌∷◌, ◌++◌, length, take, drop, true, false, ◌==◌, nat_lt, cond, Option, Some, None, sym, ap, subst, ◌∙◌, arith, append-nil}
use Rattle.serde_json.specs.Data.{Data}
use Rattle.lsp_rpc.specs.Message.{MessageData, clean_message}
use Rattle.lsp_text.specs.Floats.{read_by}
use Rattle.lsp_text.specs.declared.floats.Floats.{Floats}
use Rattle.lsp_frame.specs.Transitions.{Item, fault, unfinished, go, of_message, of_value, body_item_by}
use Rattle.lsp_frame.specs.Items.{all_from, items_after, IsOfBody}
use Rattle.lsp_frame.specs.Kept.{IsBodyHere}
use Rattle.lsp_frame.specs.declared.parse_error.ParseError.TheVariants.{Utf8}
use Rattle.lsp_frame.specs.declared.settings.CodecSettings.{CodecSettings}
use Rattle.lsp_frame.specs.declared.decode_state.DecodeState.{DecodeState}
use Rattle.lsp_frame.specs.declared.decode_state.DecodeState.TheVariants.{Frame, Search, Body, Skip}
use Rattle.lsp_frame.proofs.ItemsByTransition.{all_from-transition}

there : (n : ℕ) (bs : List ℕ) → n ≤ length bs → nat_lt (length bs) n ≡ false
there n bs h = grind arith

not_zero : (n : ℕ) → 0 < n → (n == 0) ≡ false
not_zero n h = grind arith

pub some_told : (xs : List Item) → IsOfBody xs → xs ≢ []
some_told [] of_body e = of_body
some_told (x ∷ xs) of_body e = absurd cc

message_told : (m : Option MessageData) (xs : List Item) → IsOfBody (of_message m ∷ xs)
message_told None xs = tt
message_told (Some m) xs = tt

value_told : (d : Option Data) (xs : List Item) → IsOfBody (of_value d ∷ xs)
value_told None xs = tt
value_told (Some d) xs = message_told (clean_message d) xs

text_told : (floats : Floats) (bs : List ℕ) (xs : List Item) → is_utf8 bs ≡ true → IsOfBody (body_item_by floats bs ∷ xs)
text_told floats bs xs text = subst (λ b. IsOfBody (cond b (of_value (read_by floats bs)) (fault Utf8) ∷ xs)) (sym text) (value_told (read_by floats bs) xs)

module _ (settings : CodecSettings) where
  body_tells : (n : ℕ) (bs : List ℕ) → 0 < n → n ≤ length bs → all_from settings [] (Body n) bs ≡ body_item_by settings.floats (take n bs) ∷ all_from settings [] Frame (drop n bs)
  body_tells n bs some here =
      all_from-transition settings [] (Body n) bs
      ∙ ap (λ b. items_after (λ j d. all_from settings [] j (drop d bs)) [] (cond b unfinished (cond (n == 0) (go None Frame 0) (go (Some (body_item_by settings.floats (take n bs))) Frame n)))) (there n bs here)
      ∙ ap (λ b. items_after (λ j d. all_from settings [] j (drop d bs)) [] (cond b (go None Frame 0) (go (Some (body_item_by settings.floats (take n bs))) Frame n))) (not_zero n some)

  body_here_tells : (s : DecodeState) (bs : List ℕ) → IsBodyHere s bs → IsOfBody (all_from settings [] s bs)
  body_here_tells Frame bs here = absurd here
  body_here_tells Search bs here = absurd here
  body_here_tells (Body n) bs here =
      subst IsOfBody (sym (body_tells n bs here.0 here.1)) (text_told settings.floats (take n bs) (all_from settings [] Frame (drop n bs)) here.2)
  body_here_tells (Skip n) bs here = absurd here

  -- the same at a place that silent transitions lead to
  pub told_before : (s j : DecodeState) (bs rest : List ℕ) → ((last : List Item) (c : List ℕ) → all_from settings last s (bs ++ c) ≡ all_from settings last j (rest ++ c)) → IsBodyHere j rest
      → IsOfBody (all_from settings [] s bs)
  told_before s j bs rest same here =
      subst IsOfBody (ap (all_from settings [] j) (sym (append-nil rest)) ∙ sym (same [] []) ∙ ap (all_from settings [] s) (append-nil bs)) (body_here_tells j rest here)
