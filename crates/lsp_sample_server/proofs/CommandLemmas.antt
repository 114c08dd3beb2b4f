-- Arguments of a command.
use Rattle.std.proofs.Common.{◌≡◌, ◌<◌, ◌≤◌, ℕ, List, [], ◌∷◌, ◌++◌, length, map, refl, sym, ap, ◌∙◌, arith}
use Rattle.std.specs.Prelude.{Option, Some, None, IsSome}
use Rattle.std.specs.Option.{option_map}
use Rattle.std.specs.Option.{option_to_list}
use Rattle.serde_json.specs.declared.value.Value.{Value}
use Rattle.lsp_shape.specs.Plain.{present, maybe_of, parts_of}
use Rattle.lsp_shape.specs.Shown.{show_value}
use Rattle.lsp_sample_server.specs.declared.command.Command.TheVariants.{Unknown}
use Rattle.lsp_sample_server.specs.Command.{command_of, last_of}

-- more than one
pub unknown_of_more : (name : List ℕ) (values : List Value) → 2 ≤ length values → Unknown ≡ command_of name (parts_of (map show_value values))
unknown_of_more name [] h = absurd (omega arith)
unknown_of_more name (value ∷ []) h = absurd (omega arith)
unknown_of_more name (value ∷ next ∷ values) h = refl

last_pushed : (ys : List Value) (x : Value) → last_of (parts_of (map show_value (ys ++ x ∷ []))) ≡ present (show_value x)
last_pushed [] x = refl
last_pushed (y ∷ []) x = refl
last_pushed (y ∷ z ∷ ys) x = last_pushed (z ∷ ys) x

-- the last one is taken out
pub last_popped : (xs ys : List Value) (r : Option Value) → xs ≡ ys ++ option_to_list r → (0 < length xs → IsSome r) → maybe_of (option_map show_value r) ≡ last_of (parts_of (map show_value xs))
last_popped xs ys (Some x) e h = sym (ap (λ l. last_of (parts_of (map show_value l))) e ∙ last_pushed ys x)
last_popped [] ys None e h = refl
last_popped (x ∷ xs) ys None e h = absurd (cc (h (omega arith)))
