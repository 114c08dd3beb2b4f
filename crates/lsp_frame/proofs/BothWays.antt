-- A text is read as one message, whichever way.
use Rattle.std.proofs.Common.{◌≡◌, ℕ, List, Option, Some, None, option_and_then, sym, ap, ◌∙◌}
use Rattle.std.specs.Prelude.{IfSome}
use Rattle.serde_json.specs.Data.{Data}
use Rattle.lsp_text.specs.declared.floats.Floats.{Floats}
use Rattle.lsp_frame.specs.Laws.{ReadsBy}
use Rattle.lsp_rpc.specs.Message.{MessageData, clean_message}
use Rattle.lsp_rpc.specs.Shown.{show_message}
use Rattle.lsp_rpc.specs.declared.message.Message.{Message}
use Rattle.lsp_frame.specs.Transitions.{message, of_message, of_value}

same_inside : {T : Type 0} (x y : T) → Some x ≡ Some y → x ≡ y
same_inside x y e = cc

of_found : (o : Option MessageData) (m : MessageData) → message m ≡ of_message o → o ≡ Some m
of_found None m e = absurd (cc)
of_found (Some k) m e =
    let same : k ≡ m = cc in
    ap Some same

-- a message that was found by way of the value is the one that the value is
pub found_message : (o : Option Data) (m : MessageData) → message m ≡ of_value o → option_and_then clean_message o ≡ Some m
found_message None m e = absurd (cc)
found_message (Some d) m e = of_found (clean_message d) m e

pub one_message : (floats : Floats) (text : List ℕ) (x y : Option Message) → IfSome x (λ m. ReadsBy floats text (show_message m)) → IfSome y (λ m. ReadsBy floats text (show_message m))
    → (a b : Message) → x ≡ Some a → y ≡ Some b → show_message a ≡ show_message b
one_message floats text None y h g a b e f = absurd (cc)
one_message floats text (Some m) None h g a b e f = absurd (cc)
one_message floats text (Some m) (Some k) h g a b e f =
    ap show_message (sym (same_inside m a e)) ∙ same_inside (show_message m) (show_message k) (sym h ∙ g) ∙ ap show_message (same_inside k b f)
