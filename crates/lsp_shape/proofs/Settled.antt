-- What follows from reading back.
use Rattle.std.proofs.Common.{◌≡◌, Bool, true, false, Some, None, option_map, refl, sym, ap, ◌∙◌, subst}
use Rattle.serde_json.specs.Data.{Data}
use Rattle.lsp_shape.specs.Plain.{Plain}
use Rattle.lsp_shape.specs.Shape.{Shape}
use Rattle.lsp_shape.specs.Read.{read}
use Rattle.lsp_shape.specs.Write.{write, trim}
use Rattle.lsp_shape.specs.Values.{is_of, clear, is_settled}
use Rattle.lsp_shape.specs.Laws.{TrimsAgain}
use Rattle.lsp_shape.proofs.ReadClear.{read_clear}
use Rattle.lsp_shape.proofs.ReadsBack.{reads_back}

trimmed_at : (s : Shape) (d e : Data) (p q : Plain) → read s d ≡ Some p → e ≡ write s p → is_of s p ≡ true → p ≡ q → is_settled s q ≡ true → trim s e ≡ Some e
trimmed_at s d e p q r w i same t =
    let c = read_clear s d p r (subst (λ x. is_settled s x ≡ true) (sym same) t) in
    ap (trim s) w ∙ ap (option_map (write s)) (reads_back s p i c) ∙ ap Some (sym w)

pub trims_again : (s : Shape) (d e : Data) (p : Plain) → read s d ≡ Some p → e ≡ write s p → is_of s p ≡ true → TrimsAgain s d e
trims_again s d e p r w i q u t = let same : p ≡ q = cc in trimmed_at s d e p q r w i same t

-- what is read of what was written
pub same_back : (s : Shape) (p q : Plain) (d : Data) → d ≡ write s p → is_of s p ≡ true → read s d ≡ Some q → clear s p ≡ true → q ≡ p
same_back s p q d w i r c = let same : Some q ≡ Some p = sym r ∙ ap (read s) w ∙ reads_back s p i c in cc

not_both : (s : Shape) (p : Plain) (d : Data) → d ≡ write s p → is_of s p ≡ true → read s d ≡ None → (b : Bool) → clear s p ≡ b → b ≡ false
not_both s p d w i r true c = let same : None ≡ Some p = sym r ∙ ap (read s) w ∙ reads_back s p i c in absurd cc
not_both s p d w i r false c = refl

pub not_clear : (s : Shape) (p : Plain) (d : Data) → d ≡ write s p → is_of s p ≡ true → read s d ≡ None → clear s p ≡ false
not_clear s p d w i r = not_both s p d w i r (clear s p) refl
