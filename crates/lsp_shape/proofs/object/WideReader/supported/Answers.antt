use Rattle.std.proofs.Common.{◌≡◌, false, inl, refl, ap, sym, ◌∙◌, is_some}
use Rattle.std.specs.Prelude.{Err}
use Rattle.std.proofs.lemmas.Bool.{false≢true}
use Rattle.std.proofs.lemmas.Option.{none-some, same_Some}
use Rattle.lsp_shape.proofs.object.WideReader.supported.Goals as goal

pub returns-in-Err : goal.returns-in-Err
returns-in-Err g c =
    let none : is_some c.args.self.now.misfit ≡ false = cc in (
      refl,
      λ e. absurd (none-some _ (sym e)),
      λ e. absurd (none-some _ (sym e)),
      λ why e. inl (c.supported.ensures.alone why (c.in-Err.is ∙ ap Err (same_Some _ _ e))),
      λ m e. absurd (false≢true (sym none ∙ ap is_some e)),
    )
