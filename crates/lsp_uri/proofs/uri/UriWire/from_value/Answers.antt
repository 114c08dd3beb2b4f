use Rattle.std.proofs.Common.{ap, sym, refl, subst, is_some}
use Rattle.std.proofs.lemmas.Bool.{false≢true}
use Rattle.serde_json.specs.View.{view}
use Rattle.lsp_shape.specs.Why.{IsUnfit}
use Rattle.lsp_shape.specs.declared.why.Wanted.TheVariants as wants
use Rattle.lsp_shape.proofs.Parts.{both_ok}
use Rattle.lsp_shape.proofs.Refusals.{whole_refuses, other_kind}
use Rattle.lsp_shape.proofs.Told.{wants_other, gave, gave_none}
use Rattle.lsp_uri.specs.Uri.{uri_row}
use Rattle.lsp_uri.proofs.Told.{uri_read, uri_unread}
use Rattle.lsp_uri.proofs.uri.UriWire.from_value.Goals as goal

pub returns-in-Some-clause-read : goal.returns-in-Some-clause-read
returns-in-Some-clause-read c =
    let said = gave _ c.as_str.ensures c.in-Some.is in
    both_ok _ _ c.of_text.result c.of_text.ensures.read c.of_text.ensures.fits (λ u kept fits. uri_read (view c.args.value.now) c.in-Some.text.now u said kept fits)

pub returns-in-Some-clause-unfit : goal.returns-in-Some-clause-unfit
returns-in-Some-clause-unfit c = λ why is.
    let said = gave _ c.as_str.ensures c.in-Some.is in
    whole_refuses (c.of_text.ensures.whole why is) uri_row.shape (view c.args.value.now)
    (refl, λ e. absurd (false≢true e), uri_unread (view c.args.value.now) c.in-Some.text.now said (c.of_text.ensures.unfit.0 (subst IsUnfit (sym is) tt)))

pub returns-in-None-clause-unfit : goal.returns-in-None-clause-unfit
returns-in-None-clause-unfit c =
    let none = ap is_some (gave_none _ c.as_str.ensures c.in-None.is) in
    wants_other wants.Uri uri_row.shape (view c.args.value.now) c.wanted.result c.wanted.ensures.refuses refl refl (other_kind uri_row.shape wants.Uri refl (view c.args.value.now) none)
