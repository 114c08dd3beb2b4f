-- An object holds nothing where it has no entries.
use Rattle.std.proofs.Common.{rules, Bor, ◌≡◌, sym, ap, ◌∙◌}
use Rattle.std.specs.Prelude.{Option, Some}
use Rattle.std.specs.Option.{option_map}
use Rattle.serde_json.specs.View.{view}
use Rattle.serde_json.specs.declared.value.Value.{Value}
use Rattle.serde_json.specs.declared.value.Value.TheVariants.{Object}
use Rattle.serde_json.proofs.Views.{view-Object}
use Rattle.lsp_session.specs.Admission.{hold_nothing}
use Rattle.lsp_session.proofs.AdmissionLemmas.{holds_nothing}
use Rattle.lsp_session.proofs.admission.hold_nothing.Goals as goal

pub returns-in-Some-Object : goal.returns-in-Some-Object
returns-in-Some-Object c =
    let is_object : c.in-Some-Object.field-0.now ≡ Object c.in-Some-Object.members = search rules in
    holds_nothing c.in-Some-Object.members.entries c.is_empty.result c.is_empty.ensures
    ∙ sym (ap (λ (p : Option (Bor Value)). hold_nothing (option_map (λ v. view v.now) p)) c.in-Some-Object.is
    ∙ ap (λ d. hold_nothing (Some d)) (ap view is_object ∙ view-Object c.in-Some-Object.members))
