-- The first text, one more, and the end of all.
use Rattle.std.proofs.Common.{◌∙◌, sym, ap, arith, refl, map, take, true, false, [], ◌∷◌, ◌++◌}
use Rattle.std.proofs.lemmas.List.{take_all}
use Rattle.std.specs.Prelude.{string_bytes}
use Rattle.serde_json.specs.Written.{compact_text, items_text}
use Rattle.serde_json.specs.View.{items_of}
use Rattle.lsp_index.specs.Shown.{show_location}
use Rattle.lsp_index.specs.Queries.{location_value}
use Rattle.lsp_index.proofs.SetLemmas.{fold_shown_more}
use Rattle.lsp_index.proofs.ValueLemmas.{with_text, texts_end}
use Rattle.lsp_index.proofs.search.put_locations.Goals as goal

pub loop-location-init : goal.loop-location-init
loop-location-init c = (false, refl, ap (λ t. (false, t)) (c.in_ok-push_str.ensures.bytes ∙ ap (λ t. t ++ 91 ∷ []) c.requires))

pub loop-location-preserved : goal.loop-location-preserved
loop-location-preserved c =
    let location = compact_text (location_value (show_location c.location-item.result)) in (
      true,
      refl,
      ap (λ t. (true, t)) (c.in_ok-put_location.ensures ∙ ap (λ b. string_bytes c.loop-location.text ++ (b ++ location)) c.loop-location.invariant.1)
          ∙ ap (λ s. with_text s (show_location c.location-item.result)) c.loop-location.invariant.2
          ∙ sym (fold_shown_more with_text show_location (false, 91 ∷ []) c.as_slice-location-items.result.now c.loop-location.location-index c.location-item.result (omega arith) c.location-item.is),
    )

pub returns : goal.returns
returns c =
    c.in_ok-push_str-2.ensures.bytes ∙ ap (λ s. s.1 ++ 93 ∷ []) c.loop-location.invariant.2
    ∙ texts_end (false, 91 ∷ []) (map show_location (take c.loop-location.location-index c.as_slice-location-items.result.now))
    ∙ ap (λ ls. 91 ∷ items_text false (items_of (map location_value (map show_location ls))))
    (take_all c.loop-location.location-index c.as_slice-location-items.result.now c.loop-location-test.false ∙ c.as_slice-location-items.ensures.keys)
