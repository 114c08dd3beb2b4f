-- The text of the location, behind the comma.
use Rattle.std.proofs.Common.{◌∙◌, ap, ◌++◌, append_assoc}
use Rattle.std.specs.Prelude.{string_bytes}
use Rattle.serde_json.specs.Written.{compact_text}
use Rattle.lsp_index.specs.Shown.{show_location}
use Rattle.lsp_index.specs.Queries.{location_value}
use Rattle.lsp_index.proofs.ValueLemmas.{location_value-is, free_location-written}
use Rattle.lsp_index.proofs.search.put_location.Goals as goal

pub returns : goal.returns
returns c =
    let location = compact_text (location_value (show_location c.args.location.now)) in
    c.in_ok-push_str-2.ensures.bytes
    ∙ ap (λ t. string_bytes c.push_str.new.self ++ t) (c.as_str.ensures.value ∙ c.in_ok-write_text.ensures.text (free_location-written c.args.location.now) ∙ ap compact_text (location_value-is c.args.location.now))
    ∙ ap (λ t. t ++ location) c.in_ok-push_str.ensures.bytes ∙ append_assoc (string_bytes c.args.text.now) c.args.comma.now location
