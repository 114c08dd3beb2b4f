-- The texts of the locations so far, and the comma that a later one has before it.
use Rattle.std.proofs.Common.{◌≡◌, Bool, map, take, fold, false, [], ◌∷◌}
use Rattle.std.specs.Prelude.{string_bytes}
use Rattle.serde_json.specs.Written.{comma_if}
use Rattle.lsp_index.specs.Shown.{show_location}
use Rattle.lsp_index.proofs.ValueLemmas.{with_text}
use Rattle.lsp_index.proofs.search.put_locations.Given as goal

abbrev pub invariant-loop-location : goal.invariant-loop-location
invariant-loop-location l = (later : Bool) × (l.comma ≡ comma_if later)
    × ((later, string_bytes l.text) ≡ fold with_text (false, 91 ∷ []) (map show_location (take l.location-index l.location-items)))
