-- The location is put in, where there is one.
use Rattle.std.proofs.Common.{◌∙◌, ap, List, ℕ}
use Rattle.lsp_uri.specs.Uri.{uri_text}
use Rattle.lsp_index.specs.Queries.{LocationData}
use Rattle.lsp_index.specs.Shown.{show_location}
use Rattle.lsp_index.proofs.ValueLemmas.{location_put}
use Rattle.lsp_index.proofs.search.add_range.Goals as goal

pub returns-in_ok-insert-in-Some : goal.returns-in_ok-insert-in-Some
returns-in_ok-insert-in-Some c =
    let at : List ℕ → LocationData = λ u. record { uri = u; range = c.in-Some.range } in
    rw c.in-Some.is (location_put c.args.found.now.keys c.insert.new.self.keys c.new.result (at (uri_text c.args.uri.now)) (ap show_location c.new.ensures ∙ ap at c.in_ok-uri-in-Some.ensures.cases) c.in_ok-insert-in-Some.ensures.keys)
