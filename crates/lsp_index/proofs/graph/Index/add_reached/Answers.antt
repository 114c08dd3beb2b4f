-- Nothing is reached; the first result, one more, and the last.
use Rattle.std.proofs.Common.{◌≡◌, ◌∙◌, sym, ap, map, fold, Some, [], ◌∷◌}
use Rattle.std.specs.Prelude.{option_map}
use Rattle.std.specs.Borrow.{Bor}
use Rattle.indexmap.specs.IndexSet.{insert_key}
use Rattle.lsp_rpc.specs.Message.{IdData}
use Rattle.lsp_rpc.specs.Shown.{show_id}
use Rattle.lsp_rpc.specs.declared.id.Id.{Id}
use Rattle.lsp_index.specs.Queries.{with_linked, with_place, with_places, locations_text}
use Rattle.lsp_index.specs.Shown.{show_location}
use Rattle.lsp_index.specs.Kept.{same_key}
use Rattle.lsp_index.proofs.SetLemmas.{results_more, results_end, places_more, places_end}
use Rattle.lsp_index.proofs.graph.Index.add_reached.Goals as goal

some_same : (a b : IdData) → Some a ≡ Some b → a ≡ b
some_same a b e = cc

pub returns-in_default : goal.returns-in_default
returns-in_default c = rw c.in_default.is (λ g kept. ap (λ ks. locations_text (map show_location ks)) c.requires.found)

pub loop-i-init : goal.loop-i-init
loop-i-init c = λ g kept from is. (
  sym (ap (map show_id) (c.in_ok-insert.ensures.keys ∙ ap (λ ks. insert_key same_key ks c.in_ok-clone.field-0) c.requires.results)
      ∙ ap (λ i. i ∷ []) (c.in_ok-clone.ensures.equal ∙ some_same (show_id c.in-Some.from.now) from (rw c.in-Some.is at is))),
  ap (map show_location) c.requires.found,
)

pub loop-i-preserved : goal.loop-i-preserved
loop-i-preserved c = λ g kept from is.
    let so_far = c.loop-i.invariant g kept from is in
    let items = c.items_of.ensures g kept in
    let keys = c.loop-i.results.keys in
    let found = map show_location c.loop-i.found.keys in
    let new = map show_id c.follow_all.new.results.keys in
    let linked = c.in_ok-follow_all-in-Some-get_index.ensures.linked ∙ ap (fold (λ rs i. with_linked rs i.role i.targets) (map show_id keys)) items in (
      results_more g from keys new c.loop-i.i c.in-Some-get_index.member.now so_far.0 c.in-Some-get_index.ensures.key linked,
      places_more g keys new found (map show_location c.follow_all.new.found.keys) c.loop-i.i c.in-Some-get_index.member.now c.in-Some-get_index.ensures.key linked so_far.1
          (c.in_ok-follow_all-in-Some-get_index.ensures.places g kept ∙ ap (fold (λ ls i. with_place g ls i.role i) found) items),
    )

pub returns-in-None : goal.returns-in-None
returns-in-None c = rw c.in-Some.is (λ g kept.
    let from = show_id c.in-Some.from.now in
    let so_far = c.loop-i.invariant g kept from (ap (option_map (λ (id : Bor Id). show_id id.now)) c.in-Some.is) in
    let keys = c.loop-i.results.keys in
    (map show_id keys, results_end g from keys c.loop-i.i so_far.0 c.in-None.ensures.key, ap locations_text (so_far.1 ∙ ap (fold (with_places g) []) (places_end keys c.loop-i.i c.in-None.ensures.key))))
