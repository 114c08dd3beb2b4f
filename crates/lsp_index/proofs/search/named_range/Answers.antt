-- A range that doesn't hold the position, one that is named, one that isn't, and none.
use Rattle.std.proofs.Common.{◌∙◌, sym}
use Rattle.std.specs.Prelude.{Some}
use Rattle.std.specs.List.{list_any}
use Rattle.lsp_rpc.specs.Ids.{same_id}
use Rattle.lsp_rpc.specs.Shown.{show_id}
use Rattle.lsp_index.specs.Shown.{show_ids}
use Rattle.lsp_index.proofs.SetLemmas.{range_outside, range_named, range_unnamed, no_range}
use Rattle.lsp_index.proofs.search.named_range.Goals as goal

pub returns-then-not-holds_position : goal.returns-then-not-holds_position
returns-then-not-holds_position c =
    rw c.in-Some.is (range_outside (list_any (same_id (show_id c.args.id.now)) (show_ids c.args.named.now.keys)) c.args.position (show_id c.args.id.now) c.in-Some.range (sym c.holds_position.ensures ∙ c.if-not-holds_position.true))

pub returns-then-contains : goal.returns-then-contains
returns-then-contains c =
    rw c.in-Some.is (range_named c.args.named.now.keys c.args.position c.args.id.now c.in-Some.range c.contains.result (sym c.holds_position.ensures ∙ c.if-not-holds_position.false) c.contains.ensures c.if-contains.true)

pub returns-else-contains : goal.returns-else-contains
returns-else-contains c = rw c.in-Some.is (range_unnamed c.args.named.now.keys c.args.position c.args.id.now (Some c.in-Some.range) c.contains.result c.contains.ensures c.if-contains.false)

pub returns-in-None : goal.returns-in-None
returns-in-None c = rw c.in-None.is (no_range (list_any (same_id (show_id c.args.id.now)) (show_ids c.args.named.now.keys)))
