use Rattle.std.proofs.Common.{ap, sym, ◌∙◌}
use Rattle.serde_json.specs.View.{members_view}
use Rattle.serde_json.proofs.Views.{members_view-insert_entry}
use Rattle.lsp_shape.specs.Write.{put_all}
use Rattle.lsp_shape.proofs.flatten.put_each.Goals as goal

pub loop-name-preserved : goal.loop-name-preserved
loop-name-preserved c =
    let left = c.next.new.self in
    let before = c.loop-name.object.entries in
    ap (λ es. put_all (members_view left) (members_view es)) c.in_ok-insert.ensures.entries
    ∙ ap (put_all (members_view left)) (members_view-insert_entry before c.in-Some.name c.in-Some.member)
    ∙ ap (λ es. put_all (members_view es) (members_view before)) (sym c.in-Some.ensures.steps)
    ∙ c.loop-name.invariant
