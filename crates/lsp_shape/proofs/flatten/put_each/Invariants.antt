use Rattle.std.proofs.Common.{◌≡◌}
use Rattle.serde_json.specs.View.{members_view}
use Rattle.lsp_shape.specs.Write.{put_all}
use Rattle.lsp_shape.proofs.flatten.put_each.Given as goal

-- what is left is still to be put
abbrev pub invariant-loop-name : goal.invariant-loop-name
invariant-loop-name l = put_all (members_view l.name-iterator) (members_view l.object.entries) ≡ put_all (members_view l.fn.members.entries) (members_view l.initial.object.entries)
