use Rattle.std.proofs.Common.{◌≡◌}
use Rattle.serde_json.specs.View.{members_view}
use Rattle.lsp_shape.specs.Why.{name_at}
use Rattle.lsp_shape.proofs.unfit.name_of.Given as goal

-- the number counts on from the entries that are left
abbrev pub invariant-loop-name : goal.invariant-loop-name
invariant-loop-name l = name_at l.left (members_view l.name-iterator) ≡ name_at l.number (members_view l.members.entries)
