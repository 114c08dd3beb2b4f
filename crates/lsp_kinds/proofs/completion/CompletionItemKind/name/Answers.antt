use Rattle.std.proofs.Common.{rules, SFits, w32}
use Rattle.std.proofs.lemmas.Int.{to_z-of_z}
use Rattle.lsp_kinds.specs.Tables.{completion_item_kinds}
use Rattle.lsp_kinds.proofs.completion.CompletionItemKind.name.Goals as goal

-- The list of the code computes to the table.
pub returns : goal.returns
unfolding completion_item_kinds
returns c =
    let fits : SFits w32 c.self.inside.0 = search rules in
    rw (← c.self.view_is) (rw (to_z-of_z w32 _ fits) at c.name_of.ensures)
