use Rattle.std.proofs.Common.{rules, ◌≡◌, sym, subst, ◌∷◌, []}
use Rattle.atomic_table.specs.Table.{opening}
use Rattle.lsp_shared.specs.Rule.{Kept, newcomer}
use Rattle.lsp_shared.proofs.Parting.{begins}
use Rattle.lsp_shared.proofs.desk.SharedDesk.new.Goals as goal

pub new-requires-2 : goal.new-requires-2
new-requires-2 c = let same : c.push.new.self.items ≡ c.new.result ∷ [] = search rules in subst (λ l. Kept (opening (0 ∷ 0 ∷ []) l newcomer)) (sym same) (begins c.new.result c.new.ensures)
