-- Where no value stands under the id, the new one goes last.
use Rattle.std.proofs.Common.{◌≡◌, ◌∙◌, sym, false, is_some}
use Rattle.std.specs.Map.{lookup}
use Rattle.lsp_index.specs.Kept.{same_key}
use Rattle.lsp_index.proofs.TableLemmas.{put_absent}
use Rattle.lsp_index.proofs.table.put_first.Goals as goal

pub returns-in_ok-insert : goal.returns-in_ok-insert
returns-in_ok-insert g c =
    let absent : is_some (lookup (same_key c.args.id) c.args.table.now.entries) ≡ false = sym c.contains_key.ensures ∙ c.if-not-contains_key.true in
    put_absent same_key c.args.id c.args.value c.args.table.now.entries c.insert.new.self.entries absent c.in_ok-insert.ensures.entries
