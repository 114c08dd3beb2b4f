-- What stands under the id.
use Rattle.std.proofs.Common.{◌∙◌, sym}
use Rattle.lsp_rpc.specs.Shown.{show_id}
use Rattle.lsp_index.proofs.TableLemmas.{lookup-shown, shown_of}
use Rattle.lsp_index.proofs.search.target.Goals as goal

pub returns : goal.returns
returns c = shown_of c.get.result _ c.get.ensures.value ∙ sym (lookup-shown show_id c.args.from.now c.args.links.now.entries)
