use Rattle.std.proofs.Common.{ap, ◌∙◌}
use Rattle.lsp_proxy.specs.Entries.{place_of}
use Rattle.lsp_proxy.specs.Tables.{show_asker}
use Rattle.lsp_proxy.proofs.TableLemmas.{found_place}
use Rattle.lsp_proxy.proofs.table.Table.place.Goals as goal

pub returns : goal.returns
returns c = c.oldest.ensures ∙ found_place c.args.asker.now c.self.inside.keyed ∙ ap (place_of (show_asker c.args.asker.now)) c.self.view_is
