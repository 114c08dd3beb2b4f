use Rattle.std.proofs.Common.{ap, sym, ◌∙◌, option_map}
use Rattle.lsp_proxy.specs.Entries.{asker_at}
use Rattle.lsp_proxy.specs.Tables.{show_asker}
use Rattle.lsp_proxy.proofs.TableLemmas.{shown_lent, found_asker}
use Rattle.lsp_proxy.proofs.table.Table.asker.Goals as goal

pub returns-in-Some : goal.returns-in-Some
returns-in-Some c =
    ap (option_map (λ e. show_asker e.now.0)) (sym c.in-Some.is) ∙ shown_lent c.get.result ∙ ap (option_map (λ x. show_asker x.0)) c.get.ensures
    ∙ found_asker c.args.n c.self.inside.keyed ∙ ap (asker_at c.args.n) c.self.view_is

pub returns-in-None : goal.returns-in-None
returns-in-None c =
    ap (option_map (λ e. show_asker e.now.0)) (sym c.in-None.is) ∙ shown_lent c.get.result ∙ ap (option_map (λ x. show_asker x.0)) c.get.ensures
    ∙ found_asker c.args.n c.self.inside.keyed ∙ ap (asker_at c.args.n) c.self.view_is
