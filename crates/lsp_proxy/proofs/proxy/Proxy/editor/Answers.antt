-- An editor that isn't gone is known.
use Rattle.std.proofs.Common.{ap, sym, ◌∙◌}
use Rattle.lsp_proxy.specs.Proxy.{is_gone, presence_in}
use Rattle.lsp_proxy.proofs.ProxyLemmas.{known_here}
use Rattle.lsp_proxy.proofs.proxy.Proxy.editor.Goals as goal

pub called-requires : goal.called-requires
called-requires c =
    let here = ap (λ ps. is_gone (presence_in ps c.args.k)) (sym c.deref.ensures.value) ∙ ap is_gone (sym c.presence_of.ensures) ∙ sym c.is_gone.ensures ∙ c.if-is_gone.false in
    record { known = known_here c.args.k c.args.self.now.editors.items here; here = here }
