use Rattle.std.proofs.Common.{[], ◌∷◌, cond, ap, ◌∙◌}
use Rattle.lsp_frame.specs.Transitions.{fault}
use Rattle.lsp_frame.specs.declared.parse_error.ParseError.TheVariants.{Rest}
use Rattle.lsp_frame.specs.Places.{codec_at}
use Rattle.lsp_frame.proofs.ItemsLeft.{items_left}
use Rattle.lsp_frame.proofs.codec.LanguageServerCodec.finish.Goals as goal

pub returns-then-next-clause-items : goal.returns-then-next-clause-items
returns-then-next-clause-items c =
    let e = c.in_ok-next.ensures in
    let next = c.in_ok-next.next in
    let settings = c.self.inside.settings in
    items_left settings c.args.self.now c.self.inside.state next.state c.as_slice.result.now _ next.item next.unfinished
    (ap (codec_at settings c.self.inside.state) c.as_slice.ensures ∙ c.self.view_is) e.goes e.ends c.requires
    ∙ ap (λ b. cond b (fault Rest ∷ []) []) c.if-next.true

pub returns-clause-items : goal.returns-clause-items
returns-clause-items c =
    let e = c.in_ok-next.ensures in
    let next = c.in_ok-next.next in
    let settings = c.self.inside.settings in
    items_left settings c.args.self.now c.self.inside.state next.state c.as_slice.result.now _ next.item next.unfinished
    (ap (codec_at settings c.self.inside.state) c.as_slice.ensures ∙ c.self.view_is) e.goes e.ends c.requires
    ∙ ap (λ b. cond b (fault Rest ∷ []) []) c.if-next.false
