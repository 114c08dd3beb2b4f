-- Nothing was read for want of memory, or what came of a reading.
use Rattle.std.proofs.Common.{◌∙◌, ap}
use Rattle.lsp_frame.specs.Codec.{told_at}
use Rattle.lsp_pump.proofs.OnwardLemmas.{pumps_nothing}
use Rattle.lsp_pump.proofs.pumping.pump_steps.Goals as goal

pub returns-in_default : goal.returns-in_default
returns-in_default g c = pumps_nothing g.S.Steps.way c.args.rounds c.args.reads c.args.codec (g.I.Source.left c.args.source) (g.I.Source.faults c.args.source) c.args.steps.now c.requires.told c.requires.going

pub serve_after-pumped-requires-clause-stands : goal.serve_after-pumped-requires-clause-stands
serve_after-pumped-requires-clause-stands g c = c.serve_beside-reading.ensures.makes.stands

pub serve_after-pumped-requires-clause-told : goal.serve_after-pumped-requires-clause-told
serve_after-pumped-requires-clause-told g c keeps =
    let h = c.serve_beside-reading.ensures.reading.has in
    ap told_at (h.whole keeps).1 ∙ h.tells.told

pub serve_after-pumped-requires-clause-most : goal.serve_after-pumped-requires-clause-most
serve_after-pumped-requires-clause-most g c = c.serve_beside-reading.ensures.reading.ends.most

pub returns : goal.returns
returns g c = c.serve_after-pumped.ensures _ _ c.serve_beside-reading.ensures.reading c.serve_beside-reading.ensures.makes
