-- The piece is on the ring.
use Rattle.std.proofs.Common.{◌≡◌, [], ◌∷◌, ◌++◌, ◌∙◌, ap}
use Rattle.std.proofs.lemmas.List.{append-nil}
use Rattle.rtrb.specs.Ring.{sent}
use Rattle.lsp_pump.specs.Pieces.{piece_items, all_items}
use Rattle.lsp_pump.proofs.PiecesLemmas.{all_items-more}
use Rattle.lsp_pump.proofs.job.send.Goals as goal

pub returns-in-Ok-clause-sent : goal.returns-in-Ok-clause-sent
returns-in-Ok-clause-sent c =
    let inv = c.loop.invariant in
    let now : sent c.push.new.self ≡ sent c.loop.sender ++ c.loop.piece ∷ [] = c.in-Ok.ensures.ok.0 in
    append-nil (all_items (sent c.push.new.self)) ∙ ap all_items now ∙ all_items-more (sent c.loop.sender) c.loop.piece
    ∙ ap (λ l. all_items l ++ piece_items c.loop.piece) inv.0 ∙ ap (λ p. all_items (sent c.args.sender.now) ++ piece_items p) inv.1

pub returns-in-Ok-clause-ring : goal.returns-in-Ok-clause-ring
returns-in-Ok-clause-ring c =
    let r = c.push.ensures.ring in
    let i = c.loop.invariant.2 in
    ((r.0.0 ∙ i.0.0, r.0.1 ∙ i.0.1, r.0.2 ∙ i.0.2, r.0.3 ∙ i.0.3), r.1 ∙ i.1)

pub returns-clause-sent : goal.returns-clause-sent
returns-clause-sent c =
    let inv = c.loop.invariant in
    ap (λ l. all_items l ++ piece_items c.loop.piece) inv.0 ∙ ap (λ p. all_items (sent c.args.sender.now) ++ piece_items p) inv.1
