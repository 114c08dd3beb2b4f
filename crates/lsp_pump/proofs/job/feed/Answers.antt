-- One item more.
use Rattle.std.proofs.Common.{rules, arith, ◌≡◌, ◌<◌, [], ◌∷◌, ◌++◌, sym, ◌∙◌, ap, subst, length, map}
use Rattle.std.proofs.lemmas.List.{map-append}
use Rattle.lsp_frame.specs.Codec.{Item as CodecItem, At, more, told_at}
use Rattle.lsp_session.specs.Item.{show_item}
use Rattle.lsp_server.specs.Items.{admitted, all_admitted, Decodes}
use Rattle.lsp_server.proofs.CodecLemmas.{decodes_nothing, decodes_more, next_found, told_now}
use Rattle.lsp_pump.specs.Pieces.{piece_items, ItemsAreFloatFree}
use Rattle.lsp_pump.proofs.PiecesLemmas.{free_more}
use Rattle.lsp_pump.proofs.job.feed.Goals as goal

pub items-init : goal.items-init
items-init c =
    let fed = more c.args.codec.now c.args.bytes.now in
    record {
      given = ([], search rules, subst (λ k. Decodes fed [] k) (sym c.in_ok-feed.ensures.ok) (decodes_nothing fed));
      free = search rules;
    }

-- what is told next gets fewer
fewer : (old new : At) (item : CodecItem) → Decodes old (item ∷ []) new → length (told_at new) < length (told_at old)
fewer old new item decodes = let told = ap length (told_now old new (item ∷ []) decodes) in omega (arith, told)

pub items-smaller : goal.items-smaller
items-smaller c =
    let found = next_found c.items.codec c.next_item.new.codec (show_item c.in-Some.item) (rw c.in-Some.is at c.in_ok-item.ensures.next) in
    fewer c.items.codec c.next_item.new.codec found.0 found.2

pub items-preserved : goal.items-preserved
items-preserved c =
    let inv = c.items.invariant in
    let x = show_item c.in-Some.item in
    let found = next_found c.items.codec c.next_item.new.codec x (rw c.in-Some.is at c.in_ok-item.ensures.next) in
    let pushed : piece_items c.push.new.self ≡ piece_items c.items.piece ++ x ∷ [] = ap (map show_item) c.in_ok-push.ensures.items ∙ map-append show_item c.items.piece.items (c.in-Some.item ∷ []) in
    record {
      given = (
        inv.given.0 ++ found.0 ∷ [],
        pushed ∙ ap (λ l. l ++ x ∷ []) inv.given.1 ∙ ap (λ y. all_admitted inv.given.0 ++ y ∷ []) found.1 ∙ sym (map-append admitted inv.given.0 (found.0 ∷ [])),
        decodes_more (more c.args.codec.now c.args.bytes.now) c.items.codec c.next_item.new.codec inv.given.0 (found.0 ∷ []) inv.given.2 found.2,
      );
      free = subst ItemsAreFloatFree (sym pushed) (free_more (piece_items c.items.piece) x inv.free (rw c.in-Some.is at c.in_ok-item.ensures.float_free));
    }
