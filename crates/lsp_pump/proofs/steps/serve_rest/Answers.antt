-- One piece more, an exit, an error, and the piece that the ring did not take.
use Rattle.std.proofs.Common.{rules, ◌≡◌, List, [], ◌++◌, length, refl, sym, ◌∙◌, ap, append_assoc, subst, true, false}
use Rattle.std.specs.Prelude.{Ok, Err, Option}
use Rattle.std.specs.Global.{Vec}
use Rattle.std.proofs.lemmas.List.{append-nil}
use Rattle.rtrb.specs.Ring.{known_items}
use Rattle.lsp_session.specs.declared.item.Item.{Item}
use Rattle.lsp_session.specs.Item.{ItemData}
use Rattle.lsp_pump.specs.Pieces.{piece_items, all_items, back_items, ItemsAreFloatFree}
use Rattle.lsp_pump.specs.Steps.{MakesSteps}
use Rattle.lsp_pump.proofs.PiecesLemmas.{none_left}
use Rattle.lsp_pump.proofs.StepsLemmas.{makes_none, makes_more, makes_ended, makes_failed, makes_error}
use Rattle.lsp_pump.proofs.steps.serve_rest.Goals as goal

-- the items so far, those of this piece and those after it are all
split_on : (first all piece rest known back : List ItemData) → known ≡ piece ++ rest → first ++ known ≡ all → (first ++ piece) ++ (rest ++ back) ≡ all ++ back
split_on first all piece rest known back is whole =
    sym (append_assoc (first ++ piece) rest back) ∙ ap (λ l. l ++ back) (append_assoc first piece rest ∙ ap (λ l. first ++ l) (sym is) ∙ whole)

pub pieces-init : goal.pieces-init
pieces-init g c = record {
  made = ([], refl, makes_none g.S.Steps.way c.args.rounds c.args.steps.now c.requires.going);
  kept = refl;
  going = c.requires.going;
}

pub pieces-preserved : goal.pieces-preserved
pieces-preserved g c =
    let way = g.S.Steps.way in
    let inv = c.pieces.invariant in
    let piece = piece_items c.pop_known-piece.result in
    let rest = all_items (known_items c.pop_known-piece.new.self) in
    let d = c.serve_piece.new.steps in
    let makes : MakesSteps way c.args.rounds c.pieces.steps piece (Ok false) d = rw c.if-branch.false at c.in_ok-serve_piece.ensures in
    record {
      made = (
        inv.made.0 ++ piece,
        append_assoc inv.made.0 piece rest ∙ ap (λ l. inv.made.0 ++ l) (sym (ap all_items c.pop_known-piece.ensures.received.1)) ∙ inv.made.1,
        makes_more way c.args.rounds c.args.steps.now c.pieces.steps d inv.made.0 piece (Ok false) inv.made.2 makes,
      );
      kept = inv.kept;
      going = makes.stands;
    }

pub returns-in_err-serve_piece : goal.returns-in_err-serve_piece
returns-in_err-serve_piece g c =
    let way = g.S.Steps.way in
    let inv = c.pieces.invariant in
    let back = back_items c.args.back in
    let piece = piece_items c.pop_known-piece.result in
    let rest = all_items (known_items c.pop_known-piece.new.self) in
    let a = c.args.steps.now in
    let d = c.serve_piece.new.steps in
    let e = c.in_err-serve_piece.field-0.0 in
    let known = all_items (known_items c.args.pieces.now) in
    makes_error way c.args.rounds a d (known ++ back) e c.from_residual.result c.from_residual.ensures.1
    (subst (λ (l : List ItemData). MakesSteps way c.args.rounds a l (Err e) d)
    (split_on inv.made.0 known piece rest (all_items (known_items c.pieces.pieces)) back (ap all_items c.pop_known-piece.ensures.received.1) inv.made.1)
    (makes_failed way c.args.rounds a d (inv.made.0 ++ piece) (rest ++ back) e (makes_more way c.args.rounds a c.pieces.steps d inv.made.0 piece (Err e) inv.made.2 c.in_err-serve_piece.ensures)))

pub returns-then-branch : goal.returns-then-branch
returns-then-branch g c =
    let way = g.S.Steps.way in
    let inv = c.pieces.invariant in
    let back = back_items c.args.back in
    let piece = piece_items c.pop_known-piece.result in
    let rest = all_items (known_items c.pop_known-piece.new.self) in
    let a = c.args.steps.now in
    let d = c.serve_piece.new.steps in
    subst (λ (l : List ItemData). MakesSteps way c.args.rounds a l (Ok true) d)
    (split_on inv.made.0 (all_items (known_items c.args.pieces.now)) piece rest (all_items (known_items c.pieces.pieces)) back (ap all_items c.pop_known-piece.ensures.received.1) inv.made.1)
    (makes_ended way c.args.rounds a d (inv.made.0 ++ piece) (rest ++ back) (makes_more way c.args.rounds a c.pieces.steps d inv.made.0 piece (Ok true) inv.made.2 (rw c.if-branch.true at c.in_ok-serve_piece.ensures)))

-- ---- the piece that the ring did not take

pub serve_piece-requires-in-Some-clause-float_free : goal.serve_piece-requires-in-Some-clause-float_free
serve_piece-requires-in-Some-clause-float_free g c = subst (λ (o : Option (Vec Item)). ItemsAreFloatFree (back_items o)) (sym c.pieces.invariant.kept ∙ c.in-Some.is) c.requires.float_free

pub returns-in-Some : goal.returns-in-Some
returns-in-Some g c =
    let way = g.S.Steps.way in
    let inv = c.pieces.invariant in
    let a = c.args.steps.now in
    let none : length (known_items c.pieces.pieces) ≡ 0 = search rules in
    let whole : inv.made.0 ≡ all_items (known_items c.args.pieces.now) =
    sym (append-nil inv.made.0) ∙ ap (λ l. inv.made.0 ++ l) (sym (none_left (known_items c.pieces.pieces) none)) ∙ inv.made.1 in
    subst (λ (l : List ItemData). MakesSteps way c.args.rounds a l c.serve_piece-in-Some.result c.serve_piece-in-Some.new.steps)
    (ap (λ l. l ++ piece_items c.in-Some.piece) whole ∙ ap (λ o. all_items (known_items c.args.pieces.now) ++ back_items o) (sym c.in-Some.is ∙ inv.kept))
    (makes_more way c.args.rounds a c.pieces.steps c.serve_piece-in-Some.new.steps inv.made.0 (piece_items c.in-Some.piece) c.serve_piece-in-Some.result inv.made.2 c.serve_piece-in-Some.ensures)

pub returns-in-None : goal.returns-in-None
returns-in-None g c =
    let way = g.S.Steps.way in
    let inv = c.pieces.invariant in
    let none : length (known_items c.pieces.pieces) ≡ 0 = search rules in
    let whole : inv.made.0 ≡ all_items (known_items c.args.pieces.now) =
    sym (append-nil inv.made.0) ∙ ap (λ l. inv.made.0 ++ l) (sym (none_left (known_items c.pieces.pieces) none)) ∙ inv.made.1 in
    subst (λ (l : List ItemData). MakesSteps way c.args.rounds c.args.steps.now l (Ok false) c.pieces.steps)
    (whole ∙ sym (append-nil (all_items (known_items c.args.pieces.now))) ∙ ap (λ o. all_items (known_items c.args.pieces.now) ++ back_items o) (sym c.in-None.is ∙ inv.kept)) inv.made.2
