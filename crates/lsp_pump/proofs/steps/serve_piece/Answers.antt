-- One item more, an exit, and an error.
use Rattle.std.proofs.Common.{rules, ◌≡◌, List, [], ◌∷◌, ◌++◌, map, sym, ◌∙◌, ap, append_assoc, subst, true, false}
use Rattle.std.specs.Prelude.{Ok, Err}
use Rattle.lsp_session.specs.Item.{ItemData, show_item}
use Rattle.lsp_pump.specs.Pieces.{piece_items, ItemsAreFloatFree}
use Rattle.lsp_pump.specs.Steps.{MakesSteps}
use Rattle.lsp_pump.proofs.PiecesLemmas.{free_tail}
use Rattle.lsp_pump.proofs.StepsLemmas.{makes_none, makes_more, makes_ended, makes_failed, makes_error}
use Rattle.lsp_pump.proofs.steps.serve_piece.Goals as goal

pub items-init : goal.items-init
items-init g c = record {
  made = ([], search rules, makes_none g.S.Steps.way c.args.rounds c.args.steps.now c.requires.going);
  going = c.requires.going;
  free = search rules;
}

-- the items so far, this one and those after it are all of the piece
split_on : (first all : List ItemData) (x : ItemData) (rest here : List ItemData) → here ≡ x ∷ rest → first ++ here ≡ all → (first ++ x ∷ []) ++ rest ≡ all
split_on first all x rest here one is = append_assoc first (x ∷ []) rest ∙ ap (λ l. first ++ l) (sym one) ∙ is

pub items-preserved : goal.items-preserved
items-preserved g c =
    let way = g.S.Steps.way in
    let inv = c.items.invariant in
    let x = show_item c.in-Some.item in
    let rest = map show_item c.pop_front.new.self.items in
    let here : map show_item c.items.rest.items ≡ x ∷ rest = ap (map show_item) c.in-Some.ensures.items in
    let makes : MakesSteps way c.args.rounds c.items.steps (x ∷ []) (Ok false) c.make_step.new.self = rw c.if-branch.false at c.in_ok-make_step.ensures in
    record {
      made = (
        inv.made.0 ++ x ∷ [],
        split_on inv.made.0 (piece_items c.args.piece) x rest _ here inv.made.1,
        makes_more way c.args.rounds c.args.steps.now c.items.steps c.make_step.new.self inv.made.0 (x ∷ []) (Ok false) inv.made.2 makes,
      );
      going = makes.stands;
      free = free_tail x rest (subst ItemsAreFloatFree here inv.free);
    }

pub returns-in_err-make_step : goal.returns-in_err-make_step
returns-in_err-make_step g c =
    let way = g.S.Steps.way in
    let inv = c.items.invariant in
    let x = show_item c.in-Some.item in
    let rest = map show_item c.pop_front.new.self.items in
    let whole = split_on inv.made.0 (piece_items c.args.piece) x rest (map show_item c.items.rest.items) (ap (map show_item) c.in-Some.ensures.items) inv.made.1 in
    let a = c.args.steps.now in
    let b = c.make_step.new.self in
    let e = c.in_err-make_step.field-0.0 in
    makes_error way c.args.rounds a b (piece_items c.args.piece) e c.from_residual.result c.from_residual.ensures.1
    (subst (λ (l : List ItemData). MakesSteps way c.args.rounds a l (Err e) b) whole
    (makes_failed way c.args.rounds a b (inv.made.0 ++ x ∷ []) rest e
    (makes_more way c.args.rounds a c.items.steps b inv.made.0 (x ∷ []) (Err e) inv.made.2 c.in_err-make_step.ensures)))

pub returns-then-branch : goal.returns-then-branch
returns-then-branch g c =
    let way = g.S.Steps.way in
    let inv = c.items.invariant in
    let x = show_item c.in-Some.item in
    let rest = map show_item c.pop_front.new.self.items in
    let whole = split_on inv.made.0 (piece_items c.args.piece) x rest (map show_item c.items.rest.items) (ap (map show_item) c.in-Some.ensures.items) inv.made.1 in
    let a = c.args.steps.now in
    let b = c.make_step.new.self in
    subst (λ (l : List ItemData). MakesSteps way c.args.rounds a l (Ok true) b) whole
    (makes_ended way c.args.rounds a b (inv.made.0 ++ x ∷ []) rest
    (makes_more way c.args.rounds a c.items.steps b inv.made.0 (x ∷ []) (Ok true) inv.made.2 (rw c.if-branch.true at c.in_ok-make_step.ensures)))
