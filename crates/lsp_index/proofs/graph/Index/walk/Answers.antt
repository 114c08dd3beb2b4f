-- Where the walk ends, and how it goes on.
use Rattle.std.proofs.Common.{◌≡◌, ◌+◌, ◌∙◌, sym, ap, subst, length, arith}
use Rattle.std.specs.Prelude.{Some, None, option_map}
use Rattle.std.specs.Borrow.{Bor}
use Rattle.std.proofs.lemmas.List.{length-map}
use Rattle.lsp_rpc.specs.Message.{IdData}
use Rattle.lsp_rpc.specs.Shown.{show_id}
use Rattle.lsp_rpc.specs.declared.id.Id.{Id}
use Rattle.lsp_index.specs.Graph.{Graph, at_id}
use Rattle.lsp_index.specs.Kept.{IsKept}
use Rattle.lsp_index.specs.Shown.{show_link}
use Rattle.lsp_index.specs.declared.graph.Index.{Index}
use Rattle.lsp_index.proofs.ReachLemmas.{Walk, walk_start, reached_own, reached_none, reached_last, reached_round, walk_on}
use Rattle.lsp_index.proofs.ValueLemmas.{reached_from_some, reached_from_none}
use Rattle.lsp_index.proofs.graph.Index.walk.Goals as goal
use Rattle.lsp_index.proofs.graph.Index.walk.Goals.{then-i-eq0, else-i-eq0}

-- as many edges as the graph has
all_kept : (g : Graph) (index : Index) → IsKept g index → length index.nexts.entries ≡ length g.nexts
all_kept g index kept = sym (length-map index.nexts.entries show_link) ∙ ap length kept.nexts

some_same : (a b : IdData) → Some a ≡ Some b → a ≡ b
some_same a b e = cc

pub returns-in_default : goal.returns-in_default
returns-in_default c = rw c.in_default.is (λ g kept chosen is. reached_from_none g chosen is)

pub loop-i-init : goal.loop-i-init
loop-i-init c = λ g kept start is.
    let from = show_id c.in-Some.vertex.now in
    (subst (λ v. Walk g v 0 from) (some_same from start (rw c.in-Some.is at is)) (walk_start g from), (0, walk_start g from))

pub returns-in-Some-target : goal.returns-in-Some-target
returns-in-Some-target c = λ g kept chosen is.
    let start = show_id c.in-Some.vertex.now in
    let at = show_id c.loop-i.vertex.now in
    let so_far = c.loop-i.invariant g kept start (ap (option_map (λ (id : Bor Id). show_id id.now)) c.in-Some.is) in
    reached_from_some g chosen start (Some (show_id c.in-Some-target.result.now)) (rw c.in-Some.is at is)
    (reached_own g start at c.loop-i.i so_far.0 (show_id c.in-Some-target.result.now)
    (ap (λ l. at_id l at) (sym kept.results) ∙ sym (rw c.in-Some-target.is at c.target.ensures)))

pub returns-in-None-target : goal.returns-in-None-target
returns-in-None-target c = λ g kept chosen is.
    let start = show_id c.in-Some.vertex.now in
    let at = show_id c.loop-i.vertex.now in
    let so_far = c.loop-i.invariant g kept start (ap (option_map (λ (id : Bor Id). show_id id.now)) c.in-Some.is) in
    reached_from_some g chosen start None (rw c.in-Some.is at is)
    (reached_none g start at c.loop-i.i so_far.0
    (omega (arith, c.loop-i-test.true, c.len-i-end.ensures.len, all_kept g c.args.self.now kept))
    (ap (λ l. at_id l at) (sym kept.results) ∙ sym (rw c.in-None.is at c.target.ensures))
    (ap (λ l. at_id l at) (sym kept.nexts) ∙ sym (rw c.in-None-target.is at c.target-in-loop-i.ensures)))

pub returns-then-eq : goal.returns-then-eq
returns-then-eq c = λ g kept chosen is.
    let start = show_id c.in-Some.vertex.now in
    let at = show_id c.loop-i.vertex.now in
    let next = show_id c.in-Some-target-2.next.now in
    let so_far = c.loop-i.invariant g kept start (ap (option_map (λ (id : Bor Id). show_id id.now)) c.in-Some.is) in
    let none = ap (λ l. at_id l at) (sym kept.results) ∙ sym (rw c.in-None.is at c.target.ensures) in
    let leads = ap (λ l. at_id l at) (sym kept.nexts) ∙ sym (rw c.in-Some-target-2.is at c.target-in-loop-i.ensures) in
    reached_from_some g chosen start None (rw c.in-Some.is at is)
    (reached_round g start next (c.loop-i.i + 1) (walk_on g start at c.loop-i.i so_far.0 next none leads) (show_id c.loop-i.before.now) so_far.1.0
    (walk_on g (show_id c.loop-i.before.now) at so_far.1.0 so_far.1.1 next none leads) (sym c.eq.ensures ∙ c.if-eq.true))

pub loop-i-preserved : goal.loop-i-preserved
loop-i-preserved c = λ g kept start is.
    let at = show_id c.loop-i.vertex.now in
    let next = show_id c.in-Some-target-2.next.now in
    let so_far = c.loop-i.invariant g kept start is in
    let none = ap (λ l. at_id l at) (sym kept.results) ∙ sym (rw c.in-None.is at c.target.ensures) in
    let leads = ap (λ l. at_id l at) (sym kept.nexts) ∙ sym (rw c.in-Some-target-2.is at c.target-in-loop-i.ensures) in (
      walk_on g start at c.loop-i.i so_far.0 next none leads,
      elim c.if-i-eq0.branch [
        | then-i-eq0 w ↦ (0, subst (λ (b : Bor Id). Walk g (show_id b.now) 0 next) (sym w.before-is) (walk_start g next))
        | else-i-eq0 w ↦ (
          so_far.1.0 + 1,
          subst (λ (b : Bor Id). Walk g (show_id b.now) (so_far.1.0 + 1) next) (sym w.before-is)
              (walk_on g (show_id c.loop-i.before.now) at so_far.1.0 so_far.1.1 next none leads),
        )
      ],
    )

pub returns : goal.returns
returns c = λ g kept chosen is.
    let start = show_id c.in-Some.vertex.now in
    let at = show_id c.loop-i.vertex.now in
    let so_far = c.loop-i.invariant g kept start (ap (option_map (λ (id : Bor Id). show_id id.now)) c.in-Some.is) in
    let result = option_map (λ (id : Bor Id). show_id id.now) c.target-2.result in
    reached_from_some g chosen start result (rw c.in-Some.is at is)
    (reached_last g start at c.loop-i.i so_far.0 result
    (omega (arith, c.loop-i-test.false, c.loop-i.auto.i-end, c.len-i-end.ensures.len, all_kept g c.args.self.now kept))
    (ap (λ l. at_id l at) (sym kept.results) ∙ sym c.target-2.ensures))
