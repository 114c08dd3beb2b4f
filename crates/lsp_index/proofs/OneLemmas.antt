-- A query has one answer over a dump.
use Rattle.std.proofs.Common.{◌≡◌, ◌≤◌, ◌+◌, ◌++◌, ◌∷◌, ℕ, zero, suc, List, [], map, Option, Some, None, refl, sym, ◌∙◌, ap, subst, fold, arith}
use Rattle.lsp_rpc.specs.Message.{IdData}
use Rattle.lsp_base.specs.declared.position.Range.{Range}
use Rattle.lsp_index.specs.declared.query.Request.{Request}
use Rattle.lsp_index.specs.declared.query.Request.TheVariants.{Definition, References, Hover}
use Rattle.lsp_index.specs.Graph.{Graph, at_id, graph_of}
use Rattle.lsp_index.specs.Queries.{QueryData, own_or_next, reached_within, IsReached, IsReachedFrom, locations_text, with_places, IsListed, IsHover, IsAnswerFrom, IsAnswer, chosen_at}
use Rattle.lsp_index.specs.Entries.{entry_data}
use Rattle.lsp_index.specs.Answered.{OneAnswer}
use Rattle.lsp_index.proofs.SetLemmas.{results_only}
use Rattle.lsp_index.proofs.PlainLemmas.{same_entries}

-- what is reached is reached over more edges too
reached_more : (n m : ℕ) (g : Graph) (v r : IdData) → n ≤ m → reached_within n g v ≡ Some r → reached_within m g v ≡ Some r
reached_more zero m g v r le e = absurd (cc)
reached_more (suc n) zero g v r le e = absurd (omega arith)
reached_more (suc n) (suc m) g v r le e = go (at_id g.results v) (at_id g.nexts v) (λ w. reached_more n m g w r (omega (arith, le))) e
  where
    go : (own next : Option IdData) → ((w : IdData) → reached_within n g w ≡ Some r → reached_within m g w ≡ Some r)
        → own_or_next own next (λ w. reached_within n g w) ≡ Some r → own_or_next own next (λ w. reached_within m g w) ≡ Some r
    go (Some s) next more e = e
    go None None more e = e
    go None (Some w) more e = more w e

reached_one : (g : Graph) (v : IdData) (a b : Option IdData) → IsReached g v a → IsReached g v b → a ≡ b
reached_one g v None None p q = refl
reached_one g v None (Some s) p q = sym (p q.0) ∙ q.1
reached_one g v (Some r) None p q = sym p.1 ∙ q p.0
reached_one g v (Some r) (Some s) p q = sym (reached_more p.0 (p.0 + q.0) g v r (omega arith) p.1) ∙ reached_more q.0 (p.0 + q.0) g v s (omega arith) q.1

reached_from_one : (g : Graph) (c : Option (IdData × Range)) (a b : Option IdData) → IsReachedFrom g c a → IsReachedFrom g c b → a ≡ b
reached_from_one g None a b p q = p ∙ sym q
reached_from_one g (Some c) a b p q = reached_one g c.0 a b p q

listed_one : (g : Graph) (r : Option IdData) (text other : List ℕ) → IsListed g r text → IsListed g r other → text ≡ other
listed_one g None text other p q = p ∙ sym q
listed_one g (Some r) text other p q = p.2 ∙ ap (λ rs. locations_text (fold (with_places g) [] rs)) (results_only g r p.0 q.0 p.1 q.1) ∙ sym q.2

hover_one : (g : Graph) (r : Option IdData) (text other : List ℕ) → IsHover g r text → IsHover g r other → text ≡ other
hover_one g None text other p q = p ∙ sym q
hover_one g (Some r) text other p q = p ∙ sym q

answer_one : (request : Request) (g : Graph) (r : Option IdData) (text other : List ℕ) → IsAnswerFrom request g r text → IsAnswerFrom request g r other → text ≡ other
answer_one Definition g r text other p q = listed_one g r text other p q
answer_one References g r text other p q = listed_one g r text other p q
answer_one Hover g r text other p q = hover_one g r text other p q

text_one : (q : QueryData) (g : Graph) (text other : List ℕ) → IsAnswer q g text → IsAnswer q g other → text ≡ other
text_one q g text other p r =
    let same = reached_from_one g (chosen_at g q.uri q.position) r.reached p.reached r.reaches p.reaches in
    answer_one q.request g p.reached text other p.answers (subst (λ o. IsAnswerFrom q.request g o other) same r.answers)

pub one_answer_lem : OneAnswer
one_answer_lem q bytes line other p r =
    let same = same_entries q.request r.es p.es (sym r.entries ∙ p.entries) in
    let text = text_one q (graph_of (map (entry_data q.request) p.es)) p.text r.text p.answers (subst (λ es. IsAnswer q (graph_of es) r.text) same r.answers) in
    p.line_is ∙ ap (λ t. t ++ 10 ∷ []) text ∙ sym r.line_is
