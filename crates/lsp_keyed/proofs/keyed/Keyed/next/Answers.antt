use Rattle.std.proofs.Common.{◌<◌, ◌+◌, ◌-◌, ◌^◌, ◌≡◌, ℕ, true, suc, subst, sym, length, arith, rules}
use Rattle.std.specs.Prelude.{SomeIff}
use Rattle.std.specs.List.{list_any}
use Rattle.lsp_keyed.specs.Items.{IsAbove, has_number, next_number}
use Rattle.lsp_keyed.proofs.IndexLemmas.{above_last, last_number, next_last, next_above, next_none}
use Rattle.lsp_keyed.proofs.keyed.Keyed.next.Goals as goal

pub returns-in-Some-clause-follows : goal.returns-in-Some-clause-follows
returns-in-Some-clause-follows g c =
    let es = c.self.inside.entries.entries in
    let some = c.in-Some.ensures.variant.0 (search rules) in
    let last : suc (length es - 1) ≡ length es = omega (arith, some) in
    let follows : next_number es ≡ c.in-Some.last.now + 1 = next_last (length es - 1) (c.in-Some.last.now, c.in-Some.field-0-1.now) es last c.in-Some.ensures.last in
    subst (λ l. SomeIff c.checked_add.result (next_number l < 2 ^ 64) (next_number l)) c.self.view_is
    (subst (λ (n : ℕ). SomeIff c.checked_add.result (n < 2 ^ 64) n) (sym follows) c.checked_add.ensures)

pub returns-in-Some-clause-above : goal.returns-in-Some-clause-above
returns-in-Some-clause-above g c =
    let es = c.self.inside.entries.entries in
    let some = c.in-Some.ensures.variant.0 (search rules) in
    let last : suc (length es - 1) ≡ length es = omega (arith, some) in
    next_above c.in-Some.last.now c.checked_add.result (λ n. IsAbove n c.args.self.now) c.checked_add.ensures
    (subst (IsAbove (c.in-Some.last.now + 1)) c.self.view_is
    (above_last (c.in-Some.last.now + 1) (length es - 1) (c.in-Some.last.now, c.in-Some.field-0-1.now) es c.self.invariant.rising last c.in-Some.ensures.last (omega arith)))

pub returns-in-Some-clause-none : goal.returns-in-Some-clause-none
returns-in-Some-clause-none g c = λ none.
    let es = c.self.inside.entries.entries in
    let is : c.in-Some.last.now ≡ 2 ^ 64 - 1 = next_none c.in-Some.last.now c.checked_add.result (search rules) c.checked_add.ensures none in
    subst (λ l. list_any (has_number (2 ^ 64 - 1)) l ≡ true) c.self.view_is
    (subst (λ n. list_any (has_number n) es ≡ true) is (last_number (length es - 1) (c.in-Some.last.now, c.in-Some.field-0-1.now) es c.in-Some.ensures.last))
