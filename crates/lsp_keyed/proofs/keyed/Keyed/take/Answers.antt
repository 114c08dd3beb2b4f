-- The entry at the key's oldest number, if there is one.
use Rattle.std.proofs.Common.{◌≡◌, ap, sym, ◌∙◌, subst, rules}
use Rattle.std.specs.Prelude.{option_map, None, Some}
use Rattle.std.specs.HashMap.{get}
use Rattle.std.specs.List.{find}
use Rattle.lsp_keyed.specs.Items.{has_number}
use Rattle.lsp_keyed.specs.Index.{listed, first, numbers_of, IsIndexed}
use Rattle.lsp_keyed.proofs.IndexLemmas.{none_found, rest_none, found_at, rest_at, second}
use Rattle.lsp_keyed.proofs.keyed.Keyed.take.Goals as goal

pub returns-in_err-number-clause-value : goal.returns-in_err-number-clause-value
returns-in_err-number-clause-value g c =
    let es = c.args.self.now in
    let test = g.K.PartialEq.eq c.args.key.now in
    let was : IsIndexed g.K.PartialEq.eq es c.self.inside.numbers = subst (λ l. IsIndexed g.K.PartialEq.eq l c.self.inside.numbers) c.self.view_is c.self.invariant in
    let at : get g.K.PartialEq.eq c.self.inside.numbers c.args.key.now ≡ None = search rules in
    let none : first (numbers_of test es) ≡ None = ap first (sym (was.found c.args.key.now) ∙ ap listed at) in
    let is : c.from_residual.result ≡ None = search rules in
    is ∙ sym (ap (option_map (λ e. e.1.1)) (none_found test es none))

pub returns-in_err-number-clause-rest : goal.returns-in_err-number-clause-rest
returns-in_err-number-clause-rest g c =
    let es = c.args.self.now in
    let test = g.K.PartialEq.eq c.args.key.now in
    let was : IsIndexed g.K.PartialEq.eq es c.self.inside.numbers = subst (λ l. IsIndexed g.K.PartialEq.eq l c.self.inside.numbers) c.self.view_is c.self.invariant in
    let at : get g.K.PartialEq.eq c.self.inside.numbers c.args.key.now ≡ None = search rules in
    let none : first (numbers_of test es) ≡ None = ap first (sym (was.found c.args.key.now) ∙ ap listed at) in
    rest_none test es none

pub returns-clause-value : goal.returns-clause-value
returns-clause-value g c =
    let es = c.args.self.now in
    let test = g.K.PartialEq.eq c.args.key.now in
    let number = c.in_ok-number.field-0.now.oldest in
    let was : IsIndexed g.K.PartialEq.eq es c.self.inside.numbers = subst (λ l. IsIndexed g.K.PartialEq.eq l c.self.inside.numbers) c.self.view_is c.self.invariant in
    let found : get g.K.PartialEq.eq c.self.inside.numbers c.args.key.now ≡ Some c.in_ok-number.field-0.now = search rules in
    let at : first (numbers_of test es) ≡ Some number = ap first (sym (was.found c.args.key.now) ∙ ap listed found) in
    let is : c.map.result ≡ option_map (λ x. x.1) (option_map (λ e. e.1) (find (has_number number) es)) = search rules in
    is ∙ second (find (has_number number) es) ∙ ap (option_map (λ e. e.1.1)) (found_at test number es was.rising at)

pub returns-clause-rest : goal.returns-clause-rest
returns-clause-rest g c =
    let es = c.args.self.now in
    let test = g.K.PartialEq.eq c.args.key.now in
    let number = c.in_ok-number.field-0.now.oldest in
    let was : IsIndexed g.K.PartialEq.eq es c.self.inside.numbers = subst (λ l. IsIndexed g.K.PartialEq.eq l c.self.inside.numbers) c.self.view_is c.self.invariant in
    let found : get g.K.PartialEq.eq c.self.inside.numbers c.args.key.now ≡ Some c.in_ok-number.field-0.now = search rules in
    let at : first (numbers_of test es) ≡ Some number = ap first (sym (was.found c.args.key.now) ∙ ap listed found) in
    c.remove.ensures.rest ∙ rest_at test number es was.rising at
