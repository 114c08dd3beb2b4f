use Rattle.std.proofs.Common.{◌<◌, ◌-◌, ◌≡◌, suc, subst, sym, length, arith, rules}
use Rattle.lsp_keyed.specs.Items.{IsAbove}
use Rattle.lsp_keyed.proofs.IndexLemmas.{above_last, last_above}
use Rattle.lsp_keyed.proofs.keyed.Keyed.is_above.Goals as goal

pub returns-in-Some : goal.returns-in-Some
returns-in-Some g c =
    let es = c.self.inside.entries.entries in
    let some = c.in-Some.ensures.variant.0 (search rules) in
    let last : suc (length es - 1) ≡ length es = omega (arith, some) in (
      λ less.
          let below : c.in-Some.last.now < c.args.number = search rules in
          subst (IsAbove c.args.number) c.self.view_is (above_last c.args.number (length es - 1) (c.in-Some.last.now, c.in-Some.field-0-1.now) es c.self.invariant.rising last c.in-Some.ensures.last below),
      λ above.
          let below : c.in-Some.last.now < c.args.number = last_above c.args.number (length es - 1) (c.in-Some.last.now, c.in-Some.field-0-1.now) es (subst (IsAbove c.args.number) (sym c.self.view_is) above) c.in-Some.ensures.last in
          search rules,
    )
