-- The method stands behind the standard ones and the custom ones before it.
use Rattle.std.proofs.Common.{◌≤◌, ◌+◌, ℕ, length, drop, arith, ◌≡◌, ◌∙◌, ap}
use Rattle.lsp_session.specs.TableView.{methods_of}
use Rattle.lsp_methods.specs.Standard.{standard_count}
use Rattle.lsp_methods.specs.ServiceTable.{customs_of}
use Rattle.lsp_methods.proofs.TableLemmas.{registers, one_more, custom_place}
use Rattle.lsp_methods.proofs.table.ServiceTable.custom.Goals as goal

pub invariant_of-self : goal.invariant_of-self
invariant_of-self c = record { standard_first = registers c.method.result (methods_of c.args.self.now.table) (methods_of c.method.new.self) _ c.args.self.now.standard_first c.method.ensures.ok c.method.ensures.err }

pub overflow_sub-result : goal.overflow_sub-result
overflow_sub-result c =
    let at : c.in_ok-place.place ≡ standard_count + length (customs_of c.args.self.now) = c.in_ok-place.ensures.place ∙ custom_place (methods_of c.args.self.now.table) c.args.self.now.standard_first in
    omega arith

pub returns-clause-number : goal.returns-clause-number
returns-clause-number c =
    let at : c.in_ok-place.place ≡ standard_count + length (customs_of c.args.self.now) = c.in_ok-place.ensures.place ∙ custom_place (methods_of c.args.self.now.table) c.args.self.now.standard_first in
    omega arith

pub returns-clause-ok : goal.returns-clause-ok
returns-clause-ok c = (one_more (methods_of c.args.self.now.table) (methods_of c.method.new.self) _ c.args.self.now.standard_first c.in_ok-place.ensures.ok).1
