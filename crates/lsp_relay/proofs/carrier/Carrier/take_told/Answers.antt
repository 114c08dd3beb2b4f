-- One item more, until there is none.
use Rattle.std.specs.Prelude.{Result, Ok, Err, OnErr}
use Rattle.lsp_relay.specs.Shown.{show_carrier}
use Rattle.lsp_relay.proofs.TookLemmas.{told_start, told_more, told_before}
use Rattle.lsp_relay.proofs.carrier.Carrier.take_told.Goals as goal

on_err : {T E Q : Type 0} (r : Result T E) → Q → OnErr r Q
on_err (Ok x) q = tt
on_err (Err e) q = q

pub items-init : goal.items-init
items-init c =
    let old = c.args.self.now in
    told_start (show_carrier old) c.args.codec.now (record { passed = old.passed_fits; dropped = old.dropped_fits })

pub items-preserved : goal.items-preserved
items-preserved c = told_more _ _ _ _ _ _ c.items.invariant c.in_ok-take_next.ensures.took

pub returns-clause-took : goal.returns-clause-took
returns-clause-took c = told_more _ _ _ _ _ _ c.items.invariant c.in_ok-take_next.ensures.took

pub returns-in_err-take_next-clause-memory : goal.returns-in_err-take_next-clause-memory
returns-in_err-take_next-clause-memory c =
    on_err c.from_residual.result
    (told_before (show_carrier c.args.self.now) c.args.codec.now (show_carrier c.items.self) c.items.codec c.items.invariant c.in_err-take_next.ensures.memory)
