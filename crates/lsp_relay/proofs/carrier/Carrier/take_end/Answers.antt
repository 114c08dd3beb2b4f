-- The fault of an input that ends inside a frame, or none.
use Rattle.std.proofs.Common.{◌≡◌, [], ◌∷◌, refl, sym, ap}
use Rattle.lsp_frame.specs.Codec.{fault, items_at}
use Rattle.lsp_relay.specs.Relay.{events}
use Rattle.lsp_relay.specs.Shown.{show_carrier}
use Rattle.lsp_relay.proofs.TookLemmas.{counted_none, took_none, took_same, took_dropped}
use Rattle.lsp_relay.proofs.carrier.Carrier.take_end.Goals as goal

pub returns-in-Some-clause-took : goal.returns-in-Some-clause-took
returns-in-Some-clause-took c =
    let old = c.args.self.now in
    let is : items_at c.args.codec.now ≡ fault c.in-Some.field-0 ∷ [] = rw c.in-Some.is at c.in_ok-finish.ensures.items in
    took_same (show_carrier old) _ (fault c.in-Some.field-0 ∷ []) (items_at c.args.codec.now) (sym is)
    (took_dropped (show_carrier old) _ (fault c.in-Some.field-0) refl refl refl (counted_none old.relayed.passed old.passed_fits) c.saturating_add-self.ensures refl)

pub returns-in-None-clause-took : goal.returns-in-None-clause-took
returns-in-None-clause-took c =
    let old = c.args.self.now in
    let is : items_at c.args.codec.now ≡ [] = rw c.in-None.is at c.in_ok-finish.ensures.items in
    took_same (show_carrier old) (show_carrier old) [] (items_at c.args.codec.now) (sym is)
    (took_none (show_carrier old) (record { passed = old.passed_fits; dropped = old.dropped_fits }))

pub returns-in-Some-clause-silent : goal.returns-in-Some-clause-silent
returns-in-Some-clause-silent c =
    let is : items_at c.args.codec.now ≡ fault c.in-Some.field-0 ∷ [] = rw c.in-Some.is at c.in_ok-finish.ensures.items in
    ap (events c.args.self.now.editors) is

pub returns-in-None-clause-silent : goal.returns-in-None-clause-silent
returns-in-None-clause-silent c =
    let is : items_at c.args.codec.now ≡ [] = rw c.in-None.is at c.in_ok-finish.ensures.items in
    ap (events c.args.self.now.editors) is
