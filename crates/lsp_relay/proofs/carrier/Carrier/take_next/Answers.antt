-- One item, or none.
use Rattle.std.proofs.Common.{[], ◌∷◌, refl}
use Rattle.lsp_rpc.specs.Shown.{show_message}
use Rattle.lsp_frame.specs.Codec.{message, fault}
use Rattle.lsp_relay.specs.Shown.{show_carrier}
use Rattle.lsp_relay.proofs.TookLemmas.{counted_none, took_none, took_dropped, fewer_told}
use Rattle.lsp_relay.proofs.carrier.Carrier.take_next.Goals as goal

pub returns-in_ok-take-in-Item-clause-took : goal.returns-in_ok-take-in-Item-clause-took
returns-in_ok-take-in-Item-clause-took c = record {
  given = message (show_message c.in-Item.message) ∷ [];
  decodes = record { items = rw c.in-Item.is at c.in_ok-message.ensures.items; told = rw c.in-Item.is at c.in_ok-message.ensures.told };
  took = c.in_ok-take-in-Item.ensures.took;
}

pub returns-in_ok-take-in-Item-clause-fewer : goal.returns-in_ok-take-in-Item-clause-fewer
returns-in_ok-take-in-Item-clause-fewer c _ =
    fewer_told c.args.codec.now c.decode.new.self (message (show_message c.in-Item.message))
    (record { items = rw c.in-Item.is at c.in_ok-message.ensures.items; told = rw c.in-Item.is at c.in_ok-message.ensures.told })

pub returns-in-Fault-clause-took : goal.returns-in-Fault-clause-took
returns-in-Fault-clause-took c =
    let old = c.args.self.now in
    record {
      given = fault c.in-Fault.field-0 ∷ [];
      decodes = record { items = rw c.in-Fault.is at c.in_ok-message.ensures.items; told = rw c.in-Fault.is at c.in_ok-message.ensures.told };
      took = took_dropped (show_carrier old) _ (fault c.in-Fault.field-0) refl refl refl (counted_none old.relayed.passed old.passed_fits) c.saturating_add-self.ensures refl;
    }

pub returns-in-Fault-clause-fewer : goal.returns-in-Fault-clause-fewer
returns-in-Fault-clause-fewer c _ =
    fewer_told c.args.codec.now c.decode.new.self (fault c.in-Fault.field-0)
    (record { items = rw c.in-Fault.is at c.in_ok-message.ensures.items; told = rw c.in-Fault.is at c.in_ok-message.ensures.told })

pub returns-in-More-clause-took : goal.returns-in-More-clause-took
returns-in-More-clause-took c =
    let old = c.args.self.now in
    record {
      given = [];
      decodes = record { items = rw c.in-More.is at c.in_ok-message.ensures.items; told = rw c.in-More.is at c.in_ok-message.ensures.told };
      took = took_none (show_carrier old) (record { passed = old.passed_fits; dropped = old.dropped_fits });
    }
