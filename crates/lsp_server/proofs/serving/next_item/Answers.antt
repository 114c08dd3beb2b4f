-- The item that the codec gave.
use Rattle.std.proofs.Common.{refl, ap}
use Rattle.std.specs.Prelude.{Some}
use Rattle.lsp_rpc.specs.Shown.{show_message}
use Rattle.lsp_frame.specs.Codec.{message, fault}
use Rattle.lsp_session.specs.Item as items
use Rattle.lsp_server.proofs.serving.next_item.Goals as goal

pub returns-in-Item-clause-next : goal.returns-in-Item-clause-next
returns-in-Item-clause-next c = record {
  found = Some (message (show_message c.in-Item.message));
  shows = refl;
  items = rw c.in-Item.is at c.in_ok-message.ensures.items;
  told = rw c.in-Item.is at c.in_ok-message.ensures.told;
}

pub returns-in-Fault-clause-next : goal.returns-in-Fault-clause-next
returns-in-Fault-clause-next c = record {
  found = Some (fault c.in-Fault.fault);
  shows = ap (λ code. Some (items.fault code)) c.code.ensures;
  items = rw c.in-Fault.is at c.in_ok-message.ensures.items;
  told = rw c.in-Fault.is at c.in_ok-message.ensures.told;
}
