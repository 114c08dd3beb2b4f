use Rattle.lsp_shape.proofs.Entries.{members-clone, object_written}
use Rattle.lsp_shape.proofs.map.MapStringValueWire.to_value.Goals as goal

pub returns-clause-written : goal.returns-clause-written
returns-clause-written c = object_written c.args.self.now c.in_ok-clone.field-0 (members-clone _ _ c.in_ok-clone.ensures.cases)
