use Rattle.std.proofs.Common.{map}
use Rattle.serde_json.specs.View.{members_view}
use Rattle.lsp_shape.specs.Plain.{entries_of}
use Rattle.lsp_shape.specs.Read.{read}
use Rattle.lsp_shape.proofs.Entries.{IsReadSoFar}
use Rattle.lsp_shape.proofs.map.rest.Given as goal

abbrev pub invariant-loop-name : goal.invariant-loop-name
invariant-loop-name g l =
    IsReadSoFar (map (λ n. n.now) l.names) g.K.Key.is_key (read g.T.Wire.shape) (members_view l.members.entries) (members_view l.name-iterator) (entries_of g.K.Key.key_text g.T.Wire.shown l.entries.entries)
