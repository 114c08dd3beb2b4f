use Rattle.std.proofs.Common.{◌≡◌, codes, option_map}
use Rattle.serde_json.specs.Find.{get_member}
use Rattle.serde_json.specs.View.{view, members_view}
use Rattle.lsp_rpc.specs.Pieces.{first_member}
use Rattle.lsp_rpc.proofs.members.Members.of.Given as goal

-- each name finds what is kept, or else what is left
abbrev pub invariant-loop-name : goal.invariant-loop-name
invariant-loop-name l = record {
  jsonrpc : first_member (codes "jsonrpc") (option_map view l.members.jsonrpc) (members_view l.name-iterator) ≡ get_member (codes "jsonrpc") (members_view l.fn.object.entries);
  id : first_member (codes "id") (option_map view l.members.id) (members_view l.name-iterator) ≡ get_member (codes "id") (members_view l.fn.object.entries);
  method : first_member (codes "method") (option_map view l.members.method) (members_view l.name-iterator) ≡ get_member (codes "method") (members_view l.fn.object.entries);
  params : first_member (codes "params") (option_map view l.members.params) (members_view l.name-iterator) ≡ get_member (codes "params") (members_view l.fn.object.entries);
  outcome : first_member (codes "result") (option_map view l.members.result) (members_view l.name-iterator) ≡ get_member (codes "result") (members_view l.fn.object.entries);
  error : first_member (codes "error") (option_map view l.members.error) (members_view l.name-iterator) ≡ get_member (codes "error") (members_view l.fn.object.entries);
}
