use Rattle.std.proofs.Common.{ap, ◌∙◌}
use Rattle.serde_json.specs.Find.{get_member}
use Rattle.serde_json.specs.View.{view, members_view}
use Rattle.serde_json.proofs.Views.{view-lookup}
use Rattle.std.specs.Option.{option_map}
use Rattle.lsp_rpc.proofs.Removed.{get_member-without}
use Rattle.lsp_rpc.proofs.read.take_member.Goals as goal

pub returns : goal.returns
returns c =
    let name = c.args.name.now in
    let es = c.args.members.now.entries in
    record {
      value = ap (option_map view) c.remove.ensures.value ∙ view-lookup name es;
      others = λ other apart. ap (λ fs. get_member other (members_view fs)) c.remove.ensures.entries ∙ get_member-without name other es apart;
    }
