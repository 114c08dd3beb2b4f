use Rattle.serde_json.specs.View.{view}
use Rattle.lsp_frame.proofs.PartsPut.{put_error}
use Rattle.lsp_frame.proofs.parts.Parts.keep_error.Goals as goal

pub returns : goal.returns
returns c =
    λ ms are. put_error c.args.self.now ms (view c.args.value) c.in_ok-error_in.field-0 c.in_ok-error_in.ensures c.requires are
