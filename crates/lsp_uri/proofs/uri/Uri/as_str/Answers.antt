use Rattle.lsp_uri.specs.Uri.{uri_text}
use Rattle.lsp_uri.proofs.Recomposed.{recomposed-parts}
use Rattle.lsp_uri.proofs.uri.Uri.as_str.Goals as goal

pub returns-clause-whole : goal.returns-clause-whole
returns-clause-whole c = recomposed-parts (uri_text c.args.self.now)
