-- It is what the server's own call comes to.
use Rattle.lsp_service.proofs.serving.serve_session.Goals as goal

pub returns : goal.returns
returns g c = c.serve.ensures
