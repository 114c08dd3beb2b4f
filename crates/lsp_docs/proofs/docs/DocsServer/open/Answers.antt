-- The text is in the document as it came, and so is its version.
use Rattle.std.proofs.Common.{rules, SFits, w32}
use Rattle.std.proofs.lemmas.Int.{to_z-of_z}
use Rattle.lsp_docs.specs.Typed.{opening_of}
use Rattle.lsp_docs.proofs.DocsLemmas.{heeds}
use Rattle.lsp_docs.proofs.docs.DocsServer.open.Goals as goal

pub returns-in-Ok-clause-heeded : goal.returns-in-Ok-clause-heeded
returns-in-Ok-clause-heeded g c =
    let fits : SFits w32 c.args.params.text_document.version = search rules in
    heeds g.D.Caller.meaning c.args.client.now (opening_of c.args.params) c.args.self.now.documents c.open.new.self
    (rw (to_z-of_z w32 _ fits) at (rw c.as_str.ensures.text at c.in-Ok.ensures.ok))
