use Rattle.std.proofs.Common.{◌≡◌, Some, None, sym, ap, ◌∙◌}
use Rattle.std.specs.Prelude.{Result, Ok, Err, OnErr}
use Rattle.std.specs.FinMap as fin
use Rattle.lsp_uri.specs.Uri.{uri_text}
use Rattle.lsp_documents.specs.Documents.{DocumentMap, Closed}
use Rattle.lsp_docs.specs.declared.docs.DocsServer.{DocsServer}
use Rattle.lsp_docs.proofs.DocsLemmas.{heeds, refuses, closes, closes_none, removed_none}
use Rattle.lsp_docs.proofs.docs.DocsServer.close.Goals as goal

on_err : {A E P : Type 0} (r : Result A E) → P → OnErr r P
on_err (Ok x) p = tt
on_err (Err e) p = p

abbrev with_documents : DocumentMap → DocsServer
with_documents ds = record { documents = ds }

pub returns-in-Some-clause-heeded : goal.returns-in-Some-clause-heeded
returns-in-Some-clause-heeded g c =
    let ds = c.args.self.now.documents in
    let uri = uri_text c.args.params.text_document.uri in
    let some = ap (fin.get ds) (sym c.as_str.ensures.text) ∙ sym c.close.ensures.document ∙ c.in-Some.is in
    let leaves = c.close.ensures.others ∙ ap (fin.remove ds) c.as_str.ensures.text in
    heeds g.D.Caller.meaning c.args.client.now (Closed uri) ds c.close.new.self (closes ds uri _ some ∙ ap Some (sym leaves))

pub returns-clause-heeded : goal.returns-clause-heeded
returns-clause-heeded g c =
    let ds = c.args.self.now.documents in
    let uri = uri_text c.args.params.text_document.uri in
    let none : fin.get ds uri ≡ None = ap (fin.get ds) (sym c.as_str.ensures.text) ∙ sym c.close.ensures.document ∙ c.in-None.is in
    let same = c.close.ensures.others ∙ ap (fin.remove ds) c.as_str.ensures.text ∙ removed_none ds uri none in
    refuses g.D.Caller.meaning c.args.client.now c.refuse.new.client (Closed uri) ds c.close.new.self _ (closes_none ds uri none) same c.refuse.ensures.logs

pub returns-clause-closes : goal.returns-clause-closes
returns-clause-closes g c = on_err c.refuse.result (ap (fin.get c.args.self.now.documents) (sym c.as_str.ensures.text) ∙ sym c.close.ensures.document ∙ c.in-None.is)

pub returns-clause-err : goal.returns-clause-err
returns-clause-err g c =
    let ds = c.args.self.now.documents in
    let uri = uri_text c.args.params.text_document.uri in
    let none : fin.get ds uri ≡ None = ap (fin.get ds) (sym c.as_str.ensures.text) ∙ sym c.close.ensures.document ∙ c.in-None.is in
    let same : c.close.new.self ≡ ds = c.close.ensures.others ∙ ap (fin.remove ds) c.as_str.ensures.text ∙ removed_none ds uri none in
    on_err c.refuse.result (ap with_documents same)
