-- A typed call comes to what the call that it shows comes to.
use Rattle.std.proofs.Common.{◌≡◌, ap, refl}
use Rattle.lsp_documents.specs.Documents.{DocumentMap}
use Rattle.lsp_service.specs.declared.call.Call.{Call}
use Rattle.lsp_service.specs.declared.call.Call.TheVariants as calls
use Rattle.lsp_service.specs.declared.call.LifeCall.TheVariants as life_calls
use Rattle.lsp_service.specs.declared.call.SyncCall.TheVariants as sync_calls
use Rattle.lsp_service.specs.declared.call.GotoCall.{GotoCall}
use Rattle.lsp_service.specs.declared.call.GotoCall.TheVariants as goto_calls
use Rattle.lsp_service.specs.declared.call.HierarchyCall.{HierarchyCall}
use Rattle.lsp_service.specs.declared.call.HierarchyCall.TheVariants as hierarchy_calls
use Rattle.lsp_service.specs.declared.call.ShowCall.{ShowCall}
use Rattle.lsp_service.specs.declared.call.ShowCall.TheVariants as show_calls
use Rattle.lsp_service.specs.declared.call.TokenCall.{TokenCall}
use Rattle.lsp_service.specs.declared.call.TokenCall.TheVariants as token_calls
use Rattle.lsp_service.specs.declared.call.EditCall.{EditCall}
use Rattle.lsp_service.specs.declared.call.EditCall.TheVariants as edit_calls
use Rattle.lsp_service.specs.declared.call.WorkCall.{WorkCall}
use Rattle.lsp_service.specs.declared.call.WorkCall.TheVariants as work_calls
use Rattle.lsp_service.specs.Calls.{show_call}
use Rattle.lsp_docs.specs.Docs.{tells, docs_turn}
use Rattle.lsp_docs.specs.Typed.{call_turn}
use Rattle.lsp_docs.proofs.ParamsLemmas.{opened, changed, closed}

-- a call that isn't answered
goto_shown : (ds : DocumentMap) (c : GotoCall) → docs_turn ds (show_call (calls.Goto c)) ≡ call_turn ds (calls.Goto c)
goto_shown ds (goto_calls.GotoDeclaration p) = refl
goto_shown ds (goto_calls.GotoDefinition p) = refl
goto_shown ds (goto_calls.GotoTypeDefinition p) = refl
goto_shown ds (goto_calls.GotoImplementation p) = refl
goto_shown ds (goto_calls.References p) = refl
goto_shown ds (goto_calls.DocumentHighlight p) = refl

hierarchy_shown : (ds : DocumentMap) (c : HierarchyCall) → docs_turn ds (show_call (calls.Hierarchy c)) ≡ call_turn ds (calls.Hierarchy c)
hierarchy_shown ds (hierarchy_calls.PrepareCallHierarchy p) = refl
hierarchy_shown ds (hierarchy_calls.IncomingCalls p) = refl
hierarchy_shown ds (hierarchy_calls.OutgoingCalls p) = refl
hierarchy_shown ds (hierarchy_calls.PrepareTypeHierarchy p) = refl
hierarchy_shown ds (hierarchy_calls.Supertypes p) = refl
hierarchy_shown ds (hierarchy_calls.Subtypes p) = refl

show_shown : (ds : DocumentMap) (c : ShowCall) → docs_turn ds (show_call (calls.Show c)) ≡ call_turn ds (calls.Show c)
show_shown ds (show_calls.DocumentLink p) = refl
show_shown ds (show_calls.DocumentLinkResolve p) = refl
show_shown ds (show_calls.Hover p) = refl
show_shown ds (show_calls.CodeLens p) = refl
show_shown ds (show_calls.CodeLensResolve p) = refl
show_shown ds (show_calls.FoldingRange p) = refl
show_shown ds (show_calls.SelectionRange p) = refl
show_shown ds (show_calls.DocumentSymbol p) = refl
show_shown ds (show_calls.Moniker p) = refl

token_shown : (ds : DocumentMap) (c : TokenCall) → docs_turn ds (show_call (calls.Token c)) ≡ call_turn ds (calls.Token c)
token_shown ds (token_calls.SemanticTokensFull p) = refl
token_shown ds (token_calls.SemanticTokensFullDelta p) = refl
token_shown ds (token_calls.SemanticTokensRange p) = refl
token_shown ds (token_calls.InlineValue p) = refl
token_shown ds (token_calls.InlayHint p) = refl
token_shown ds (token_calls.InlayHintResolve p) = refl

edit_shown : (ds : DocumentMap) (c : EditCall) → docs_turn ds (show_call (calls.Edit c)) ≡ call_turn ds (calls.Edit c)
edit_shown ds (edit_calls.Completion p) = refl
edit_shown ds (edit_calls.CompletionResolve p) = refl
edit_shown ds (edit_calls.SignatureHelp p) = refl
edit_shown ds (edit_calls.CodeAction p) = refl
edit_shown ds (edit_calls.CodeActionResolve p) = refl
edit_shown ds (edit_calls.Formatting p) = refl
edit_shown ds (edit_calls.RangeFormatting p) = refl
edit_shown ds (edit_calls.OnTypeFormatting p) = refl
edit_shown ds (edit_calls.Rename p) = refl
edit_shown ds (edit_calls.PrepareRename p) = refl
edit_shown ds (edit_calls.LinkedEditingRange p) = refl
edit_shown ds (edit_calls.Diagnostic p) = refl

work_shown : (ds : DocumentMap) (c : WorkCall) → docs_turn ds (show_call (calls.Work c)) ≡ call_turn ds (calls.Work c)
work_shown ds (work_calls.WorkspaceDiagnostic p) = refl
work_shown ds (work_calls.Symbol p) = refl
work_shown ds (work_calls.SymbolResolve p) = refl
work_shown ds (work_calls.DidChangeConfiguration p) = refl
work_shown ds (work_calls.DidChangeWorkspaceFolders p) = refl
work_shown ds (work_calls.WillCreateFiles p) = refl
work_shown ds (work_calls.DidCreateFiles p) = refl
work_shown ds (work_calls.WillRenameFiles p) = refl
work_shown ds (work_calls.DidRenameFiles p) = refl
work_shown ds (work_calls.WillDeleteFiles p) = refl
work_shown ds (work_calls.DidDeleteFiles p) = refl
work_shown ds (work_calls.DidChangeWatchedFiles p) = refl
work_shown ds (work_calls.ExecuteCommand p) = refl

pub shown_turn : (ds : DocumentMap) (c : Call) → docs_turn ds (show_call c) ≡ call_turn ds c
shown_turn ds (calls.Life (life_calls.Initialize p)) = refl
shown_turn ds (calls.Life (life_calls.Initialized p)) = refl
shown_turn ds (calls.Life life_calls.Shutdown) = refl
shown_turn ds (calls.Sync (sync_calls.DidOpen p)) = ap tells (opened p.value)
shown_turn ds (calls.Sync (sync_calls.DidChange p)) = ap tells (changed p.value)
shown_turn ds (calls.Sync (sync_calls.WillSave p)) = refl
shown_turn ds (calls.Sync (sync_calls.WillSaveWaitUntil p)) = refl
shown_turn ds (calls.Sync (sync_calls.DidSave p)) = refl
shown_turn ds (calls.Sync (sync_calls.DidClose p)) = ap tells (closed p.value)
shown_turn ds (calls.Goto c) = goto_shown ds c
shown_turn ds (calls.Hierarchy c) = hierarchy_shown ds c
shown_turn ds (calls.Show c) = show_shown ds c
shown_turn ds (calls.Token c) = token_shown ds c
shown_turn ds (calls.Edit c) = edit_shown ds c
shown_turn ds (calls.Work c) = work_shown ds c
shown_turn ds (calls.Custom n p) = refl
