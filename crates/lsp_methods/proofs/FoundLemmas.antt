-- Each method is found by its name, whatever stands behind the standard ones.
use Rattle.std.proofs.Common.{◌≡◌, refl, List, ◌++◌}
use Rattle.std.specs.Prelude.{Some, codes}
use Rattle.lsp_session.specs.declared.table.Entry.{Entry}
use Rattle.lsp_session.specs.declared.table.Kind.TheVariants.{Notification}
use Rattle.lsp_session.specs.declared.table.Layer.TheVariants.{Exit, Cancel}
use Rattle.lsp_session.specs.Table.{MethodData, find_in, entry_at}
use Rattle.lsp_methods.specs.declared.method.LifeMethod.{LifeMethod}
use Rattle.lsp_methods.specs.declared.method.LifeMethod.TheVariants as life
use Rattle.lsp_methods.specs.declared.method.SyncMethod.{SyncMethod}
use Rattle.lsp_methods.specs.declared.method.SyncMethod.TheVariants as sync
use Rattle.lsp_methods.specs.declared.method.GotoMethod.{GotoMethod}
use Rattle.lsp_methods.specs.declared.method.GotoMethod.TheVariants as goto
use Rattle.lsp_methods.specs.declared.method.HierarchyMethod.{HierarchyMethod}
use Rattle.lsp_methods.specs.declared.method.HierarchyMethod.TheVariants as hierarchy
use Rattle.lsp_methods.specs.declared.method.ShowMethod.{ShowMethod}
use Rattle.lsp_methods.specs.declared.method.ShowMethod.TheVariants as show
use Rattle.lsp_methods.specs.declared.method.TokenMethod.{TokenMethod}
use Rattle.lsp_methods.specs.declared.method.TokenMethod.TheVariants as token
use Rattle.lsp_methods.specs.declared.method.EditMethod.{EditMethod}
use Rattle.lsp_methods.specs.declared.method.EditMethod.TheVariants as edit
use Rattle.lsp_methods.specs.declared.method.WorkMethod.{WorkMethod}
use Rattle.lsp_methods.specs.declared.method.WorkMethod.TheVariants as work
use Rattle.lsp_methods.specs.declared.method.Method.{Method}
use Rattle.lsp_methods.specs.declared.method.Method.TheVariants as methods
use Rattle.lsp_methods.specs.Methods.{place_of, method_row}
use Rattle.lsp_methods.specs.Standard.{standard_methods}

-- the method is found by its name before these
abbrev IsFoundBefore : List MethodData → Method → Type 0
IsFoundBefore customs m = find_in 0 (standard_methods ++ customs) (method_row m).name ≡ Some (entry_at (place_of m) (method_row m))

life_found : (customs : List MethodData) (m : LifeMethod) → IsFoundBefore customs (methods.Life m)
unfolding standard_methods
life_found customs life.Initialize = refl
life_found customs life.Initialized = refl
life_found customs life.Shutdown = refl

sync_found : (customs : List MethodData) (m : SyncMethod) → IsFoundBefore customs (methods.Sync m)
unfolding standard_methods
sync_found customs sync.DidOpen = refl
sync_found customs sync.DidChange = refl
sync_found customs sync.WillSave = refl
sync_found customs sync.WillSaveWaitUntil = refl
sync_found customs sync.DidSave = refl
sync_found customs sync.DidClose = refl

goto_found : (customs : List MethodData) (m : GotoMethod) → IsFoundBefore customs (methods.Goto m)
unfolding standard_methods
goto_found customs goto.GotoDeclaration = refl
goto_found customs goto.GotoDefinition = refl
goto_found customs goto.GotoTypeDefinition = refl
goto_found customs goto.GotoImplementation = refl
goto_found customs goto.References = refl
goto_found customs goto.DocumentHighlight = refl

hierarchy_found : (customs : List MethodData) (m : HierarchyMethod) → IsFoundBefore customs (methods.Hierarchy m)
unfolding standard_methods
hierarchy_found customs hierarchy.PrepareCallHierarchy = refl
hierarchy_found customs hierarchy.IncomingCalls = refl
hierarchy_found customs hierarchy.OutgoingCalls = refl
hierarchy_found customs hierarchy.PrepareTypeHierarchy = refl
hierarchy_found customs hierarchy.Supertypes = refl
hierarchy_found customs hierarchy.Subtypes = refl

show_found : (customs : List MethodData) (m : ShowMethod) → IsFoundBefore customs (methods.Show m)
unfolding standard_methods
show_found customs show.DocumentLink = refl
show_found customs show.DocumentLinkResolve = refl
show_found customs show.Hover = refl
show_found customs show.CodeLens = refl
show_found customs show.CodeLensResolve = refl
show_found customs show.FoldingRange = refl
show_found customs show.SelectionRange = refl
show_found customs show.DocumentSymbol = refl
show_found customs show.Moniker = refl

token_found : (customs : List MethodData) (m : TokenMethod) → IsFoundBefore customs (methods.Token m)
unfolding standard_methods
token_found customs token.SemanticTokensFull = refl
token_found customs token.SemanticTokensFullDelta = refl
token_found customs token.SemanticTokensRange = refl
token_found customs token.InlineValue = refl
token_found customs token.InlayHint = refl
token_found customs token.InlayHintResolve = refl

edit_found : (customs : List MethodData) (m : EditMethod) → IsFoundBefore customs (methods.Edit m)
unfolding standard_methods
edit_found customs edit.Completion = refl
edit_found customs edit.CompletionResolve = refl
edit_found customs edit.SignatureHelp = refl
edit_found customs edit.CodeAction = refl
edit_found customs edit.CodeActionResolve = refl
edit_found customs edit.Formatting = refl
edit_found customs edit.RangeFormatting = refl
edit_found customs edit.OnTypeFormatting = refl
edit_found customs edit.Rename = refl
edit_found customs edit.PrepareRename = refl
edit_found customs edit.LinkedEditingRange = refl
edit_found customs edit.Diagnostic = refl

work_found : (customs : List MethodData) (m : WorkMethod) → IsFoundBefore customs (methods.Work m)
unfolding standard_methods
work_found customs work.WorkspaceDiagnostic = refl
work_found customs work.Symbol = refl
work_found customs work.SymbolResolve = refl
work_found customs work.DidChangeConfiguration = refl
work_found customs work.DidChangeWorkspaceFolders = refl
work_found customs work.WillCreateFiles = refl
work_found customs work.DidCreateFiles = refl
work_found customs work.WillRenameFiles = refl
work_found customs work.DidRenameFiles = refl
work_found customs work.WillDeleteFiles = refl
work_found customs work.DidDeleteFiles = refl
work_found customs work.DidChangeWatchedFiles = refl
work_found customs work.ExecuteCommand = refl

pub each_found : (customs : List MethodData) (m : Method) → IsFoundBefore customs m
each_found customs (methods.Life m) = life_found customs m
each_found customs (methods.Sync m) = sync_found customs m
each_found customs (methods.Goto m) = goto_found customs m
each_found customs (methods.Hierarchy m) = hierarchy_found customs m
each_found customs (methods.Show m) = show_found customs m
each_found customs (methods.Token m) = token_found customs m
each_found customs (methods.Edit m) = edit_found customs m
each_found customs (methods.Work m) = work_found customs m

-- ---- the two that a session itself carries out

pub cancel_found : (customs : List MethodData) → find_in 0 (standard_methods ++ customs) (codes "$/cancelRequest") ≡ Some (let entry : Entry = record { place = 61; layer = Cancel; kind = Notification } in entry)
unfolding standard_methods
cancel_found customs = refl

pub exit_found : (customs : List MethodData) → find_in 0 (standard_methods ++ customs) (codes "exit") ≡ Some (let entry : Entry = record { place = 62; layer = Exit; kind = Notification } in entry)
unfolding standard_methods
exit_found customs = refl
