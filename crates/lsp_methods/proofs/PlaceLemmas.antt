-- Each method stands at its place.
use Rattle.std.proofs.Common.{◌≡◌, refl}
use Rattle.std.specs.Prelude.{Some}
use Rattle.lsp_methods.specs.declared.method.LifeMethod.{LifeMethod}
use Rattle.lsp_methods.specs.declared.method.LifeMethod.TheVariants as life
use Rattle.lsp_methods.specs.declared.method.SyncMethod.{SyncMethod}
use Rattle.lsp_methods.specs.declared.method.SyncMethod.TheVariants as sync
use Rattle.lsp_methods.specs.declared.method.GotoMethod.{GotoMethod}
use Rattle.lsp_methods.specs.declared.method.GotoMethod.TheVariants as goto
use Rattle.lsp_methods.specs.declared.method.HierarchyMethod.{HierarchyMethod}
use Rattle.lsp_methods.specs.declared.method.HierarchyMethod.TheVariants as hierarchy
use Rattle.lsp_methods.specs.declared.method.ShowMethod.{ShowMethod}
use Rattle.lsp_methods.specs.declared.method.ShowMethod.TheVariants as show
use Rattle.lsp_methods.specs.declared.method.TokenMethod.{TokenMethod}
use Rattle.lsp_methods.specs.declared.method.TokenMethod.TheVariants as token
use Rattle.lsp_methods.specs.declared.method.EditMethod.{EditMethod}
use Rattle.lsp_methods.specs.declared.method.EditMethod.TheVariants as edit
use Rattle.lsp_methods.specs.declared.method.WorkMethod.{WorkMethod}
use Rattle.lsp_methods.specs.declared.method.WorkMethod.TheVariants as work
use Rattle.lsp_methods.specs.declared.method.Method.{Method}
use Rattle.lsp_methods.specs.declared.method.Method.TheVariants as methods
use Rattle.lsp_methods.specs.Methods.{place_of, method_at}

life_at : (m : LifeMethod) → method_at (place_of (methods.Life m)) ≡ Some (methods.Life m)
life_at life.Initialize = refl
life_at life.Initialized = refl
life_at life.Shutdown = refl

sync_at : (m : SyncMethod) → method_at (place_of (methods.Sync m)) ≡ Some (methods.Sync m)
sync_at sync.DidOpen = refl
sync_at sync.DidChange = refl
sync_at sync.WillSave = refl
sync_at sync.WillSaveWaitUntil = refl
sync_at sync.DidSave = refl
sync_at sync.DidClose = refl

goto_at : (m : GotoMethod) → method_at (place_of (methods.Goto m)) ≡ Some (methods.Goto m)
goto_at goto.GotoDeclaration = refl
goto_at goto.GotoDefinition = refl
goto_at goto.GotoTypeDefinition = refl
goto_at goto.GotoImplementation = refl
goto_at goto.References = refl
goto_at goto.DocumentHighlight = refl

hierarchy_at : (m : HierarchyMethod) → method_at (place_of (methods.Hierarchy m)) ≡ Some (methods.Hierarchy m)
hierarchy_at hierarchy.PrepareCallHierarchy = refl
hierarchy_at hierarchy.IncomingCalls = refl
hierarchy_at hierarchy.OutgoingCalls = refl
hierarchy_at hierarchy.PrepareTypeHierarchy = refl
hierarchy_at hierarchy.Supertypes = refl
hierarchy_at hierarchy.Subtypes = refl

show_at : (m : ShowMethod) → method_at (place_of (methods.Show m)) ≡ Some (methods.Show m)
show_at show.DocumentLink = refl
show_at show.DocumentLinkResolve = refl
show_at show.Hover = refl
show_at show.CodeLens = refl
show_at show.CodeLensResolve = refl
show_at show.FoldingRange = refl
show_at show.SelectionRange = refl
show_at show.DocumentSymbol = refl
show_at show.Moniker = refl

token_at : (m : TokenMethod) → method_at (place_of (methods.Token m)) ≡ Some (methods.Token m)
token_at token.SemanticTokensFull = refl
token_at token.SemanticTokensFullDelta = refl
token_at token.SemanticTokensRange = refl
token_at token.InlineValue = refl
token_at token.InlayHint = refl
token_at token.InlayHintResolve = refl

edit_at : (m : EditMethod) → method_at (place_of (methods.Edit m)) ≡ Some (methods.Edit m)
edit_at edit.Completion = refl
edit_at edit.CompletionResolve = refl
edit_at edit.SignatureHelp = refl
edit_at edit.CodeAction = refl
edit_at edit.CodeActionResolve = refl
edit_at edit.Formatting = refl
edit_at edit.RangeFormatting = refl
edit_at edit.OnTypeFormatting = refl
edit_at edit.Rename = refl
edit_at edit.PrepareRename = refl
edit_at edit.LinkedEditingRange = refl
edit_at edit.Diagnostic = refl

work_at : (m : WorkMethod) → method_at (place_of (methods.Work m)) ≡ Some (methods.Work m)
work_at work.WorkspaceDiagnostic = refl
work_at work.Symbol = refl
work_at work.SymbolResolve = refl
work_at work.DidChangeConfiguration = refl
work_at work.DidChangeWorkspaceFolders = refl
work_at work.WillCreateFiles = refl
work_at work.DidCreateFiles = refl
work_at work.WillRenameFiles = refl
work_at work.DidRenameFiles = refl
work_at work.WillDeleteFiles = refl
work_at work.DidDeleteFiles = refl
work_at work.DidChangeWatchedFiles = refl
work_at work.ExecuteCommand = refl

pub each_at_its_place : (m : Method) → method_at (place_of m) ≡ Some m
each_at_its_place (methods.Life m) = life_at m
each_at_its_place (methods.Sync m) = sync_at m
each_at_its_place (methods.Goto m) = goto_at m
each_at_its_place (methods.Hierarchy m) = hierarchy_at m
each_at_its_place (methods.Show m) = show_at m
each_at_its_place (methods.Token m) = token_at m
each_at_its_place (methods.Edit m) = edit_at m
each_at_its_place (methods.Work m) = work_at m
