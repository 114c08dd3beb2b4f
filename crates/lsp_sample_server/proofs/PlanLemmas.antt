-- What a call is taken for.
use Rattle.std.proofs.Common.{◌≡◌, ◌∙◌, [], refl, ap, subst}
use Rattle.std.specs.Prelude.{None, Result, Ok, Err, OnErr, Box}
use Rattle.std.specs.declared.alloc.Global.{Global}
use Rattle.lsp_desk.specs.Meaning.{Meaning, PollsOn}
use Rattle.lsp_desk.proofs.TraceLemmas.{grows_none}
use Rattle.lsp_session.specs.declared.table.Kind.TheVariants.{Request}
use Rattle.lsp_shape.specs.Plain.{parts, part, absent, no_parts}
use Rattle.lsp_shape.specs.Write.{write}
use Rattle.lsp_initialize.specs.declared.server.ServerCapabilities.{ServerCapabilities}
use Rattle.lsp_initialize.specs.Server.{server_capabilities_row, initialize_result_row}
use Rattle.lsp_work.specs.declared.workspace.ExecuteCommandParams.{ExecuteCommandParams}
use Rattle.lsp_service.specs.declared.call.Call.{Call}
use Rattle.lsp_service.specs.declared.call.Call.TheVariants as calls
use Rattle.lsp_service.specs.declared.call.LifeCall.{LifeCall}
use Rattle.lsp_service.specs.declared.call.SyncCall.{SyncCall}
use Rattle.lsp_service.specs.declared.call.SyncCall.TheVariants as sync_calls
use Rattle.lsp_service.specs.declared.call.GotoCall.{GotoCall}
use Rattle.lsp_service.specs.declared.call.GotoCall.TheVariants as goto_calls
use Rattle.lsp_service.specs.declared.call.HierarchyCall.{HierarchyCall}
use Rattle.lsp_service.specs.declared.call.HierarchyCall.TheVariants as hierarchy_calls
use Rattle.lsp_service.specs.declared.call.ShowCall.{ShowCall}
use Rattle.lsp_service.specs.declared.call.ShowCall.TheVariants as show_calls
use Rattle.lsp_service.specs.declared.call.TokenCall.{TokenCall}
use Rattle.lsp_service.specs.declared.call.TokenCall.TheVariants as token_calls
use Rattle.lsp_service.specs.declared.call.EditCall.{EditCall}
use Rattle.lsp_service.specs.declared.call.EditCall.TheVariants as edit_calls
use Rattle.lsp_service.specs.declared.call.WorkCall.{WorkCall}
use Rattle.lsp_service.specs.declared.call.WorkCall.TheVariants as work_calls
use Rattle.lsp_service.specs.Calls.{show_call, target_of, show_sync, show_goto, show_hierarchy, show_show, show_token, show_edit, show_work}
use Rattle.lsp_service.specs.Data.{MethodCall, MethodReply}
use Rattle.lsp_service.specs.Replies.{initialize_data}
use Rattle.lsp_service.specs.Server.{Now}
use Rattle.lsp_sample_server.proofs.WrittenLemmas.{bare_written}
use Rattle.lsp_sample_server.specs.declared.sample.Sample.{Sample}
use Rattle.lsp_sample_server.specs.Sample.{bare_result, bare_data, no_capabilities_shown, replies, other_reply, sample_turn, BeginsTurn, BeginsCall}

-- ---- `initialize`

bare_shown : (capabilities : ServerCapabilities) → server_capabilities_row.shown capabilities ≡ no_capabilities_shown
    → initialize_result_row.shown (record { capabilities = capabilities; server_info = None }) ≡ bare_result
unfolding initialize_result_row
bare_shown capabilities is = ap (λ p. parts (part p (part absent no_parts))) is

pub bare_initialize : (capabilities : ServerCapabilities) → server_capabilities_row.shown capabilities ≡ no_capabilities_shown
    → initialize_data (record { capabilities = capabilities; server_info = None }) ≡ bare_data
unfolding initialize_data
bare_initialize capabilities is = ap (write initialize_result_row.shape) (bare_shown capabilities is) ∙ bare_written

-- ---- a call that has its reply

pub begins_replied : {D : Type 0} (m : Meaning D) (d : D) (s : Sample) (c : MethodCall) (r : MethodReply) → replies r ≡ sample_turn c → PollsOn m d d (λ asked. BeginsCall s c asked s (Now r))
begins_replied m d s c r turn = record {
  trace = [];
  grows = grows_none m d;
  holds = record { same = refl; begins = subst (λ t. BeginsTurn t [] (Now r)) turn (refl, refl) };
}

-- ---- what holds where memory lacks

pub on_fault : {A E : Type 0} {P : Type 0} (r : Result A E) → P → OnErr r P
on_fault (Ok x) p = tt
on_fault (Err e) p = p

-- ---- the others

-- the call has the reply of the others
abbrev pub IsOther : MethodCall → Type 0
IsOther c = replies (other_reply (target_of c Request)) ≡ sample_turn c

sync_other : (c : SyncCall) → IsOther (show_sync c)
sync_other (sync_calls.DidOpen p) = refl
sync_other c = refl

goto_other : (c : GotoCall) → IsOther (show_goto c)
goto_other (goto_calls.GotoDeclaration p) = refl
goto_other c = refl

hierarchy_other : (c : HierarchyCall) → IsOther (show_hierarchy c)
hierarchy_other (hierarchy_calls.PrepareCallHierarchy p) = refl
hierarchy_other c = refl

show_other : (c : ShowCall) → IsOther (show_show c)
show_other (show_calls.DocumentLink p) = refl
show_other c = refl

token_other : (c : TokenCall) → IsOther (show_token c)
token_other (token_calls.SemanticTokensFull p) = refl
token_other c = refl

edit_other : (c : EditCall) → IsOther (show_edit c)
edit_other (edit_calls.Completion p) = refl
edit_other c = refl

pub work_other : (c : WorkCall) → ((p : Box ExecuteCommandParams Global) → c ≡ work_calls.ExecuteCommand p → ⊥) → IsOther (show_work c)
work_other (work_calls.ExecuteCommand p) not = absurd (not p refl)
work_other c not = refl

-- each call but those of two groups
pub group_other : (c : Call) → ((l : LifeCall) → c ≡ calls.Life l → ⊥) → ((w : WorkCall) → c ≡ calls.Work w → ⊥) → IsOther (show_call c)
group_other (calls.Life l) life work = absurd (life l refl)
group_other (calls.Sync c) life work = sync_other c
group_other (calls.Goto c) life work = goto_other c
group_other (calls.Hierarchy c) life work = hierarchy_other c
group_other (calls.Show c) life work = show_other c
group_other (calls.Token c) life work = token_other c
group_other (calls.Edit c) life work = edit_other c
group_other (calls.Work c) life work = absurd (work c refl)
group_other (calls.Custom n p) life work = refl
