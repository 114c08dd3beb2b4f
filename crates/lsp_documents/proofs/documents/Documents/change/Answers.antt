use Rattle.std.proofs.Common.{◌≡◌, Some, sym, ap, ◌∙◌, refl, subst, map, rules, w32}
use Rattle.std.specs.Prelude.{IsSome}
use Rattle.std.specs.Option.{option_copied_mut}
use Rattle.std.specs.FinMap as fin
use Rattle.std.specs.HashMap.{get_by_text}
use Rattle.std.proofs.lemmas.Map.Text.{hash_map_updates_text}
use Rattle.std.proofs.lemmas.Int.{to_z-of_z}
use Rattle.std.proofs.lemmas.Result.{on_err_weaker}
use Rattle.lsp_documents.specs.Documents.{DocumentMap, after_changes, change_of}
use Rattle.lsp_documents.proofs.MapLemmas.{get-documents_of, changed_map, none_made, some_made, kept_map, ok_both}
use Rattle.lsp_documents.proofs.documents.Documents.change.Goals as goal

pub returns-in_default-clause-not_open : goal.returns-in_default-clause-not_open
returns-in_default-clause-not_open c = (
  λ _. sym (ap (λ (ds : DocumentMap). fin.get ds c.args.uri.now) c.self.view_is)
      ∙ get-documents_of c.self.inside.documents c.args.uri.now
      ∙ sym c.get_mut.ensures.value ∙ ap option_copied_mut c.in_default.is,
  λ _. refl,
)

pub returns-clause-ok : goal.returns-clause-ok
returns-clause-ok c =
    let m = c.self.inside.documents in
    let k = c.args.uri.now in
    let w = c.change.new.self in
    let n = c.get_mut.follows.lender w in
    let is : get_by_text m k ≡ Some c.in-Some.document.now = sym c.get_mut.ensures.value ∙ ap option_copied_mut c.in-Some.is in
    let updated = hash_map_updates_text k m n (Some w) ((c.get_mut.follows.holds w).3 (search rules)) in
    ok_both c.change.result c.change.ensures.ok c.change.ensures.version (λ made versioned.
    ap (λ (ds : DocumentMap). after_changes k c.args.version (map change_of c.args.changes.now) ds) (sym c.self.view_is)
    ∙ changed_map m n k c.args.version (map change_of c.args.changes.now) c.in-Some.document.now w is made (versioned ∙ to_z-of_z w32 c.args.version c.ranges.version) updated)

pub returns-clause-not_open : goal.returns-clause-not_open
returns-clause-not_open c =
    let m = c.self.inside.documents in
    let k = c.args.uri.now in
    let w = c.change.new.self in
    let n = c.get_mut.follows.lender w in
    let is : get_by_text m k ≡ Some c.in-Some.document.now = sym c.get_mut.ensures.value ∙ ap option_copied_mut c.in-Some.is in
    let some : fin.get c.args.self.now k ≡ Some c.in-Some.document.now = sym (ap (λ (ds : DocumentMap). fin.get ds k) c.self.view_is) ∙ get-documents_of m k ∙ is in
    (λ e. absurd (c.change.ensures.causes e), λ none. cc (some, none))

pub returns-clause-behind : goal.returns-clause-behind
returns-clause-behind c =
    let m = c.self.inside.documents in
    let k = c.args.uri.now in
    let w = c.change.new.self in
    let n = c.get_mut.follows.lender w in
    let is : get_by_text m k ≡ Some c.in-Some.document.now = sym c.get_mut.ensures.value ∙ ap option_copied_mut c.in-Some.is in
    λ e. ap (λ (ds : DocumentMap). after_changes k c.args.version (map change_of c.args.changes.now) ds) (sym c.self.view_is)
    ∙ none_made m k c.args.version (map change_of c.args.changes.now) c.in-Some.document.now is (c.change.ensures.behind e)

pub returns-clause-memory : goal.returns-clause-memory
returns-clause-memory c =
    let m = c.self.inside.documents in
    let k = c.args.uri.now in
    let is : get_by_text m k ≡ Some c.in-Some.document.now = sym c.get_mut.ensures.value ∙ ap option_copied_mut c.in-Some.is in
    λ one e. subst (λ (ds : DocumentMap). IsSome (after_changes k c.args.version (map change_of c.args.changes.now) ds)) c.self.view_is
    (some_made m k c.args.version (map change_of c.args.changes.now) c.in-Some.document.now is (c.change.ensures.memory one e))

pub returns-clause-err : goal.returns-clause-err
returns-clause-err c =
    let m = c.self.inside.documents in
    let k = c.args.uri.now in
    let w = c.change.new.self in
    let n = c.get_mut.follows.lender w in
    let is : get_by_text m k ≡ Some c.in-Some.document.now = sym c.get_mut.ensures.value ∙ ap option_copied_mut c.in-Some.is in
    let updated = hash_map_updates_text k m n (Some w) ((c.get_mut.follows.holds w).3 (search rules)) in
    on_err_weaker c.change.result (λ same. kept_map m n k c.in-Some.document.now w is same updated ∙ c.self.view_is) c.change.ensures.err
