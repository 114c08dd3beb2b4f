-- What the server makes of a call.
use Rattle.std.proofs.Common.{◌≡◌, ℕ, List, [], Bool, true, false, cond, Some, None, option_map, refl, sym, ap, ◌∙◌, subst, nat_cmp}
use Rattle.std.specs.Prelude.{ℤ, is_some, is_none, unwrap_or, Result, Ok, Err, OnOk}
use Rattle.std.specs.Option.{option_and_then}
use Rattle.std.specs.FinMap as fin
use Rattle.std.specs.Ordering.{eq_by_cmp}
use Rattle.std.specs.Cmp.Lexicographic.{slice_cmp, nat_list_cmp_total, texts_ties}
use Rattle.std.proofs.lemmas.Slice.Eq.{bytes_eq-Decides}
use Rattle.lsp_desk.specs.Meaning.{Meaning, PollsOn}
use Rattle.lsp_desk.specs.Trace.{owns}
use Rattle.lsp_desk.proofs.TraceLemmas.{grows_none}
use Rattle.lsp_documents.specs.OpenDocument.{OpenDocument}
use Rattle.lsp_documents.specs.Documents.{DocumentMap, Change, Notification, accepted, after_open, after_changes, after_close, changed_document}
use Rattle.lsp_docs.specs.Docs.{LogsRefusal, Heeded}

-- ---- a notification that is accepted, or isn't

-- nothing is logged of one that is accepted
pub heeds : {D : Type 0} (m : Meaning D) (d : D) (n : Notification) (ds ds2 : DocumentMap) → accepted n ds ≡ Some ds2 → PollsOn m d d (Heeded n ds ds2)
heeds m d n ds ds2 e = record {
  trace = [];
  grows = grows_none m d;
  holds = ((sym (ap (λ o. unwrap_or o ds) e), refl), subst (λ b. LogsRefusal b []) (sym (ap is_none e)) refl);
}

-- one that isn't is logged
refused : {D : Type 0} (m : Meaning D) (old new : D) (n : Notification) (ds ds2 : DocumentMap) → accepted n ds ≡ None → ds2 ≡ ds → PollsOn m old new (LogsRefusal true) → PollsOn m old new (Heeded n ds ds2)
refused m old new n ds ds2 none same p = record {
  trace = p.trace;
  grows = p.grows;
  holds = ((same ∙ sym (ap (λ o. unwrap_or o ds) none), refl), subst (λ b. LogsRefusal b (owns p.trace)) (sym (ap is_none none)) p.holds);
}

pub refuses : {D A E : Type 0} (m : Meaning D) (old new : D) (n : Notification) (ds ds2 : DocumentMap) (r : Result A E) → accepted n ds ≡ None → ds2 ≡ ds → OnOk r (PollsOn m old new (LogsRefusal true)) → OnOk r (PollsOn m old new (Heeded n ds ds2))
refuses m old new n ds ds2 (Ok x) none same p = refused m old new n ds ds2 none same p
refuses m old new n ds ds2 (Err e) none same p = tt

pub open_already : (ds : DocumentMap) (uri : List ℕ) (d : OpenDocument) → fin.contains_key ds uri ≡ true → after_open uri d ds ≡ None
open_already ds uri d e = ap (λ b. cond b None (Some (fin.insert ds uri d))) e

pub changes_none : (ds : DocumentMap) (uri : List ℕ) (version : ℤ) (cs : List Change) → fin.get ds uri ≡ None → after_changes uri version cs ds ≡ None
changes_none ds uri version cs e = ap (λ o. option_map (λ (d : OpenDocument). fin.insert ds uri d) (option_and_then (changed_document version cs) o)) e

pub closes : (ds : DocumentMap) (uri : List ℕ) (d : OpenDocument) → fin.get ds uri ≡ Some d → after_close uri ds ≡ Some (fin.remove ds uri)
closes ds uri d e = ap (λ o. cond (is_some o) (Some (fin.remove ds uri)) None) e

pub closes_none : (ds : DocumentMap) (uri : List ℕ) → fin.get ds uri ≡ None → after_close uri ds ≡ None
closes_none ds uri e = ap (λ o. cond (is_some o) (Some (fin.remove ds uri)) None) e

-- what isn't there is removed
pub removed_none : (ds : DocumentMap) (k : List ℕ) → fin.get ds k ≡ None → fin.remove ds k ≡ ds
removed_none ds k none =
    fin.same_map nat_list_cmp_total (fin.slice_cmp-IsAntisymmetric fin.nat_cmp-IsAntisymmetric) (fin.remove ds k) ds (λ q. fin.get-remove nat_list_cmp_total ds k q ∙ at_key q (eq_by_cmp (slice_cmp nat_cmp) q k) refl)
  where
    at_key : (q : List ℕ) (b : Bool) → eq_by_cmp (slice_cmp nat_cmp) q k ≡ b → cond b None (fin.get ds q) ≡ fin.get ds q
    at_key q true e = sym none ∙ ap (fin.get ds) (sym ((bytes_eq-Decides q k).0 (texts_ties q k ∙ e)))
    at_key q false e = refl
