use Rattle.std.proofs.Common.{◌≡◌, ℕ, List, Bor, String, Global, map, sym, ap, ◌∙◌, subst, string_bytes}
use Rattle.std.specs.Prelude.{Err, Some}
use Rattle.serde_json.specs.declared.value.Value.{Value}
use Rattle.serde_json.specs.View.{view, members_view}
use Rattle.lsp_shape.specs.Plain.{entries_of, put_entry}
use Rattle.lsp_shape.specs.Shape.{has_name}
use Rattle.lsp_shape.specs.Read.{read, read_entries}
use Rattle.lsp_shape.specs.Why.{IsOfMember}
use Rattle.lsp_shape.specs.declared.why.Misfit.TheVariants as misfits
use Rattle.lsp_shape.specs.declared.why.Why.{Why}
use Rattle.lsp_shape.proofs.Names.{has_name-borrowed}
use Rattle.lsp_shape.proofs.Tables.{entries_of-updated}
use Rattle.lsp_shape.proofs.Entries.{IsReadSoFar, begun, passed_over, read_more, key_unfit, next_found, ended, ascending_members}
use Rattle.lsp_shape.proofs.Refusals.{passed, key_fails, entry_told}
use Rattle.lsp_shape.proofs.Told.{as_read}
use Rattle.lsp_shape.proofs.map.rest.Goals as goal

pub loop-name-init : goal.loop-name-init
loop-name-init g c =
    let start : c.into_iter-name-iterator.result ≡ c.args.members.now.entries = cc in
    rw (start, c.new-entries.ensures.empty)
    (begun (map (λ n. n.now) c.args.names.now) g.K.Key.is_key (read g.T.Wire.shape) (members_view c.args.members.now.entries) (ascending_members c.args.members.now.entries c.iter-name-items.ensures.ordered))

pub loop-name-preserved-then-is_named : goal.loop-name-preserved-then-is_named
loop-name-preserved-then-is_named g c =
    let ns = map (λ (n : Bor (List ℕ)). n.now) c.args.names.now in
    let name = string_bytes c.in-Some.name.now in
    let all = members_view c.args.members.now.entries in
    let done = entries_of g.K.Key.key_text g.T.Wire.shown c.loop-name.entries.entries in
    let left = members_view c.next.new.self in
    let here = subst (λ (es : List (String Global × Value)). IsReadSoFar ns g.K.Key.is_key (read g.T.Wire.shape) all (members_view es) done) c.in-Some.ensures.steps c.loop-name.invariant in
    let named = ap (λ (t : List ℕ). has_name t ns) (sym c.as_str.ensures.value) ∙ has_name-borrowed c.as_str.result.now c.args.names.now ∙ sym c.if-is_named.ensures in
    passed_over ns g.K.Key.is_key (read g.T.Wire.shape) all name (view c.in-Some.member.now) left done named here

pub returns-in_err-key-clause-unfit : goal.returns-in_err-key-clause-unfit
returns-in_err-key-clause-unfit g c =
    let ns = map (λ (n : Bor (List ℕ)). n.now) c.args.names.now in
    let name = string_bytes c.in-Some.name.now in
    let all = members_view c.args.members.now.entries in
    let done = entries_of g.K.Key.key_text g.T.Wire.shown c.loop-name.entries.entries in
    let left = members_view c.next.new.self in
    let here = subst (λ (es : List (String Global × Value)). IsReadSoFar ns g.K.Key.is_key (read g.T.Wire.shape) all (members_view es) done) c.in-Some.ensures.steps c.loop-name.invariant in
    let named = ap (λ (t : List ℕ). has_name t ns) (sym c.as_str.ensures.value) ∙ has_name-borrowed c.as_str.result.now c.args.names.now ∙ sym c.if-is_named.ensures in
    let unread = λ (why : Why) (is : c.in_err-key.field-0.0 ≡ misfits.Unfit why).
    key_unfit ns g.K.Key.is_key (read g.T.Wire.shape) all name (view c.in-Some.member.now) left done named
    (ap g.K.Key.is_key (sym c.as_str-in-loop-name.ensures.value) ∙ c.in_err-key.ensures.unfit why (ap Err is)) here in
    passed c.from_residual.result c.in_err-key.field-0.0 _ c.from_residual.ensures.1
    (λ why is. key_fails (read_entries ns g.K.Key.is_key (read g.T.Wire.shape)) all (c.in_err-key.ensures.whole why (ap Err is)) (unread why is))

pub returns-in_err-value-clause-unfit : goal.returns-in_err-value-clause-unfit
returns-in_err-value-clause-unfit g c =
    let ns = map (λ (n : Bor (List ℕ)). n.now) c.args.names.now in
    let name = string_bytes c.in-Some.name.now in
    let all = members_view c.args.members.now.entries in
    let done = entries_of g.K.Key.key_text g.T.Wire.shown c.loop-name.entries.entries in
    let left = members_view c.next.new.self in
    let here = subst (λ (es : List (String Global × Value)). IsReadSoFar ns g.K.Key.is_key (read g.T.Wire.shape) all (members_view es) done) c.in-Some.ensures.steps c.loop-name.invariant in
    let named = ap (λ (t : List ℕ). has_name t ns) (sym c.as_str.ensures.value) ∙ has_name-borrowed c.as_str.result.now c.args.names.now ∙ sym c.if-is_named.ensures in
    let found = next_found ns g.K.Key.is_key (read g.T.Wire.shape) all name (view c.in-Some.member.now) left done here in
    let text = c.as_str-in-loop-name-2.ensures.value in
    passed c.from_residual-in_err-value.result c.in_err-value.field-0.0 _ c.from_residual-in_err-value.ensures.1
    (λ why is. entry_told ns g.K.Key.is_key name all (view c.in-Some.member.now) named found c.from_value.ensures.unfit
    (subst (λ (t : List ℕ). IsOfMember t all c.from_value.result why) text (c.in_err-value.ensures.unfit why (ap Err is))))

pub loop-name-preserved : goal.loop-name-preserved
loop-name-preserved g c =
    let ns = map (λ (n : Bor (List ℕ)). n.now) c.args.names.now in
    let name = string_bytes c.in-Some.name.now in
    let all = members_view c.args.members.now.entries in
    let done = entries_of g.K.Key.key_text g.T.Wire.shown c.loop-name.entries.entries in
    let left = members_view c.next.new.self in
    let here = subst (λ (es : List (String Global × Value)). IsReadSoFar ns g.K.Key.is_key (read g.T.Wire.shape) all (members_view es) done) c.in-Some.ensures.steps c.loop-name.invariant in
    let named = ap (λ (t : List ℕ). has_name t ns) (sym c.as_str.ensures.value) ∙ has_name-borrowed c.as_str.result.now c.args.names.now ∙ sym c.if-is_named.ensures in
    let key = c.in_ok-key.ensures.read ∙ c.as_str-in-loop-name.ensures.value in
    let fits = ap g.K.Key.is_key (sym c.as_str-in-loop-name.ensures.value) ∙ c.in_ok-key.ensures.fits in
    let value = c.in_ok-value.value in
    let reads = as_read (λ x. read g.T.Wire.shape (view c.in-Some.member.now) ≡ Some (g.T.Wire.shown x)) c.in_ok-value.ensures.ok c.from_value.ensures.read in
    let more = entries_of-updated g.K.Key.key_text g.T.Wire.shown g.K.PartialEq.eq g.met.K.Key.told_by_text c.loop-name.entries.entries c.insert.new.self.entries c.in_ok-key.key value c.in_ok-insert.ensures.updates.0
    ∙ ap (λ (t : List ℕ). put_entry t (g.T.Wire.shown value) done) key in
    rw more (read_more ns g.K.Key.is_key (read g.T.Wire.shape) all name (view c.in-Some.member.now) left done (g.T.Wire.shown value) named fits reads here)

pub returns-clause-read : goal.returns-clause-read
returns-clause-read g c =
    let ns = map (λ (n : Bor (List ℕ)). n.now) c.args.names.now in
    let all = members_view c.args.members.now.entries in
    let done = entries_of g.K.Key.key_text g.T.Wire.shown c.loop-name.entries.entries in
    let end = subst (λ (es : List (String Global × Value)). IsReadSoFar ns g.K.Key.is_key (read g.T.Wire.shape) all (members_view es) done) c.in-None.ensures.steps.0 c.loop-name.invariant in
    ended ns g.K.Key.is_key (read g.T.Wire.shape) all done end
