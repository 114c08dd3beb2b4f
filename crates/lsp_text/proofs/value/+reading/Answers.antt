use Rattle.std.proofs.Common.{◌≡◌, Bool as Truth, String as Text, Global, ◌∷◌, ◌++◌, [], ◌-◌, ◌<◌, length, Some, None, string_bytes, sym, ap, ◌∙◌, arith, rules}
use Rattle.json.specs.Json.{value, items, members, parse_map, after_end_array, read_key}
use Rattle.json.specs.Reads.{token_of}
use Rattle.json.proofs.Grammar.{read_key-shorter}
use Rattle.serde_json.specs.Data.{null, boolean, string, put}
use Rattle.serde_json.specs.declared.value.Value.{Null, Bool, String, the_lemmas}
use Rattle.serde_json.specs.Read.{converted}
use Rattle.serde_json.proofs.Views.{members_view-insert_entry}
use Rattle.lsp_text.specs.Floats.{of_json_by, of_items_by}
use Rattle.serde_json.specs.View.{view, items_view, members_view}
use Rattle.lsp_text.proofs.Clean.{push_clean, put_clean}
use Rattle.lsp_text.proofs.Tokens.{some_with, null_read, boolean_read, number_read, string_read, after_values, members_after, item_read, items_over, array_read, member_read, members_over, object_read}
use Rattle.lsp_text.proofs.value.+reading.Goals as goal

null_view : null ≡ view Null
null_view = search (rules, the_lemmas)

boolean_view : (b : Truth) → boolean b ≡ view (Bool b)
boolean_view b = search (rules, the_lemmas)

string_view : (s : Text Global) → string (string_bytes s) ≡ view (String s)
string_view s = search (rules, the_lemmas)

pub read_value-returns-in-Null-clause-value : goal.read_value-returns-in-Null-clause-value
read_value-returns-in-Null-clause-value t c =
    let rest = c.next.new.self in
    let taken : c.args.reader.now ≡ token_of c.in_ok-ok_or.field-0 ∷ rest = search rules in
    rw taken (rw c.in-Null.is (null_read c.args.floats c.args.depth rest ∙ ap (λ d. some_with d rest) null_view))

pub read_value-returns-in-Bool-clause-value : goal.read_value-returns-in-Bool-clause-value
read_value-returns-in-Bool-clause-value t c =
    let rest = c.next.new.self in
    let b = c.in-Bool.truth in
    let taken : c.args.reader.now ≡ token_of c.in_ok-ok_or.field-0 ∷ rest = search rules in
    rw taken (rw c.in-Bool.is (boolean_read c.args.floats b c.args.depth rest ∙ ap (λ d. some_with d rest) (boolean_view b)))

pub read_value-returns-in-Some-clause-value : goal.read_value-returns-in-Some-clause-value
read_value-returns-in-Some-clause-value t c =
    let rest = c.next.new.self in
    let taken : c.args.reader.now ≡ token_of c.in_ok-ok_or.field-0 ∷ rest = search rules in
    rw taken (rw c.in-Number.is (number_read c.args.floats c.in-Number.text.now (view c.in-Some.value) c.in-Some.ensures.value c.args.depth rest))

pub read_value-returns-in_ok-from_str-in-String-clause-value : goal.read_value-returns-in_ok-from_str-in-String-clause-value
read_value-returns-in_ok-from_str-in-String-clause-value t c =
    let rest = c.next.new.self in
    let s = c.in_ok-from_str-in-String.field-0 in
    let same : string_bytes s ≡ c.in-String.text.now = search rules in
    let taken : c.args.reader.now ≡ token_of c.in_ok-ok_or.field-0 ∷ rest = search rules in
    rw taken (rw c.in-String.is (string_read c.args.floats c.in-String.text.now c.args.depth rest ∙ ap (λ d. some_with d rest) (ap string (sym same) ∙ string_view s)))

pub read_items-items-preserved : goal.read_items-items-preserved
read_items-items-preserved t c =
    let p = value (c.args.depth - 1) in
    let l = c.items in
    let n = l.invariant.0 in
    let old = l.items.items in
    let v = c.in_ok-item.item in
    let r = c.read_value.new.reader in
    let unclosed : after_end_array l.reader ≡ None = c.items-test.ensures.0 in
    let same : c.take_end_array.new.self ≡ l.reader = c.items-test.ensures.1 in
    let read : converted (of_json_by c.args.floats) (p l.reader) ≡ Some (view v, r) = ap (λ ts. converted (of_json_by c.args.floats) (p ts)) (sym same) ∙ c.in_ok-item.ensures.value in
    let lesser : length r < length l.reader = omega (arith, c.in_ok-item.ensures.shorter, ap length same) in
    let more : c.push.new.self.items ≡ old ++ v ∷ [] = c.in_ok-push.ensures.items in (
      n - 1,
      omega (arith, l.invariant.1),
      omega (arith, l.invariant.2),
      l.invariant.3 ∙ item_read c.args.floats p old v n l.reader r (omega (arith, l.invariant.1)) unclosed read ∙ ap (λ vs. parse_map (after_values vs) (converted (of_items_by c.args.floats) (items p (n - 1) r))) (sym more),
      rw more (push_clean old v l.invariant.4 c.in_ok-item.ensures.clean),
    )

pub read_items-returns-clause-value : goal.read_items-returns-clause-value
read_items-returns-clause-value t c =
    let l = c.items in
    array_read c.args.floats c.args.depth c.args.reader.now c.take_end_array.new.self (items_view l.items.items) (omega arith)
    (l.invariant.3 ∙ items_over c.args.floats (value (c.args.depth - 1)) l.items.items l.invariant.0 l.reader c.take_end_array.new.self l.invariant.1 c.items-test.ensures)

pub read_members-members-preserved : goal.read_members-members-preserved
read_members-members-preserved t c =
    let p = value (c.args.depth - 1) in
    let l = c.members in
    let n = l.invariant.0 in
    let old = members_view l.members.entries in
    let k = c.in-Some.name.now in
    let s = c.next_key.new.self in
    let r = c.read_value.new.reader in
    let v = c.in_ok-member.member in
    let named : read_key l.reader ≡ Some (Some k, s) = grind arith in
    let less = read_key-shorter l.reader (Some k) s named in
    let lesser = c.in_ok-member.ensures.shorter in
    let same : string_bytes c.in_ok-key.key ≡ k = search rules in
    let put_in : members_view c.insert.new.self.entries ≡ put (string_bytes c.in_ok-key.key) (view v) old
    = ap members_view c.in_ok-insert.ensures.entries ∙ members_view-insert_entry l.members.entries c.in_ok-key.key v in
    let more : members_view c.insert.new.self.entries ≡ put k (view v) old = put_in ∙ ap (λ name. put name (view v) old) same in (
      n - 1,
      omega (arith, l.invariant.1),
      omega (arith, l.invariant.2),
      l.invariant.3 ∙ member_read c.args.floats p old n k l.reader s r (view v) (omega (arith, l.invariant.1)) named c.in_ok-member.ensures.value ∙ ap (λ ms. converted (members_after c.args.floats ms) (members p (n - 1) r)) (sym more),
      rw more (put_clean k (view v) old l.invariant.4 c.in_ok-member.ensures.clean),
    )

pub read_members-returns-clause-value : goal.read_members-returns-clause-value
read_members-returns-clause-value t c =
    let l = c.members in
    object_read c.args.floats c.args.depth c.args.reader.now c.next_key.new.self (members_view l.members.entries) (omega arith)
    (l.invariant.3 ∙ members_over c.args.floats (value (c.args.depth - 1)) (members_view l.members.entries) l.invariant.0 l.reader c.next_key.new.self l.invariant.1 (grind arith))
