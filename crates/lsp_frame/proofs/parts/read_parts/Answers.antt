use Rattle.std.proofs.Common.{◌≡◌, [], ◌∷◌, length, Some, codes, string_bytes, refl, sym, ap, ◌∙◌, arith, rules}
use Rattle.json.specs.Token.{Token}
use Rattle.json.specs.Json.{read_key, value}
use Rattle.json.specs.Lex.{tokens}
use Rattle.json.specs.Reads.{token_of}
use Rattle.serde_json.specs.Data.{no_members, object, string}
use Rattle.serde_json.specs.Read.{converted}
use Rattle.serde_json.specs.View.{view}
use Rattle.lsp_rpc.specs.Message.{id_of}
use Rattle.lsp_rpc.specs.Shown.{show_id}
use Rattle.lsp_text.specs.Floats.{of_json_by}
use Rattle.lsp_text.proofs.LetIn.{read_by-is}
use Rattle.lsp_text.proofs.Tokens.{some_with, string_read, members_over, object_read, whole_read}
use Rattle.lsp_frame.proofs.PartsPut.{put_version, put_id, put_method, put_params, put_outcome, IsOtherName, put_other, one_more, fewer}
use Rattle.lsp_frame.proofs.parts.read_parts.Goals as goal

pub members-init : goal.members-init
members-init c =
    (length c.next.new.self, no_members, omega arith, refl, c.requires)

pub members-preserved-then-str_eq : goal.members-preserved-then-str_eq
members-preserved-then-str_eq c =
    let floats = c.args.floats in
    let l = c.members in
    let k = c.in-Some.name.now in
    let s = c.next_key.new.self in
    let rest = c.next-in-jsonrpc.new.self in
    let text = c.in-Some-String-text.field-0-0.now in
    let named : read_key l.reader ≡ Some (Some k, s) = grind arith in
    let is : s ≡ Token.string text ∷ rest = c.in-Some-String-text.ensures.value ∙ ap (λ t. token_of t ∷ rest) c.in-Some-String-text.field-0-is in
    let same : text ≡ codes "2.0" = search rules in
    let read = ap (λ ts. converted (of_json_by floats) (value 126 ts)) is ∙ string_read floats text 126 rest ∙ ap (λ t. some_with (string t) rest) same in
    one_more floats c.next.new.self l.reader s rest l.parts _ k (string (codes "2.0")) l.invariant named read (omega (arith, ap length is))
    (rw c.in-jsonrpc.is (put_version l.parts))

pub members-preserved-then-str_eq-3 : goal.members-preserved-then-str_eq-3
members-preserved-then-str_eq-3 c =
    let floats = c.args.floats in
    let l = c.members in
    let k = c.in-Some.name.now in
    let s = c.next_key.new.self in
    let rest = c.next-in-method.new.self in
    let text = c.in-Some-String.text.now in
    let method = c.in_ok-from_str-in-Some-String.field-0 in
    let named : read_key l.reader ≡ Some (Some k, s) = grind arith in
    let is : s ≡ Token.string text ∷ rest = c.in-Some-String.ensures.value ∙ ap (λ t. token_of t ∷ rest) c.in-Some-String.field-0-is in
    let same : string_bytes method ≡ text = c.in_ok-from_str-in-Some-String.ensures.ok in
    let read = ap (λ ts. converted (of_json_by floats) (value 126 ts)) is ∙ string_read floats text 126 rest ∙ ap (λ t. some_with (string t) rest) (sym same) in
    one_more floats c.next.new.self l.reader s rest l.parts _ k (string (string_bytes method)) l.invariant named read (omega (arith, ap length is))
    (rw c.in-method.is (λ ms are. put_method l.parts ms method are))

pub members-smaller-then-str_eq-4 : goal.members-smaller-then-str_eq-4
members-smaller-then-str_eq-4 c =
    fewer c.members.reader c.next_key.new.self c.read_value.new.reader c.in-Some.name.now (grind arith) c.in_ok-value-in_default-name.ensures.shorter

pub members-preserved-then-str_eq-4 : goal.members-preserved-then-str_eq-4
members-preserved-then-str_eq-4 c =
    let l = c.members in
    let k = c.in-Some.name.now in
    let s = c.next_key.new.self in
    let read = c.in_ok-value-in_default-name in
    let d = view read.value in
    let id = c.in_ok-ok_or-in-id.field-0 in
    let named : read_key l.reader ≡ Some (Some k, s) = grind arith in
    let is : id_of d ≡ Some (show_id id) = search rules in
    one_more c.args.floats c.next.new.self l.reader s c.read_value.new.reader l.parts _ k d l.invariant named read.ensures.value read.ensures.shorter
    (rw c.in-id.is (λ ms are. put_id l.parts ms d id is read.ensures.clean are))

pub members-smaller-then-str_eq-5 : goal.members-smaller-then-str_eq-5
members-smaller-then-str_eq-5 c =
    fewer c.members.reader c.next_key.new.self c.read_value.new.reader c.in-Some.name.now (grind arith) c.in_ok-value-in_default-name.ensures.shorter

pub members-preserved-then-str_eq-5 : goal.members-preserved-then-str_eq-5
members-preserved-then-str_eq-5 c =
    let l = c.members in
    let k = c.in-Some.name.now in
    let s = c.next_key.new.self in
    let read = c.in_ok-value-in_default-name in
    let named : read_key l.reader ≡ Some (Some k, s) = grind arith in
    one_more c.args.floats c.next.new.self l.reader s c.read_value.new.reader l.parts _ k (view read.value) l.invariant named read.ensures.value read.ensures.shorter
    (rw c.in-params.is (λ ms are. put_params l.parts ms read.value read.ensures.clean are))

pub members-smaller-then-str_eq-6 : goal.members-smaller-then-str_eq-6
members-smaller-then-str_eq-6 c =
    fewer c.members.reader c.next_key.new.self c.read_value.new.reader c.in-Some.name.now (grind arith) c.in_ok-value-in_default-name.ensures.shorter

pub members-preserved-then-str_eq-6 : goal.members-preserved-then-str_eq-6
members-preserved-then-str_eq-6 c =
    let l = c.members in
    let k = c.in-Some.name.now in
    let s = c.next_key.new.self in
    let read = c.in_ok-value-in_default-name in
    let named : read_key l.reader ≡ Some (Some k, s) = grind arith in
    one_more c.args.floats c.next.new.self l.reader s c.read_value.new.reader l.parts _ k (view read.value) l.invariant named read.ensures.value read.ensures.shorter
    (rw c.in-result.is (λ ms are. put_outcome l.parts ms read.value read.ensures.clean are))

pub members-smaller-then-str_eq-7 : goal.members-smaller-then-str_eq-7
members-smaller-then-str_eq-7 c =
    fewer c.members.reader c.next_key.new.self c.read_value.new.reader c.in-Some.name.now (grind arith) c.in_ok-value-in_default-name.ensures.shorter

pub members-preserved-then-str_eq-7 : goal.members-preserved-then-str_eq-7
members-preserved-then-str_eq-7 c =
    let l = c.members in
    let k = c.in-Some.name.now in
    let s = c.next_key.new.self in
    let read = c.in_ok-value-in_default-name in
    let named : read_key l.reader ≡ Some (Some k, s) = grind arith in
    one_more c.args.floats c.next.new.self l.reader s c.read_value.new.reader l.parts _ k (view read.value) l.invariant named read.ensures.value read.ensures.shorter
    (rw c.in-error.is c.in_ok-keep_error-in-error.ensures)

pub members-preserved : goal.members-preserved
members-preserved c =
    let l = c.members in
    let k = c.in-Some.name.now in
    let s = c.next_key.new.self in
    let read = c.in_ok-value-in_default-name in
    let d = view read.value in
    let named : read_key l.reader ≡ Some (Some k, s) = grind arith in
    let other : IsOtherName k = record {
      no_version = λ e. c.in_default-name.not-jsonrpc (sym e);
      no_id = λ e. c.in_default-name-2.not-id (sym e);
      no_method = λ e. c.in_default-name.not-method (sym e);
      no_params = λ e. c.in_default-name-2.not-params (sym e);
      no_outcome = λ e. c.in_default-name-2.not-result (sym e);
      no_error = λ e. c.in_default-name-2.not-error (sym e);
    } in
    one_more c.args.floats c.next.new.self l.reader s c.read_value.new.reader l.parts l.parts k d l.invariant named read.ensures.value read.ensures.shorter
    (λ ms are. put_other l.parts ms k d other read.ensures.clean are)

pub returns : goal.returns
returns c =
    let l = c.members in
    let ms = l.invariant.1 in
    let floats = c.args.floats in
    let rest = c.next.new.self in
    let left = c.next_key.new.self in
    let first : c.in_ok-reader.reader ≡ token_of c.in_ok-token.token ∷ rest = grind arith in
    let is : c.in_ok-reader.reader ≡ Token.begin_object ∷ rest = first ∙ ap (λ k. token_of k ∷ rest) c.in-BeginObject.is in
    let none : left ≡ [] = search rules in
    let over = l.invariant.3 ∙ members_over floats (value 126) ms l.invariant.0 l.reader left l.invariant.2 (grind arith) in
    let opened = ap (λ ts. converted (of_json_by floats) (value 127 ts)) (sym c.in_ok-reader.ensures.ok ∙ is) ∙ object_read floats 127 rest left ms (omega arith) over in (
      ms,
      read_by-is floats c.args.text.now ∙ whole_read floats (value 127 (tokens c.args.text.now)) (object ms) (opened ∙ ap (some_with (object ms)) none),
      l.invariant.4,
    )
