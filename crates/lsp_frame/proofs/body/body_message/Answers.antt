use Rattle.std.specs.Prelude.{OnErr}
use Rattle.std.proofs.Common.{◌≡◌, Result, Ok, Err, Some, Bool, true, false, cond, List, ℕ, sym, ap, ◌∙◌}
use Rattle.std.specs.Option.{option_and_then}
use Rattle.std.specs.Str.{is_utf8}
use Rattle.std.proofs.lemmas.Str.{is_utf8-from_IsUtf8, IsUtf8-from_is_utf8}
use Rattle.std.proofs.lemmas.Bool.{false_from_ne_true}
use Rattle.std.proofs.lemmas.Result.{IfOk-weaker}
use Rattle.lsp_rpc.specs.Message.{clean_message}
use Rattle.lsp_rpc.specs.Shown.{show_message}
use Rattle.lsp_text.specs.Floats.{read_by}
use Rattle.lsp_text.specs.declared.floats.Floats.{Floats}
use Rattle.lsp_frame.specs.Transitions.{fault, of_value, body_item_by}
use Rattle.lsp_frame.specs.declared.parse_error.ParseError.TheVariants.{Utf8}
use Rattle.lsp_frame.proofs.FramesRead.{value_back}
use Rattle.lsp_frame.proofs.body.body_message.Goals as goal

-- what the body tells, by whether it is a text
told : (floats : Floats) (body : List ℕ) (b : Bool) → is_utf8 body ≡ b → cond b (of_value (read_by floats body)) (fault Utf8) ≡ body_item_by floats body
told floats body b is = sym (ap (λ t. cond t (of_value (read_by floats body)) (fault Utf8)) is)

on_err : {T E P : Type 0} (r : Result T E) → P → OnErr r P
on_err (Ok x) holds = tt
on_err (Err e) holds = holds

pub returns-in_default-clause-value : goal.returns-in_default-clause-value
returns-in_default-clause-value c =
    let body = c.args.body.now in
    told c.args.floats body false (false_from_ne_true _ (λ h. c.in_default.ensures.cases.0 (IsUtf8-from_is_utf8 body h)))

pub returns-in-Ok-read_by-clause-value : goal.returns-in-Ok-read_by-clause-value
returns-in-Ok-read_by-clause-value c =
    let floats = c.args.floats in
    let body = c.args.body.now in
    let m = show_message c.in-Ok-read_by.message in
    let read : option_and_then clean_message (read_by floats body) ≡ Some m =
    ap (λ t. option_and_then clean_message (read_by floats t)) (sym c.in-Ok.ensures.cases.0) ∙ c.in-Ok-read_by.ensures.value in
    sym (value_back (read_by floats body) m read) ∙ told floats body true (is_utf8-from_IsUtf8 body c.in-Ok.ensures.cases.1)

pub returns-in-Err-clause-value : goal.returns-in-Err-clause-value
returns-in-Err-clause-value c =
    let floats = c.args.floats in
    let body = c.args.body.now in
    IfOk-weaker c.text_message.result _ _
    (λ f is. is ∙ ap (λ t. of_value (read_by floats t)) c.in-Ok.ensures.cases.0 ∙ told floats body true (is_utf8-from_IsUtf8 body c.in-Ok.ensures.cases.1))
    c.text_message.ensures.value

pub returns-in-Err-clause-utf8 : goal.returns-in-Err-clause-utf8
returns-in-Err-clause-utf8 c = on_err c.text_message.result (is_utf8-from_IsUtf8 c.args.body.now c.in-Ok.ensures.cases.1)
