use Rattle.std.proofs.Common.{◌≡◌, ◌<◌, ◌^◌, ◌++◌, List, ℕ, codes, decimal, length, sym, ap, subst, ◌∙◌, rules, append_assoc}
use Rattle.lsp_rpc.specs.Back.{ReadsAs}
use Rattle.lsp_rpc.specs.Message.{message_text}
use Rattle.lsp_rpc.specs.Shown.{show_message}
use Rattle.lsp_frame.specs.Frames.{head_text, framed}
use Rattle.lsp_frame.proofs.FramesRead.{text_read_back, frame_read_alone}
use Rattle.lsp_frame.proofs.encode.push_message.Goals as goal

apart : (out name digits end body : List ℕ) → (((out ++ name) ++ digits) ++ end) ++ body ≡ out ++ ((name ++ digits ++ end) ++ body)
apart out name digits end body = simp append_assoc

-- the pieces that are appended one after the other are the frame
appended : (out a b c d e digits body text : List ℕ) → a ≡ out → b ≡ a ++ codes "Content-Length: " → c ≡ b ++ digits → d ≡ c ++ codes "\r\n\r\n" → e ≡ d ++ body
    → digits ≡ decimal (length text) → body ≡ text → e ≡ out ++ framed text
appended out a b c d e digits body text same named numbered ended whole written is =
    let name = codes "Content-Length: " in
    let end = codes "\r\n\r\n" in
    whole
    ∙ ap (λ x. x ++ body) (ended ∙ ap (λ x. x ++ end) (numbered ∙ ap (λ x. x ++ digits) (named ∙ ap (λ x. x ++ name) same)))
    ∙ apart out name digits end body
    ∙ ap (λ x. out ++ ((name ++ x ++ end) ++ body)) written
    ∙ ap (λ x. out ++ (head_text (length text) ++ x)) is

pub returns-clause-ok : goal.returns-clause-ok
returns-clause-ok c =
    let body = c.as_str-body.result.now in
    let is : body ≡ message_text (show_message c.args.message.now) = c.as_str-body.ensures.value ∙ c.in_ok-body.ensures.text in
    let text : c.format-digits.result.now ≡ decimal (length body) = search rules in
    appended c.args.out.now.items _ _ _ _ _ c.as_bytes.result.now c.as_bytes-2.result.now (message_text (show_message c.args.message.now))
    c.in_ok-reserve.ensures.items c.extend_reserved.ensures.items c.extend_reserved-2.ensures.items c.extend_reserved-3.ensures.items c.extend_reserved-4.ensures.items
    (c.as_bytes.ensures.value ∙ text ∙ ap (λ t. decimal (length t)) is) (c.as_bytes-2.ensures.value ∙ is)

pub returns-clause-read_back : goal.returns-clause-read_back
returns-clause-read_back c = λ readable.
    let m = show_message c.args.message.now in
    let text = c.in_ok-body.ensures in
    let P : List ℕ → Type 0 = λ t. ReadsAs t m in
    let fits : length c.as_str-body.result.now < 2 ^ 64 = search rules in
    text_read_back c.as_str-body.result.now m c.as_str-body.utf8 fits (c.as_str-body.ensures.value ∙ text.text)
    (subst P (sym c.as_str-body.ensures.value) (text.reads_back readable))

pub returns-clause-reads_back : goal.returns-clause-reads_back
returns-clause-reads_back c = λ readable limits within. frame_read_alone (show_message c.args.message.now) (returns-clause-read_back c readable) limits within
