-- A frame that was written is read as one item, and decoding goes on after it.
use Rattle.std.proofs.Common.{◌≡◌, ℕ, suc, ◌+◌, ◌-◌, ◌^◌, ◌<◌, ◌≤◌, List, [], ◌∷◌, ◌++◌, length, take, drop, Bool, true, false, ◌==◌, nat_lt, cond, Option, Some, None, Ok, codes, decimal, refl, sym, ap, ◌∙◌, arith, append_assoc, append-nil, length-append}
use Rattle.std.specs.Option.{option_map, option_and_then}
use Rattle.std.specs.Str.{IsUtf8, is_utf8}
use Rattle.std.proofs.lemmas.Str.{is_utf8-from_IsUtf8}
use Rattle.std.proofs.lemmas.Grind.{common_steps}
use Rattle.std.proofs.lemmas.List.Elements.{All-nil, All-cons}
use Rattle.std.proofs.lemmas.List.Sums.{AllPass-from_list_all}
use Rattle.httparse.specs.Grammar.{is_token_byte, Field, IsField, IsToken, crlf, print_section}
use Rattle.lsp_frame.specs.Blocks.{Header, block_len, place_after, headers_in}
use Rattle.lsp_frame.specs.Headers.{content_length}
use Rattle.serde_json.specs.Data.{Data}
use Rattle.serde_json.specs.Read.{read}
use Rattle.serde_json.specs.Written.{has_float}
use Rattle.lsp_text.specs.Floats.{without_floats}
use Rattle.lsp_text.specs.declared.floats.Floats.{Floats}
use Rattle.lsp_text.specs.declared.floats.Floats.TheVariants.{Refused, Read}
use Rattle.lsp_text.proofs.LetIn.{unchanged}
use Rattle.lsp_rpc.specs.Message.{MessageData, response, request, message_text, message as message_of, clean_message}
use Rattle.lsp_rpc.specs.Back.{ReadsAs}
use Rattle.lsp_frame.specs.Frames.{head_text, framed, frame_text, frames, IsBodyWithin, IsWithin, IsReadBack}
use Rattle.lsp_frame.specs.Laws.{FramesRead, MessagesRead, SameMessages}
use Rattle.lsp_frame.specs.Transitions.{Item, message, fault, go, transition, at_frame, at_block, at_head, at_headers, at_length, body_item, body_item_by, of_value, of_message}
use Rattle.lsp_frame.specs.Items.{strict, items_after, all_from, items, items_by}
use Rattle.lsp_frame.specs.declared.parse_error.ParseError.TheVariants.{Utf8, Rest, BodyTooLong}
use Rattle.lsp_frame.specs.declared.decode_state.DecodeState.TheVariants.{Frame, Body, Skip}
use Rattle.lsp_frame.specs.declared.limits.Limits.{Limits}
use Rattle.lsp_frame.specs.declared.settings.CodecSettings.{CodecSettings}
use Rattle.lsp_frame.proofs.TransitionSteady.{front_more}
use Rattle.lsp_frame.proofs.Sections.{headers_of_section}
use Rattle.lsp_frame.proofs.ItemsByTransition.{all_from-transition}
use Rattle.lsp_frame.proofs.DecimalText.{AreDigits, decimal_digits, length_of-decimal, trim_ows-decimal, decimal_passes, is_utf8-decimal}

-- ---- the block of a written head

not_lf : (c : ℕ) → 48 ≤ c → (c == 10) ≡ false
not_lf c low = grind arith

-- digits hold no empty line
after_digits : (i : ℕ) (ds ys : List ℕ) → AreDigits ds → place_after i false (ds ++ ys) ≡ place_after (i + length ds) false ys
after_digits i [] ys are = ap (λ j. place_after j false ys) (omega arith)
after_digits i (c ∷ cs) ys are =
    let later : i + 1 + length cs ≡ i + suc (length cs) = omega arith in
    rw (not_lf c are.0) (after_digits (i + 1) cs ys are.2 ∙ ap (λ j. place_after j false ys) later)

block_of_head : (n : ℕ) (rest : List ℕ) → n < 2 ^ 64 → block_len (head_text n ++ rest) ≡ Some (length (head_text n))
block_of_head n rest fits =
    let size : 16 + length (decimal n) + 4 ≡ length (head_text n) = omega (arith, length-append (decimal n) (codes "\r\n\r\n")) in
    ap (place_after 16 false) (append_assoc (decimal n) (codes "\r\n\r\n") rest)
    ∙ after_digits 16 (decimal n) (codes "\r\n\r\n" ++ rest) (decimal_digits n fits)
    ∙ ap Some (omega (arith, size))

-- ---- its header

abbrev length_field : ℕ → Field
length_field n = record { name = codes "Content-Length"; raw = 32 ∷ decimal n; end = crlf }

name_is : IsToken (codes "Content-Length")
unfolding is_token_byte
name_is = (omega arith, AllPass-from_list_all is_token_byte (codes "Content-Length") refl)

field_is : (n : ℕ) → n < 2 ^ 64 → IsField (length_field n)
field_is n fits = record { name = name_is; raw = decimal_passes n fits }

head_section : (n : ℕ) → head_text n ≡ print_section (length_field n ∷ []) crlf
head_section n = simp append_assoc

headers_of_head : (n : ℕ) → n < 2 ^ 64 → headers_in 2 (head_text n) ≡ Some ((codes "Content-Length", decimal n) ∷ [])
headers_of_head n fits =
    ap (headers_in 2) (head_section n)
    ∙ headers_of_section (length_field n ∷ []) 2 crlf (All-cons IsField (length_field n) [] (field_is n fits) (All-nil IsField)) (omega arith)
    ∙ ap (λ v. Some ((codes "Content-Length", v) ∷ [])) (trim_ows-decimal n fits)

length_of_head : (n : ℕ) → n < 2 ^ 64 → content_length None ((codes "Content-Length", decimal n) ∷ []) ≡ Ok (Some n)
length_of_head n fits = rw (is_utf8-decimal n fits, length_of-decimal n fits) refl

-- ---- the transitions of a frame

not_zero : (n : ℕ) → 0 < n → (n == 0) ≡ false
not_zero n some = grind arith

front : (xs ys : List ℕ) → take (length xs) (xs ++ ys) ≡ xs
front xs ys = grind (arith, common_steps)

after : (xs ys : List ℕ) → drop (length xs) (xs ++ ys) ≡ ys
after xs ys = grind (arith, common_steps)

within_front : (m : ℕ) (xs ys : List ℕ) → length xs ≤ m → take m (xs ++ ys) ≡ xs ++ take (m - length xs) ys
within_front m xs ys fits = front_more m xs ys ∙ ap (λ t. t ++ take (m - length xs) ys) (whole m xs fits)
  where
    whole : (m : ℕ) (xs : List ℕ) → length xs ≤ m → take m xs ≡ xs
    whole m xs fits = grind (arith, common_steps)

not_less : (a b : ℕ) → b ≤ a → nat_lt a b ≡ false
not_less a b le = grind arith

-- the head of a body of this length is followed by it, or by its skip
pub plain_transition : (limits : Limits) (n : ℕ) (rest : List ℕ) → n < 2 ^ 64 → length (head_text n) ≤ limits.head
    → at_frame limits (head_text n ++ rest) ≡ at_length limits (length (head_text n)) n
plain_transition limits n rest fits short =
    let head = head_text n in
    let some : 0 < length head = omega arith in
    let begun : (length (head ++ rest) == 0) ≡ false = not_zero (length (head ++ rest)) (omega (arith, length-append head rest)) in
    rw begun
    (ap (λ t. at_block limits (head ++ rest) (block_len t)) (within_front limits.head head rest short)
    ∙ ap (at_block limits (head ++ rest)) (block_of_head n (take (limits.head - length head) rest) fits)
    ∙ ap (λ h. at_head limits (length head) (headers_in 2 h)) (front head rest)
    ∙ ap (at_head limits (length head)) (headers_of_head n fits)
    ∙ ap (at_headers limits (length head)) (length_of_head n fits))

module _ (settings : CodecSettings) where
  transition_of_head : (head rest : List ℕ) (hs : List Header) (n : ℕ) → 0 < length head → length head ≤ settings.limits.head → n ≤ settings.limits.body
      → ((r : List ℕ) → block_len (head ++ r) ≡ Some (length head)) → headers_in 2 head ≡ Some hs → content_length None hs ≡ Ok (Some n)
      → transition settings Frame (head ++ rest) ≡ go None (Body n) (length head)
  transition_of_head head rest hs n some short small block headers len =
      let begun : (length (head ++ rest) == 0) ≡ false = not_zero (length (head ++ rest)) (omega (arith, length-append head rest)) in
      let allowed : nat_lt settings.limits.body n ≡ false = not_less settings.limits.body n small in
      rw begun
      (ap (λ t. at_block settings.limits (head ++ rest) (block_len t)) (within_front settings.limits.head head rest short)
      ∙ ap (at_block settings.limits (head ++ rest)) (block (take (settings.limits.head - length head) rest))
      ∙ ap (λ h. at_head settings.limits (length head) (headers_in 2 h)) (front head rest)
      ∙ ap (at_head settings.limits (length head)) headers
      ∙ ap (at_headers settings.limits (length head)) len
      ∙ ap (λ b. cond b (go (Some (fault BodyTooLong)) (Skip n) (length head)) (go None (Body n) (length head))) allowed)

  transition_of_body : (body rest : List ℕ) → 0 < length body → transition settings (Body (length body)) (body ++ rest) ≡ go (Some (body_item_by settings.floats body)) Frame (length body)
  transition_of_body body rest some =
      let there : nat_lt (length (body ++ rest)) (length body) ≡ false = grind (arith, length-append body rest) in
      rw (there, not_zero (length body) some) (ap (λ b. go (Some (body_item_by settings.floats b)) Frame (length body)) (front body rest))

  head_transitions : (last : List Item) (head rest : List ℕ) (n : ℕ) → transition settings Frame (head ++ rest) ≡ go None (Body n) (length head)
      → all_from settings last Frame (head ++ rest) ≡ all_from settings last (Body n) rest
  head_transitions last head rest n is =
      all_from-transition settings last Frame (head ++ rest)
      ∙ ap (items_after (λ j d. all_from settings last j (drop d (head ++ rest))) last) is
      ∙ ap (all_from settings last (Body n)) (after head rest)

  body_transitions : (last : List Item) (body rest : List ℕ) → 0 < length body
      → all_from settings last (Body (length body)) (body ++ rest) ≡ body_item_by settings.floats body ∷ all_from settings last Frame rest
  body_transitions last body rest some =
      all_from-transition settings last (Body (length body)) (body ++ rest)
      ∙ ap (items_after (λ j d. all_from settings last j (drop d (body ++ rest))) last) (transition_of_body body rest some)
      ∙ ap (λ t. body_item_by settings.floats body ∷ all_from settings last Frame t) (after body rest)

  frame_transitions : (last : List Item) (body rest : List ℕ) → IsBodyWithin settings.limits body → length body < 2 ^ 64
      → all_from settings last Frame (framed body ++ rest) ≡ body_item_by settings.floats body ∷ all_from settings last Frame rest
  frame_transitions last body rest within fits =
      let n = length body in
      let head = head_text n in
      let begun : 0 < length head = omega arith in
      ap (all_from settings last Frame) (append_assoc head body rest)
      ∙ head_transitions last head (body ++ rest) n
      (transition_of_head head (body ++ rest) ((codes "Content-Length", decimal n) ∷ []) n begun within.2 within.1 (λ r. block_of_head n r fits) (headers_of_head n fits) (length_of_head n fits))
      ∙ body_transitions last body rest within.0

pub frames_read_lem : FramesRead
frames_read_lem settings body rest within fits = (frame_transitions settings (fault Rest ∷ []) body rest within fits, frame_transitions settings [] body rest within fits)

-- ---- the frames of messages that are read back

-- a message without floats is the same message where they are let in
let_in_same : (d : Data) (h : Bool) (m : MessageData) → has_float d ≡ h → of_message (clean_message d) ≡ message m → of_message (clean_message (without_floats d)) ≡ message m
let_in_same d true m is e =
    let none : of_message None ≡ message m = sym (ap (λ b. of_message (cond b None (message_of d))) is) ∙ e in
    absurd (cc)
let_in_same d false m is e = ap (λ x. of_message (clean_message x)) (unchanged d is) ∙ e

let_in_body : (b : Bool) (o : Option Data) (m : MessageData) → cond b (of_value o) (fault Utf8) ≡ message m → cond b (of_value (option_map without_floats o)) (fault Utf8) ≡ message m
let_in_body true None m e = e
let_in_body true (Some d) m e = let_in_same d (has_float d) m refl e
let_in_body false o m e = e

pub same_messages_lem : SameMessages
same_messages_lem Refused body m e = e
same_messages_lem Read body m e = let_in_body (is_utf8 body) (read body) m e

read_back_by : (floats : Floats) (m : MessageData) → IsReadBack m → body_item_by floats (message_text m) ≡ message m
read_back_by floats m back = same_messages_lem floats (message_text m) m back.0

text_some : (m : MessageData) → 0 < length (message_text m)
text_some (response r) = omega arith
text_some (request r) = omega arith

pub messages_read_lem : MessagesRead
messages_read_lem settings [] c back = refl
messages_read_lem settings (m ∷ ms) c back =
    ap (items_by settings) (append_assoc (frame_text m) (frames ms) c)
    ∙ (frames_read_lem settings (message_text m) (frames ms ++ c) (text_some m, back.0.1.0, back.0.1.1) back.0.0.1).0
    ∙ ap (λ x. x ∷ items_by settings (frames ms ++ c)) (read_back_by settings.floats m back.0.0)
    ∙ ap (λ xs. message m ∷ xs) (messages_read_lem settings ms c back.1)

-- a message that is read back stands alone in its frame
pub frame_read_alone : (m : MessageData) → IsReadBack m → (limits : Limits) → IsWithin limits m → items limits (frame_text m) ≡ message m ∷ []
frame_read_alone m back limits within =
    ap (items limits) (sym (append-nil (frame_text m)))
    ∙ (frames_read_lem (strict limits) (message_text m) [] (text_some m, within.0, within.1) back.1).0
    ∙ ap (λ x. x ∷ []) back.0

-- ---- the text of a message that can be read back

abbrev IsMessage : Option MessageData → MessageData → Type 0
IsMessage o m = o ≡ Some m

pub value_back : (o : Option Data) (m : MessageData) → IsMessage (option_and_then clean_message o) m → of_value o ≡ message m
value_back None m e = let f : IsMessage None m = e in absurd cc
value_back (Some d) m e = ap of_message e

-- a text that is read as a message, and is that message's, is read back
pub text_read_back : (text : List ℕ) (m : MessageData) → IsUtf8 text → length text < 2 ^ 64 → text ≡ message_text m → ReadsAs text m → IsReadBack m
text_read_back text m utf8 fits is back = (
  ap body_item (sym is) ∙ ap (λ b. cond b (of_value (read text)) (fault Utf8)) (is_utf8-from_IsUtf8 text utf8) ∙ value_back (read text) m back,
  rw (sym is) fits,
)
