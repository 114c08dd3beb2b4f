-- The text of a notification that goes to several editors, and its frames.
use Rattle.std.proofs.Common.{◌≡◌, ℕ, ◌+◌, List, [], ◌∷◌, ◌++◌, Bool, false, ◌==◌, codes, sym, ◌∙◌, ap, append_assoc, length, length-append, arith}
use Rattle.std.specs.Prelude.{decimal}
use Rattle.std.proofs.lemmas.List.{append-nil}
use Rattle.json.specs.Print.{escape_byte}
use Rattle.serde_json.specs.Written.{compact_text}
use Rattle.lsp_rpc.specs.Message.{RequestData, MessageData, request, message_text, message_has_float}
use Rattle.lsp_frame.specs.Frames.{framed}
use Rattle.lsp_proxy.specs.declared.side.Side.TheVariants.{Editor}
use Rattle.lsp_relay.specs.Value.{message_value}
use Rattle.lsp_relay.specs.Notes.{note_of}
use Rattle.lsp_relay.specs.Broadcast.{text_before_side, text_to, sent_to}
use Rattle.lsp_relay.specs.Floats.{AreFloatFree}
use Rattle.lsp_relay.specs.Relay.{sent_frames}

joined : (x s n : List ℕ) → ((x ++ (s ++ (n ++ codes "}"))) ++ []) ++ codes "}" ≡ (x ++ s) ++ (n ++ codes "}}")
joined x s n = simp (append_assoc, append-nil)

-- the text of the notification to editor k is that text with the number of its side
pub text_to-note : (k : ℕ) (m : MessageData) → message_text (note_of (Editor k, m)) ≡ text_to (text_before_side m) k
unfolding escape_byte
text_to-note k m =
    ap (λ l. codes "{\"jsonrpc\":\"2.0\",\"method\":\"proxy/out\",\"params\":{\"message\":" ++ l) (joined (compact_text (message_value m)) (codes ",\"side\":") (decimal (k + 1)))

six : (a b c d e f g : List ℕ) → (((((a ++ b) ++ c) ++ d) ++ e) ++ f) ++ g ≡ a ++ (((b ++ c) ++ d) ++ (e ++ (f ++ g)))
six a b c d e f g = simp append_assoc

-- the pieces of a frame, one after the other
pub framed_pieces : (before text side : List ℕ) (n : ℕ) → n ≡ length text + length side + 2
    → (((((before ++ codes "Content-Length: ") ++ decimal n) ++ codes "\r\n\r\n") ++ text) ++ side) ++ codes "}}" ≡ before ++ framed (text ++ (side ++ codes "}}"))
framed_pieces before text side n is =
    let whole : length (text ++ (side ++ codes "}}")) ≡ length text + length side + 2 = omega (arith, length-append text (side ++ codes "}}"), length-append side (codes "}}")) in
    six before (codes "Content-Length: ") (decimal n) (codes "\r\n\r\n") text side (codes "}}")
    ∙ ap (λ k. before ++ (((codes "Content-Length: " ++ decimal k) ++ codes "\r\n\r\n") ++ (text ++ (side ++ codes "}}")))) (is ∙ sym whole)

-- one editor more
pub sent_frames-next : (r : RequestData) (editors rest : List ℕ) (k : ℕ) → editors ≡ k ∷ rest
    → sent_frames (sent_to r editors) ≡ framed (text_to (text_before_side (request r)) k) ++ sent_frames (sent_to r rest)
sent_frames-next r editors rest k is =
    ap (λ l. sent_frames (sent_to r l)) is ∙ ap (λ t. framed t ++ sent_frames (sent_to r rest)) (text_to-note k (request r))

-- a notification that goes to some editor holds no float
pub free_to_some : (r : RequestData) (editors : List ℕ) (none : Bool) → none ≡ (length editors == 0) → none ≡ false → AreFloatFree (sent_to r editors) → message_has_float (request r) ≡ false
free_to_some r [] none is some free = cc
free_to_some r (k ∷ rest) none is some free = free.0
