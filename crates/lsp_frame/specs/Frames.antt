-- The frame of a message: its length, an empty line, and its text.
use Rattle.std.specs.Prelude.{◌≡◌, ℕ, ◌^◌, ◌<◌, ◌≤◌, List, [], ◌∷◌, ◌++◌, length, codes, decimal}
use Rattle.lsp_rpc.specs.Message.{MessageData, message_text}
use Rattle.lsp_frame.specs.declared.limits.Limits.{Limits}
use Rattle.lsp_frame.specs.Transitions.{message, body_item}

-- the head of a body of so many bytes
abbrev pub head_text : ℕ → List ℕ
head_text n = codes "Content-Length: " ++ decimal n ++ codes "\r\n\r\n"

-- a body after its head
abbrev pub framed : List ℕ → List ℕ
framed body = head_text (length body) ++ body

-- the frame of a message
abbrev pub frame_text : MessageData → List ℕ
frame_text m = framed (message_text m)

-- the frames one after the other
abbrev pub frames : List MessageData → List ℕ
frames [] = []
frames (m ∷ ms) = frame_text m ++ frames ms

-- a body that isn't empty, and its head, are within the limits
abbrev pub IsBodyWithin : Limits → List ℕ → Type 0
IsBodyWithin limits body = (0 < length body) × (length body ≤ limits.body) × (length (head_text (length body)) ≤ limits.head)

-- the frame of a message is within the limits
abbrev pub IsWithin : Limits → MessageData → Type 0
IsWithin limits m = (length (message_text m) ≤ limits.body) × (length (head_text (length (message_text m))) ≤ limits.head)

-- the text of a message is read as that message, and its length fits 64 bits
abbrev pub IsReadBack : MessageData → Type 0
IsReadBack m = (body_item (message_text m) ≡ message m) × (length (message_text m) < 2 ^ 64)
