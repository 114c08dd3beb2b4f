-- A made-up session, and its summary.
use Rattle.std.specs.Prelude.{◌≡◌, ◌≤◌, ◌⊎◌, ℕ, suc, zero, ◌+◌, ◌*◌, ◌/◌, ◌%◌, ◌==◌, List, [], ◌++◌, length, codes, decimal, count_by, Bool, true, false, Option, Some, is_err, ⊤, if◌then◌else◌}
use Rattle.std.specs.Io.KnownBytes.{Appends}
use Rattle.lsp_rpc.specs.Message.{response, request}
use Rattle.lsp_frame.specs.Codec.{Item, message, fault, told, default_limits}
use Rattle.lsp_frame.specs.Frames.{framed}
use Rattle.lsp_server.specs.Served.{call_bytes}
use Rattle.lsp_server.specs.SourceSink.{CountRose}
use Rattle.lsp_server.specs.Written.{IsPrefixOf}
use Rattle.lsp_service.specs.declared.service.LspService.{LspService}
use Rattle.lsp_session.specs.Semantics.{Semantics}
use Rattle.lsp_stdio.specs.Stdio.{ServedWhole}
use Rattle.lsp_sample_server.specs.declared.sample.Sample.{Sample}
use Rattle.lsp_sample_run.specs.declared.arguments.MadeUp.{MadeUp}
use Rattle.lsp_sample_run.specs.Arguments.{default_setting}
use Rattle.lsp_sample_server.specs.Sessions.{IsSampleService}
use Rattle.lsp_sample_run.specs.Run.{HoldsOfSession, sample_setting}

-- ---- what the editor sends

-- the number after this one in the drawing
abbrev pub next_drawn : ℕ → ℕ
next_drawn x = (x * 1103515245 + 12345) % 2147483648

-- the k-th number that is drawn from a seed
abbrev pub number_drawn : ℕ → ℕ → ℕ
number_drawn seed zero = seed % 2147483648
number_drawn seed (suc k) = next_drawn (number_drawn seed k)

-- `workspace/executeCommand` with a command and, where there is one, its one argument
abbrev pub execute : ℕ → List ℕ → List ℕ
execute k params = codes "{\"jsonrpc\":\"2.0\",\"method\":\"workspace/executeCommand\",\"params\":{\"command\":\"" ++ params ++ codes "},\"id\":" ++ decimal k ++ codes "}"

abbrev pub echo_text : ℕ → List ℕ
echo_text k = execute k (codes "echo\",\"arguments\":[" ++ decimal k ++ codes "]")

abbrev pub wait_text : ℕ → ℕ → List ℕ
wait_text k polls = execute k (codes "wait\",\"arguments\":[" ++ decimal polls ++ codes "]")

-- a method that no server has
abbrev pub unknown_text : ℕ → List ℕ
unknown_text k = codes "{\"jsonrpc\":\"2.0\",\"method\":\"bulk/none\",\"id\":" ++ decimal k ++ codes "}"

-- a command that the sample doesn't have
abbrev pub unknown_command : ℕ → List ℕ
unknown_command k = execute k (codes "none\"")

abbrev pub initialized_text : List ℕ
initialized_text = codes "{\"jsonrpc\":\"2.0\",\"method\":\"initialized\",\"params\":{}}"

-- the kinds of messages, each as likely as another
abbrev pub by_kind : ℕ → ℕ → ℕ → List ℕ
by_kind kind k x =
    if kind == 0 then echo_text k
    else (if kind == 1 then wait_text k (x % 4)
    else (if kind == 2 then unknown_text k
    else (if kind == 3 then unknown_command k
    else initialized_text)))

-- the k-th message, where x was drawn for it
abbrev pub body_of : ℕ → ℕ → List ℕ
body_of k x = by_kind ((x / 65536) % 5) k x

-- the frames of the first so many messages
abbrev pub bodies : ℕ → ℕ → List ℕ
bodies seed zero = []
bodies seed (suc k) = bodies seed k ++ framed (body_of (suc k) (number_drawn seed (suc k)))

abbrev pub initialize_text : List ℕ
initialize_text = codes "{\"jsonrpc\":\"2.0\",\"method\":\"initialize\",\"params\":{\"capabilities\":{}},\"id\":0}"

abbrev pub shutdown : ℕ → List ℕ
shutdown k = codes "{\"jsonrpc\":\"2.0\",\"method\":\"shutdown\",\"id\":" ++ decimal k ++ codes "}"

abbrev pub exit : List ℕ
exit = codes "{\"jsonrpc\":\"2.0\",\"method\":\"exit\"}"

-- `initialize`, so many messages, `shutdown` and `exit`
abbrev pub generated : MadeUp → List ℕ
generated s = framed initialize_text ++ bodies s.seed s.count ++ framed (shutdown (s.count + 1)) ++ framed exit

-- ---- the summary of what the server writes

abbrev pub is_reply : Item → Bool
is_reply (message (response r)) = true
is_reply (message (request r)) = false
is_reply (fault e) = false

abbrev pub is_error : Item → Bool
is_error (message (response r)) = is_err r.body
is_error (message (request r)) = false
is_error (fault e) = false

-- a request or a notification of the server's own
abbrev pub is_own : Item → Bool
is_own (message (response r)) = false
is_own (message (request r)) = true
is_own (fault e) = false

-- what an editor reads of the bytes written
abbrev pub read_of : List ℕ → List Item
read_of bytes = told default_limits bytes

-- how many replies, errors among them, messages of the server's own, and bytes were written
abbrev pub summary : List ℕ → List ℕ
summary bytes =
    codes "replies " ++ decimal (count_by is_reply (read_of bytes)) ++ codes " errors " ++ decimal (count_by is_error (read_of bytes))
    ++ codes " messages " ++ decimal (count_by is_own (read_of bytes)) ++ codes " bytes " ++ decimal (length bytes) ++ codes "\n"

module _ {C T : Type 0} (semantics : Semantics (LspService Sample) C T) where
  -- the sample serves this session to its end, and writes these bytes
  pub record Writes (session : MadeUp) (bytes : List ℕ) : Type 0 where
    pub left : Option (List ℕ)
    pub serves : HoldsOfSession semantics IsSampleService (sample_setting default_setting) (λ course. ServedWhole course (call_bytes (generated session) left (Some []) (Some bytes)) (λ _. ⊤))

  -- the summary of that session
  pub record IsSummary (session : MadeUp) (line : List ℕ) : Type 0 where
    pub bytes : List ℕ
    pub writes : Writes session bytes
    pub is : line ≡ summary bytes

  -- the summary was written
  pub record WroteSummary (session : MadeUp) (taken taken_after : Option (List ℕ)) : Type 0 where
    pub line : List ℕ
    pub summary : IsSummary session line
    pub wrote : Appends taken taken_after line

  -- nothing was written, or what begins the summary
  abbrev pub WroteSome : MadeUp → Option (List ℕ) → Option (List ℕ) → Type 0
  WroteSome session taken taken_after =
      Appends taken taken_after [] ⊎ ((line : List ℕ) × (written : List ℕ) × IsSummary session line × IsPrefixOf written line × Appends taken taken_after written)

  -- the session was served in memory and its summary written, by the status, with the counts of writes that failed; nothing was read
  pub record EndsBulk {I : Type 0} (session : MadeUp) (source source_after : I) (taken taken_after : Option (List ℕ)) (faults faults_after : ℕ) (status : ℕ) : Type 0 where
    pub known : (status ≡ 0) ⊎ (status ≡ 4) ⊎ (status ≡ 6)
    pub wrote : status ≡ 0 → WroteSummary session taken taken_after
    pub part : 3 ≤ status → WroteSome session taken taken_after
    pub unread : source_after ≡ source
    pub complete : ¬ CountRose faults faults_after → (status ≡ 0) ⊎ (status ≡ 6)
