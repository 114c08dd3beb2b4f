-- The items of the frame of an `initialize`, and what the sample's session does with them.
use Rattle.std.proofs.Common.{◌≡◌, ◌<◌, ◌≤◌, ℕ, zero, suc, List, [], ◌∷◌, length, refl, sym, ap, ◌∙◌, subst, Bool, true, false, true≢false, cond, nat_lt, arith, append-nil, length-append, codes, decimal}
use Rattle.std.specs.Str.{IsAscii, is_utf8}
use Rattle.std.proofs.lemmas.Str.{is_utf8-from_IsUtf8, IsUtf8-from_ascii}
use Rattle.std.proofs.lemmas.Fmt.{length-decimal-le}
use Rattle.std.specs.Prelude.{Option, Some, None, pos, if◌then◌else◌, slice_index}
use Rattle.serde_json.specs.Data.{Data, object, no_members, member}
use Rattle.serde_json.proofs.OnLiterals.{serde_json_on_literals}
use Rattle.lsp_rpc.specs.declared.code.ErrorCode.TheVariants.{InvalidRequest}
use Rattle.lsp_rpc.specs.Message.{IdData, RequestData, request, number_id, error_with_code}
use Rattle.lsp_desk.specs.declared.life.Life.{Life}
use Rattle.lsp_desk.specs.declared.life.Life.TheVariants.{Uninitialized, Initializing, Initialized, ShutDown, Exited}
use Rattle.lsp_desk.specs.Trace.{TraceEntry, owns}
use Rattle.lsp_text.specs.Floats.{read_by}
use Rattle.lsp_frame.specs.declared.parse_error.ParseError.TheVariants.{Utf8}
use Rattle.lsp_frame.specs.Codec.{default_settings, items_by, message as whole, fault as broken}
use Rattle.lsp_frame.specs.Transitions.{body_item_by, of_value}
use Rattle.lsp_frame.specs.Frames.{IsBodyWithin}
use Rattle.lsp_frame.proofs.FramesRead.{frames_read_lem}
use Rattle.lsp_session.specs.declared.table.Entry.{Entry}
use Rattle.lsp_session.specs.declared.table.Layer.TheVariants.{Initialize}
use Rattle.lsp_session.specs.declared.table.Kind.TheVariants.{Request}
use Rattle.lsp_session.specs.Item.{ItemData, message, tick}
use Rattle.lsp_session.specs.Admission.{Verdict, Refuses, initialized, passed, check_life, started, is_live, reads_by, by_entry}
use Rattle.lsp_session.specs.State.{live, is_crowded, opening_by}
use Rattle.lsp_session.specs.Run.{admission_of, served, is_exit_entry, occasion, reads_in}
use Rattle.lsp_server.specs.Items.{all_admitted}
use Rattle.lsp_session.specs.Table.{find_in}
use Rattle.lsp_shape.specs.Plain.{Plain}
use Rattle.lsp_shape.specs.Read.{read}
use Rattle.lsp_initialize.specs.Client.{initialize_params_row}
use Rattle.lsp_methods.specs.declared.method.Method.TheVariants as methods
use Rattle.lsp_methods.specs.declared.method.LifeMethod.TheVariants as life
use Rattle.lsp_methods.specs.declared.table.ServiceTable.{ServiceTable}
use Rattle.lsp_methods.specs.ServiceTable.{service_methods}
use Rattle.lsp_methods.specs.Standard.{standard_methods}
use Rattle.lsp_service.specs.declared.service.LspService.{LspService}
use Rattle.lsp_service.specs.Data.{IncomingCall}
use Rattle.lsp_service.specs.Reads.{read_as, of_kind}
use Rattle.lsp_sample_server.specs.declared.sample.Sample.{Sample}
use Rattle.lsp_sample_server.specs.Sessions.{in_order, service_of_sample}
use Rattle.lsp_talk.specs.Hello.{hello_text, hello_bytes, hello_items, ServesHello}
use Rattle.lsp_talk.proofs.QuietLemmas.{AreQuiet}
use Rattle.lsp_talk.proofs.CalmLemmas.{SampleSession, IsTame, AreTame, run_calm}

abbrev hello_data : Data
hello_data = object (member (codes "capabilities") (object no_members) no_members)

abbrev hello_params : Option Data
hello_params = Some hello_data

abbrev hello_id : IdData
hello_id = number_id (pos 1)

abbrev hello_request : RequestData
hello_request = record { method = codes "initialize"; params = hello_params; id = Some hello_id }

abbrev hello_entry : Entry
hello_entry = record { place = 0; layer = Initialize; kind = Request }

-- ---- the items

hello_within : IsBodyWithin default_settings.limits hello_text
hello_within =
    let digits : length (decimal (length hello_text)) ≤ 4 = length-decimal-le 4 (length hello_text) (omega arith) (omega arith) (omega arith) in
    let head = length-append (decimal (length hello_text)) (codes "\r\n\r\n") in
    (omega arith, omega arith, omega (arith, digits, head))

-- each byte is below 128
abbrev are_low : List ℕ → Bool
are_low [] = true
are_low (b ∷ bs) = if nat_lt b 128 then are_low bs else false

low_byte : (b : ℕ) → nat_lt b 128 ≡ true → b < 128
low_byte b is = grind (arith, is)

ascii_of : (bs : List ℕ) → are_low bs ≡ true → IsAscii bs
ascii_of [] low i = omega arith
ascii_of (b ∷ bs) low i = at (nat_lt b 128) refl low (λ l j. ascii_of bs l j) i
  where
    at : (x : Bool) → nat_lt b 128 ≡ x → cond x (are_low bs) false ≡ true → (are_low bs ≡ true → IsAscii bs) → (i : ℕ) → slice_index (b ∷ bs) i < 128
    at true is l rest zero = low_byte b is
    at true is l rest (suc i) = rest l i
    at false is l rest i = absurd (true≢false (sym l))

hello_utf8 : is_utf8 hello_text ≡ true
hello_utf8 = is_utf8-from_IsUtf8 hello_text (IsUtf8-from_ascii hello_text (ascii_of hello_text refl))

hello_value : of_value (read_by default_settings.floats hello_text) ≡ whole (request hello_request)
unfolding serde_json_on_literals
hello_value = refl

hello_read : body_item_by default_settings.floats hello_text ≡ whole (request hello_request)
hello_read = ap (λ b. cond b (of_value (read_by default_settings.floats hello_text)) (broken Utf8)) hello_utf8 ∙ hello_value

nothing_left : items_by default_settings [] ≡ []
nothing_left = refl

items_are : items_by default_settings hello_bytes ≡ whole (request hello_request) ∷ []
items_are =
    ap (items_by default_settings) (sym (append-nil hello_bytes))
    ∙ (frames_read_lem default_settings hello_text [] hello_within (omega arith)).0
    ∙ ap (λ x. x ∷ items_by default_settings []) hello_read
    ∙ ap (λ l. whole (request hello_request) ∷ l) nothing_left

find_hello : (t : ServiceTable) → find_in 0 (service_methods t) (codes "initialize") ≡ Some hello_entry
unfolding standard_methods
find_hello t = refl

-- the item of the frame, and a tick unless that is an exit
abbrev served_hello : Option Entry → List ItemData
served_hello entry = if is_exit_entry entry then message (request hello_request) ∷ [] else message (request hello_request) ∷ tick ∷ []

hello_items_are : (service : LspService Sample) → hello_items service ≡ message (request hello_request) ∷ tick ∷ []
hello_items_are service = ap (λ l. served (service_of_sample.find service) (all_admitted l)) items_are ∙ ap served_hello (find_hello service.table)

-- ---- their admission

tame_life : (life : Life) (i : IdData) (v : Verdict IncomingCall) → IsTame v → IsTame (initialized (passed (check_life life Initialize) (Some i) v)).verdict
tame_life Uninitialized i v p = p
tame_life Initializing i v p = tt
tame_life Initialized i v p = tt
tame_life ShutDown i v p = tt
tame_life Exited i v p = tt

-- the params are read as those of `initialize`, or they don't fit
tame_started : (crowded : Bool) (o : Option Plain) → IsTame (started crowded (Some hello_id) hello_entry hello_params (of_kind Request (read_as (methods.Life life.Initialize) o)))
tame_started crowded None = tt
tame_started true (Some p) = refl
tame_started false (Some p) = refl

-- it is refused, or it begins
abbrev hello_verdict : Bool → Bool → Bool → Verdict IncomingCall
hello_verdict live crowded allowed =
    if live then Refuses hello_id (error_with_code InvalidRequest)
    else started crowded (Some hello_id) hello_entry hello_params (reads_by allowed service_of_sample.reads hello_entry hello_params)

tame_verdict : (live crowded allowed : Bool) → IsTame (hello_verdict live crowded allowed)
tame_verdict true crowded allowed = tt
tame_verdict false crowded true = tame_started crowded (read initialize_params_row.shape hello_data)
tame_verdict false crowded false = tame_started crowded (read initialize_params_row.shape hello_data)

tame_entry : (s : SampleSession) (entry : Option Entry) → entry ≡ Some hello_entry → IsTame (by_entry (occasion s) (reads_in service_of_sample s) hello_request entry).verdict
tame_entry s entry is =
    subst (λ o. IsTame (by_entry (occasion s) (reads_in service_of_sample s) hello_request o).verdict) (sym is)
    (tame_life s.desk.life hello_id (hello_verdict (is_live hello_id (live s)) (is_crowded s) s.empty_params)
    (tame_verdict (is_live hello_id (live s)) (is_crowded s) s.empty_params))

tame_hello : (s : SampleSession) → IsTame (admission_of service_of_sample s (message (request hello_request))).verdict
tame_hello s = tame_entry s (service_of_sample.find s.service (codes "initialize")) (find_hello s.service.table)

hello_tame : (service : LspService Sample) → AreTame (hello_items service)
hello_tame service = subst AreTame (sym (hello_items_are service)) (tame_hello, ((λ s. tt), tt))

-- the session's own entries are quiet
pub hello_quiet : (trace : List TraceEntry) → ServesHello trace → AreQuiet (owns trace)
hello_quiet trace h =
    run_calm in_order h.rounds (record { session = opening_by h.service h.serves.max h.serves.wait h.serves.empty_params; pick = h.serves.pick }) (record { session = h.last; pick = h.serves.then })
    (hello_items h.service) (record { trace = trace; out = h.out }) (hello_tame h.service) tt h.serves.runs
