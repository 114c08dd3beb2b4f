-- The notifications `proxy/in` and `proxy/out`: a message with the side that it comes from or goes to.
use Rattle.std.specs.Prelude.{ℕ, ◌+◌, ◌-◌, ◌==◌, ◌&&◌, Option, Some, None, option_and_then, is_none, codes, bytes_eq, nat_lt, if◌then◌else◌}
use Rattle.serde_json.specs.Data.{Data, Members, no_members, unsigned, null, boolean, number, string, array, object, put}
use Rattle.serde_json.specs.Events.{members_len}
use Rattle.serde_json.specs.Find.{get_member, as_number, as_u64}
use Rattle.lsp_rpc.specs.Message.{RequestData, MessageData, response, request, clean_message}
use Rattle.lsp_frame.specs.Codec.{Item, message, fault}
use Rattle.lsp_proxy.specs.declared.side.Side.{Side}
use Rattle.lsp_proxy.specs.declared.side.Side.TheVariants.{Server, Editor}
use Rattle.lsp_proxy.specs.Law.{Event}
use Rattle.lsp_relay.specs.Value.{message_value}

-- ---- what comes

-- the side that a number stands for: 0 the server, and k + 1 editor k
abbrev pub side_of : ℕ → ℕ → Option Side
side_of editors n =
    if n == 0 then Some Server
    else (if nat_lt (n - 1) editors then Some (Editor (n - 1)) else None)

abbrev pub side_in : ℕ → Data → Option Side
side_in editors d = option_and_then (side_of editors) (option_and_then as_u64 (as_number d))

abbrev pub event_with : Option Side → Option MessageData → Option Event
event_with None m = None
event_with (Some side) None = None
event_with (Some side) (Some m) = Some (side, m)

-- the members are `message` and `side`, and no other
abbrev pub event_in_members : ℕ → Members → Option Event
event_in_members editors ms =
    if members_len ms == 2
    then event_with (option_and_then (side_in editors) (get_member (codes "side") ms)) (option_and_then clean_message (get_member (codes "message") ms))
    else None

abbrev pub event_in : ℕ → Data → Option Event
event_in editors null = None
event_in editors (boolean b) = None
event_in editors (number n) = None
event_in editors (string s) = None
event_in editors (array ds) = None
event_in editors (object ms) = event_in_members editors ms

-- a notification `proxy/in` with such params
abbrev pub event_of_call : ℕ → RequestData → Option Event
event_of_call editors r =
    if bytes_eq r.method (codes "proxy/in") && is_none r.id
    then option_and_then (event_in editors) r.params else None

abbrev pub event_of_message : ℕ → MessageData → Option Event
event_of_message editors (response r) = None
event_of_message editors (request r) = event_of_call editors r

-- the message that an item tells, and the side that it comes from; an item of another form tells none
abbrev pub event_of : ℕ → Item → Option Event
event_of editors (message m) = event_of_message editors m
event_of editors (fault e) = None

-- ---- what goes

abbrev pub number_of_side : Side → ℕ
number_of_side Server = 0
number_of_side (Editor k) = k + 1

abbrev pub note_params : Side → MessageData → Data
note_params side m =
    object (put (codes "message") (message_value m) (put (codes "side") (number (unsigned (number_of_side side))) no_members))

-- the notification of a message that is sent
abbrev pub note_of : Side × MessageData → MessageData
note_of s = request (record { method = codes "proxy/out"; params = Some (note_params s.0 s.1); id = None })
