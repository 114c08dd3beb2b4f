-- In which state decoding goes on after an item.
use Rattle.std.proofs.Common.{◌≡◌, ℕ, inl, inr, ◌<◌, List, length, take, Bool, true, false, ◌==◌, nat_lt, cond, Option, Some, None, Result, Ok, Err, codes, refl, subst, arith}
use Rattle.std.specs.Prelude.{⊤}
use Rattle.std.specs.Str.{is_utf8}
use Rattle.lsp_text.specs.Floats.{read_by}
use Rattle.serde_json.specs.Data.{Data}
use Rattle.lsp_rpc.specs.Message.{MessageData, clean_message}
use Rattle.lsp_frame.specs.Blocks.{Header, block_len, headers_in}
use Rattle.lsp_frame.specs.Headers.{content_length}
use Rattle.lsp_frame.specs.Transitions.{Item, fault, Transition, stop, unfinished, go, transition, first_place, at_place, of_message, of_value, body_item_by, at_headers, at_head, at_block}
use Rattle.lsp_frame.specs.Places.{IsStateAfter}
use Rattle.lsp_frame.proofs.HeaderFaults.{IfFault, headers_fault}
use Rattle.lsp_frame.specs.declared.settings.CodecSettings.{CodecSettings}
use Rattle.lsp_frame.specs.declared.parse_error.ParseError.{ParseError}
use Rattle.lsp_frame.specs.declared.parse_error.ParseError.TheVariants.{Utf8, HeadTooLong, BodyTooLong}
use Rattle.lsp_frame.specs.declared.decode_state.DecodeState.{DecodeState}
use Rattle.lsp_frame.specs.declared.decode_state.DecodeState.TheVariants.{Frame, Search, Body, Skip}

module _ (settings : CodecSettings) where
  -- where a transition tells an item it goes on in a state of that item
  abbrev GoesRight : Transition → Type 0
  GoesRight stop = ⊤
  GoesRight unfinished = ⊤
  GoesRight (go None s n) = ⊤
  GoesRight (go (Some x) s n) = IsStateAfter settings.limits x s

  abbrev FaultOfHead : ParseError → Type 0
  FaultOfHead e = IsStateAfter settings.limits (fault e) Search

  abbrev BeforeFrame : Item → Type 0
  BeforeFrame x = IsStateAfter settings.limits x Frame

  message_before : (o : Option MessageData) → BeforeFrame (of_message o)
  message_before None = refl
  message_before (Some m) = refl

  value_before : (o : Option Data) → BeforeFrame (of_value o)
  value_before None = refl
  value_before (Some d) = message_before (clean_message d)

  text_before : (o : Option Data) (b : Bool) → BeforeFrame (cond b (of_value o) (fault Utf8))
  text_before o true = value_before o
  text_before o false = inl refl

  after_length : (q n : ℕ) (b : Bool) → nat_lt settings.limits.body n ≡ b → GoesRight (cond b (go (Some (fault BodyTooLong)) (Skip n) q) (go None (Body n) q))
  after_length q n true e = let over : settings.limits.body < n = grind arith in (n, over, refl)
  after_length q n false e = tt

  after_headers : (q : ℕ) (r : Result (Option ℕ) ParseError) → IfFault FaultOfHead r → GoesRight (at_headers settings.limits q r)
  after_headers q (Err e) is = is
  after_headers q (Ok None) is = refl
  after_headers q (Ok (Some n)) is = after_length q n (nat_lt settings.limits.body n) refl

  after_head : (q : ℕ) (hs : Option (List Header)) → GoesRight (at_head settings.limits q hs)
  after_head q None = refl
  after_head q (Some hs) = after_headers q (content_length None hs) (headers_fault FaultOfHead (inr refl) refl refl None hs)

  after_no_block : (b : Bool) → GoesRight (cond b unfinished (go (Some (fault HeadTooLong)) Search 1))
  after_no_block true = tt
  after_no_block false = refl

  after_block : (bs : List ℕ) (o : Option ℕ) → GoesRight (at_block settings.limits bs o)
  after_block bs None = after_no_block (nat_lt (length bs) settings.limits.head)
  after_block bs (Some q) = after_head q (headers_in 2 (take q bs))

  after_frame : (bs : List ℕ) (b : Bool) → GoesRight (cond b stop (at_block settings.limits bs (block_len (take settings.limits.head bs))))
  after_frame bs true = tt
  after_frame bs false = after_block bs (block_len (take settings.limits.head bs))

  after_search : (o : Option ℕ) → GoesRight (at_place o)
  after_search None = tt
  after_search (Some r) = tt

  after_body : (n : ℕ) (bs : List ℕ) (a b : Bool) → GoesRight (cond a unfinished (cond b (go None Frame 0) (go (Some (body_item_by settings.floats (take n bs))) Frame n)))
  after_body n bs true b = tt
  after_body n bs false true = tt
  after_body n bs false false = text_before (read_by settings.floats (take n bs)) (is_utf8 (take n bs))

  after_skip : (n : ℕ) (b : Bool) → GoesRight (cond b stop (go None Frame n))
  after_skip n true = tt
  after_skip n false = tt

  goes_right : (s : DecodeState) (bs : List ℕ) → GoesRight (transition settings s bs)
  goes_right Frame bs = after_frame bs (length bs == 0)
  goes_right Search bs = after_search (first_place (codes "Content-Length") bs)
  goes_right (Body n) bs = after_body n bs (nat_lt (length bs) n) (n == 0)
  goes_right (Skip n) bs = after_skip n (nat_lt (length bs) n)

  pub state_after : (s : DecodeState) (bs : List ℕ) (x : Item) (j : DecodeState) (n : ℕ) → transition settings s bs ≡ go (Some x) j n → IsStateAfter settings.limits x j
  state_after s bs x j n e = subst GoesRight e (goes_right s bs)
