-- A transition never tells that input ended, so that fault stands at most at the end of the items.
use Rattle.std.proofs.Common.{◌≡◌, ℕ, zero, suc, List, [], ◌∷◌, length, take, drop, Bool, true, false, ◌==◌, nat_lt, cond, Option, Some, None, Result, Ok, Err, refl, sym, ap, ◌∙◌, codes}
use Rattle.std.specs.Prelude.{⊤}
use Rattle.std.specs.Str.{is_utf8}
use Rattle.lsp_text.specs.Floats.{read_by}
use Rattle.serde_json.specs.Data.{Data}
use Rattle.lsp_rpc.specs.Message.{MessageData, clean_message}
use Rattle.lsp_frame.specs.Blocks.{Header, block_len, headers_in}
use Rattle.lsp_frame.specs.Headers.{content_length}
use Rattle.lsp_frame.specs.Transitions.{Item, fault, Transition, stop, unfinished, go, transition, first_place, at_place, of_message, of_value, body_item_by, at_headers, at_head, at_block}
use Rattle.lsp_frame.specs.Items.{items_after, items_within, transitions_left, unless_rest, without_last_rest}
use Rattle.lsp_frame.specs.Laws.{ToldIsItems}
use Rattle.lsp_frame.proofs.HeaderFaults.{IfFault, headers_fault}
use Rattle.lsp_frame.specs.declared.settings.CodecSettings.{CodecSettings}
use Rattle.lsp_frame.specs.declared.parse_error.ParseError.{ParseError}
use Rattle.lsp_frame.specs.declared.parse_error.ParseError.TheVariants.{Utf8, Rest, HeadTooLong, BodyTooLong}
use Rattle.lsp_frame.specs.declared.decode_state.DecodeState.{DecodeState}
use Rattle.lsp_frame.specs.declared.decode_state.DecodeState.TheVariants.{Frame, Search, Body, Skip}

-- the item stays where the last `Rest` is taken away
abbrev Stays : Item → Type 0
Stays x = unless_rest x ≡ x ∷ []

-- what a transition gives stays
abbrev GivesNoRest : Transition → Type 0
GivesNoRest stop = ⊤
GivesNoRest unfinished = ⊤
GivesNoRest (go None k n) = ⊤
GivesNoRest (go (Some x) k n) = Stays x

-- a fault of headers stays
abbrev FaultStays : ParseError → Type 0
FaultStays e = Stays (fault e)

message_stays : (o : Option MessageData) → Stays (of_message o)
message_stays None = refl
message_stays (Some m) = refl

value_stays : (o : Option Data) → Stays (of_value o)
value_stays None = refl
value_stays (Some d) = message_stays (clean_message d)

body_stays : (o : Option Data) (b : Bool) → Stays (cond b (of_value o) (fault Utf8))
body_stays o true = value_stays o
body_stays o false = refl

module _ (settings : CodecSettings) where
  limit_gives : (q n : ℕ) (b : Bool) → GivesNoRest (cond b (go (Some (fault BodyTooLong)) (Skip n) q) (go None (Body n) q))
  limit_gives q n true = refl
  limit_gives q n false = tt

  headers_give : (q : ℕ) (r : Result (Option ℕ) ParseError) → IfFault FaultStays r → GivesNoRest (at_headers settings.limits q r)
  headers_give q (Err e) is = is
  headers_give q (Ok None) is = refl
  headers_give q (Ok (Some n)) is = limit_gives q n (nat_lt settings.limits.body n)

  head_gives : (q : ℕ) (hs : Option (List Header)) → GivesNoRest (at_head settings.limits q hs)
  head_gives q None = refl
  head_gives q (Some hs) = headers_give q (content_length None hs) (headers_fault FaultStays refl refl refl None hs)

  no_block_gives : (b : Bool) → GivesNoRest (cond b unfinished (go (Some (fault HeadTooLong)) Search 1))
  no_block_gives true = tt
  no_block_gives false = refl

  block_gives : (bs : List ℕ) (o : Option ℕ) → GivesNoRest (at_block settings.limits bs o)
  block_gives bs None = no_block_gives (nat_lt (length bs) settings.limits.head)
  block_gives bs (Some q) = head_gives q (headers_in 2 (take q bs))

  frame_gives : (bs : List ℕ) (b : Bool) → GivesNoRest (cond b stop (at_block settings.limits bs (block_len (take settings.limits.head bs))))
  frame_gives bs true = tt
  frame_gives bs false = block_gives bs (block_len (take settings.limits.head bs))

  search_gives : (o : Option ℕ) → GivesNoRest (at_place o)
  search_gives None = tt
  search_gives (Some r) = tt

  body_gives : (n : ℕ) (bs : List ℕ) (a b : Bool) → GivesNoRest (cond a unfinished (cond b (go None Frame 0) (go (Some (body_item_by settings.floats (take n bs))) Frame n)))
  body_gives n bs true b = tt
  body_gives n bs false true = tt
  body_gives n bs false false = body_stays (read_by settings.floats (take n bs)) (is_utf8 (take n bs))

  skip_gives : (n : ℕ) (b : Bool) → GivesNoRest (cond b stop (go None Frame n))
  skip_gives n true = tt
  skip_gives n false = tt

  transition_gives : (s : DecodeState) (bs : List ℕ) → GivesNoRest (transition settings s bs)
  transition_gives Frame bs = frame_gives bs (length bs == 0)
  transition_gives Search bs = search_gives (first_place (codes "Content-Length") bs)
  transition_gives (Body n) bs = body_gives n bs (nat_lt (length bs) n) (n == 0)
  transition_gives (Skip n) bs = skip_gives n (nat_lt (length bs) n)

-- ---- the items

one_more : (x : Item) (xs : List Item) → Stays x → without_last_rest (x ∷ xs) ≡ x ∷ without_last_rest xs
one_more x [] is = is
one_more x (y ∷ ys) is = refl

after_transition : (settings : CodecSettings) (n : ℕ) (bs : List ℕ) → ((k : DecodeState) (rest : List ℕ) → items_within settings [] n k rest ≡ without_last_rest (items_within settings (fault Rest ∷ []) n k rest))
    → (l : Transition) → GivesNoRest l
    → items_after (λ k d. items_within settings [] n k (drop d bs)) [] l ≡ without_last_rest (items_after (λ k d. items_within settings (fault Rest ∷ []) n k (drop d bs)) (fault Rest ∷ []) l)
after_transition settings n bs later stop is = refl
after_transition settings n bs later unfinished is = refl
after_transition settings n bs later (go None k d) is = later k (drop d bs)
after_transition settings n bs later (go (Some x) k d) is =
    ap (λ xs. x ∷ xs) (later k (drop d bs)) ∙ sym (one_more x (items_within settings (fault Rest ∷ []) n k (drop d bs)) is)

transitions_give : (settings : CodecSettings) (n : ℕ) (k : DecodeState) (bs : List ℕ) → items_within settings [] n k bs ≡ without_last_rest (items_within settings (fault Rest ∷ []) n k bs)
transitions_give settings zero k bs = refl
transitions_give settings (suc n) k bs = after_transition settings n bs (transitions_give settings n) (transition settings k bs) (transition_gives settings k bs)

pub told_is_items_lem : ToldIsItems
told_is_items_lem a = transitions_give a.settings (transitions_left a.state a.held) a.state a.held
