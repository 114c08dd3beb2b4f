-- How many bytes a codec that waits holds at most.
use Rattle.std.proofs.Common.{◌≡◌, ℕ, ◌<◌, ◌≤◌, List, length, take, Bool, true, false, ◌==◌, nat_lt, cond, Option, Some, None, Result, Ok, Err, codes, refl, subst, arith, max}
use Rattle.std.specs.Prelude.{⊤}
use Rattle.std.proofs.Math.Nat.{le-max_left, le-max_right}
use Rattle.lsp_frame.specs.Blocks.{Header, block_len, headers_in}
use Rattle.lsp_frame.specs.Headers.{content_length}
use Rattle.lsp_frame.specs.Transitions.{Item, fault, Transition, stop, unfinished, go, transition, at_block, at_head, at_headers, at_place, first_place, body_item_by}
use Rattle.lsp_frame.specs.Items.{GoesNowhere, IsTrimmed, most_held}
use Rattle.lsp_frame.specs.Kept.{IsAllowed}
use Rattle.lsp_frame.specs.declared.settings.CodecSettings.{CodecSettings}
use Rattle.lsp_frame.specs.declared.parse_error.ParseError.{ParseError}
use Rattle.lsp_frame.specs.declared.parse_error.ParseError.TheVariants.{HeadTooLong, BodyTooLong}
use Rattle.lsp_frame.specs.declared.decode_state.DecodeState.{DecodeState}
use Rattle.lsp_frame.specs.declared.decode_state.DecodeState.TheVariants.{Frame, Search, Body, Skip}

abbrev GoesTo : CodecSettings → Transition → Type 0
GoesTo settings stop = ⊤
GoesTo settings unfinished = ⊤
GoesTo settings (go x s n) = IsAllowed settings.limits s

module _ (settings : CodecSettings) where
  -- ---- where a transition goes, a body that is waited for is within the limit

  length_allowed : (q n : ℕ) (b : Bool) → nat_lt settings.limits.body n ≡ b → GoesTo settings (cond b (go (Some (fault BodyTooLong)) (Skip n) q) (go None (Body n) q))
  length_allowed q n true e = tt
  length_allowed q n false e = grind arith

  headers_allowed : (q : ℕ) (r : Result (Option ℕ) ParseError) → GoesTo settings (at_headers settings.limits q r)
  headers_allowed q (Err e) = tt
  headers_allowed q (Ok None) = tt
  headers_allowed q (Ok (Some n)) = length_allowed q n (nat_lt settings.limits.body n) refl

  head_allowed : (q : ℕ) (hs : Option (List Header)) → GoesTo settings (at_head settings.limits q hs)
  head_allowed q None = tt
  head_allowed q (Some hs) = headers_allowed q (content_length None hs)

  no_block_allowed : (b : Bool) → GoesTo settings (cond b unfinished (go (Some (fault HeadTooLong)) Search 1))
  no_block_allowed true = tt
  no_block_allowed false = tt

  block_allowed : (bs : List ℕ) (o : Option ℕ) → GoesTo settings (at_block settings.limits bs o)
  block_allowed bs None = no_block_allowed (nat_lt (length bs) settings.limits.head)
  block_allowed bs (Some q) = head_allowed q (headers_in 2 (take q bs))

  frame_allowed : (bs : List ℕ) (b : Bool) → GoesTo settings (cond b stop (at_block settings.limits bs (block_len (take settings.limits.head bs))))
  frame_allowed bs true = tt
  frame_allowed bs false = block_allowed bs (block_len (take settings.limits.head bs))

  search_allowed : (o : Option ℕ) → GoesTo settings (at_place o)
  search_allowed None = tt
  search_allowed (Some r) = tt

  body_allowed : (n : ℕ) (bs : List ℕ) (a b : Bool) → GoesTo settings (cond a unfinished (cond b (go None Frame 0) (go (Some (body_item_by settings.floats (take n bs))) Frame n)))
  body_allowed n bs true b = tt
  body_allowed n bs false true = tt
  body_allowed n bs false false = tt

  skip_allowed : (n : ℕ) (b : Bool) → GoesTo settings (cond b stop (go None Frame n))
  skip_allowed n true = tt
  skip_allowed n false = tt

  goes_to : (s : DecodeState) (bs : List ℕ) → GoesTo settings (transition settings s bs)
  goes_to Frame bs = frame_allowed bs (length bs == 0)
  goes_to Search bs = search_allowed (first_place (codes "Content-Length") bs)
  goes_to (Body n) bs = body_allowed n bs (nat_lt (length bs) n) (n == 0)
  goes_to (Skip n) bs = skip_allowed n (nat_lt (length bs) n)

  pub goes_to_allowed : (s : DecodeState) (bs : List ℕ) (x : Option Item) (j : DecodeState) (n : ℕ) → transition settings s bs ≡ go x j n → IsAllowed settings.limits j
  goes_to_allowed s bs x j n e = subst (GoesTo settings) e (goes_to s bs)

  -- ---- where a state stands, few bytes are held

  head_goes_on : (q : ℕ) (r : Result (Option ℕ) ParseError) → GoesNowhere (at_headers settings.limits q r) → ⊥
  head_goes_on q (Err e) stands = stands
  head_goes_on q (Ok None) stands = stands
  head_goes_on q (Ok (Some n)) stands = either (nat_lt settings.limits.body n) stands
    where
      either : (b : Bool) → GoesNowhere (cond b (go (Some (fault BodyTooLong)) (Skip n) q) (go None (Body n) q)) → ⊥
      either true stands = stands
      either false stands = stands

  block_held : (bs : List ℕ) (o : Option ℕ) → GoesNowhere (at_block settings.limits bs o) → length bs < settings.limits.head
  block_held bs None stands = short (nat_lt (length bs) settings.limits.head) refl stands
    where
      short : (b : Bool) → nat_lt (length bs) settings.limits.head ≡ b → GoesNowhere (cond b unfinished (go (Some (fault HeadTooLong)) Search 1)) → length bs < settings.limits.head
      short true e stands = grind arith
      short false e stands = absurd stands
  block_held bs (Some q) stands = headed (headers_in 2 (take q bs)) stands
    where
      headed : (hs : Option (List Header)) → GoesNowhere (at_head settings.limits q hs) → length bs < settings.limits.head
      headed None stands = absurd stands
      headed (Some hs) stands = absurd (head_goes_on q (content_length None hs) stands)

  frame_held : (bs : List ℕ) (b : Bool) → (length bs == 0) ≡ b → GoesNowhere (cond b stop (at_block settings.limits bs (block_len (take settings.limits.head bs)))) → length bs ≤ settings.limits.head
  frame_held bs true e stands = grind arith
  frame_held bs false e stands = omega (arith, block_held bs (block_len (take settings.limits.head bs)) stands)

  body_held : (n : ℕ) (bs : List ℕ) (a b : Bool) → nat_lt (length bs) n ≡ a → GoesNowhere (cond a unfinished (cond b (go None Frame 0) (go (Some (body_item_by settings.floats (take n bs))) Frame n))) → length bs < n
  body_held n bs true b e stands = grind arith
  body_held n bs false true e stands = absurd stands
  body_held n bs false false e stands = absurd stands

  pub held_at_most : (s : DecodeState) (bs : List ℕ) → GoesNowhere (transition settings s bs) × IsTrimmed s bs → IsAllowed settings.limits s → length bs ≤ most_held settings.limits
  held_at_most Frame bs waits allowed =
      omega (arith, frame_held bs (length bs == 0) refl waits.0, le-max_left settings.limits.head settings.limits.body, le-max_left (max settings.limits.head settings.limits.body) 13)
  held_at_most Search bs waits allowed = omega (arith, waits.1, le-max_right (max settings.limits.head settings.limits.body) 13)
  held_at_most (Body n) bs waits allowed =
      omega (arith, allowed, body_held n bs (nat_lt (length bs) n) (n == 0) refl waits.0, le-max_right settings.limits.head settings.limits.body, le-max_left (max settings.limits.head settings.limits.body) 13)
  held_at_most (Skip n) bs waits allowed = rw waits.1 (omega arith)
