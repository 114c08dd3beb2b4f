-- A transition that goes on stays, whatever bytes follow, and comes nearer to the stop.
use Rattle.std.specs.Prelude.{⊤}
use Rattle.std.proofs.Common.{◌≡◌, ℕ, zero, suc, ◌+◌, ◌-◌, ◌<◌, ◌≤◌, ◌⊎◌, inl, inr, List, [], ◌∷◌, ◌++◌, length, take, drop, Bool, true, false, ◌==◌, nat_eq, nat_lt, cond, Option, Some, None, option_map, Result, Ok, Err, codes, refl, ap, ◌∙◌, arith, length-drop, length-append}
use Rattle.std.proofs.lemmas.Grind.{common_steps}
use Rattle.std.proofs.lemmas.List.{take-append-le}
use Rattle.std.proofs.lemmas.Bool.Decides.{Decides-eqb}
use Rattle.std.proofs.lemmas.Slice.Eq.{starts_is}
use Rattle.std.specs.List.{starts_with}
use Rattle.lsp_frame.specs.Blocks.{block_len, place_after, or_later, empty_line_if, headers_in, Header}
use Rattle.lsp_frame.specs.Headers.{content_length}
use Rattle.lsp_frame.specs.declared.settings.CodecSettings.{CodecSettings}
use Rattle.lsp_frame.specs.declared.parse_error.ParseError.{ParseError}
use Rattle.lsp_frame.specs.declared.parse_error.ParseError.TheVariants.{HeadTooLong, BodyTooLong}
use Rattle.lsp_frame.specs.Transitions.{fault, Transition, stop, unfinished, go, transition, at_frame, at_block, at_head, at_headers, body_item_by, at_place, first_place}
use Rattle.lsp_frame.specs.Items.{transitions_left}
use Rattle.lsp_frame.specs.declared.decode_state.DecodeState.{DecodeState}
use Rattle.lsp_frame.specs.declared.decode_state.DecodeState.TheVariants.{Frame, Search, Body, Skip}

abbrev Is : Option ℕ → ℕ → Type 0
Is o q = o ≡ Some q

not_none : (q : ℕ) → Is None q → ⊥
not_none q h = cc

same_some : (p q : ℕ) → Is (Some p) q → p ≡ q
same_some p q h = cc

-- ---- a text that stands at the front

front_fits : (needle bs : List ℕ) → starts_with nat_eq bs needle ≡ true → length needle ≤ length bs
front_fits needle bs h = grind (arith, common_steps, (starts_is Decides-eqb bs needle _ refl).0 h)

pub front_decided : (needle bs c : List ℕ) → length needle ≤ length bs → starts_with nat_eq (bs ++ c) needle ≡ starts_with nat_eq bs needle
front_decided needle bs c fits = rw (take-append-le (length needle) bs c fits) refl

-- ---- the first place of a text

found_fits_at : (needle : List ℕ) (x : ℕ) (bs : List ℕ) (b : Bool) → starts_with nat_eq (x ∷ bs) needle ≡ b
    → ((r : ℕ) → Is (first_place needle bs) r → r + length needle ≤ length bs)
    → (r : ℕ) → Is (cond b (Some 0) (option_map suc (first_place needle bs))) r → r + length needle ≤ suc (length bs)
found_fits_at needle x bs true e later r is = omega (arith, same_some 0 r is, front_fits needle (x ∷ bs) e)
found_fits_at needle x bs false e later r is = after (first_place needle bs) later is
  where
    after : (o : Option ℕ) → ((s : ℕ) → Is o s → s + length needle ≤ length bs) → Is (option_map suc o) r → r + length needle ≤ suc (length bs)
    after None later is = absurd (not_none r is)
    after (Some s) later is = omega (arith, later s refl, same_some (suc s) r is)

pub found_fits : (needle bs : List ℕ) (r : ℕ) → Is (first_place needle bs) r → r + length needle ≤ length bs
found_fits needle [] r is = absurd (not_none r is)
found_fits needle (x ∷ bs) r is = found_fits_at needle x bs _ refl (found_fits needle bs) r is

found_stays_at : (needle : List ℕ) (x : ℕ) (bs c : List ℕ) (b : Bool) → starts_with nat_eq (x ∷ bs) needle ≡ b
    → ((r : ℕ) → Is (first_place needle bs) r → Is (first_place needle (bs ++ c)) r)
    → (r : ℕ) → Is (cond b (Some 0) (option_map suc (first_place needle bs))) r
    → Is (cond (starts_with nat_eq (x ∷ (bs ++ c)) needle) (Some 0) (option_map suc (first_place needle (bs ++ c)))) r
found_stays_at needle x bs c true e later r is = rw (front_decided needle (x ∷ bs) c (front_fits needle (x ∷ bs) e) ∙ e) is
found_stays_at needle x bs c false e later r is = after (first_place needle bs) refl is
  where
    after : (o : Option ℕ) → first_place needle bs ≡ o → Is (option_map suc o) r
        → Is (cond (starts_with nat_eq (x ∷ (bs ++ c)) needle) (Some 0) (option_map suc (first_place needle (bs ++ c)))) r
    after None at is = absurd (not_none r is)
    after (Some s) at is =
        let fits : length needle ≤ length (x ∷ bs) = omega (arith, found_fits needle bs s at) in
        rw (front_decided needle (x ∷ bs) c fits ∙ e) (rw (later s at) is)

found_stays : (needle bs c : List ℕ) (r : ℕ) → Is (first_place needle bs) r → Is (first_place needle (bs ++ c)) r
found_stays needle [] c r is = absurd (not_none r is)
found_stays needle (x ∷ bs) c r is = found_stays_at needle x bs c _ refl (found_stays needle bs c) r is

-- ---- the first empty line

later_stays : (i : ℕ) (e x y : Option ℕ) → ((q : ℕ) → Is x q → Is y q) → (q : ℕ) → Is (or_later i e x) q → Is (or_later i e y) q
later_stays i None x y later q is = later q is
later_stays i (Some n) x y later q is = is

-- one byte is an empty line only where it is an LF, and then whatever follows
one_byte : (i a : ℕ) (at_start b : Bool) (c : List ℕ) → starts_with nat_eq (a ∷ []) (10 ∷ []) ≡ b → (q : ℕ) (y : Option ℕ)
    → Is (or_later i (empty_line_if at_start (a ∷ [])) None) q → Is (or_later i (empty_line_if at_start (a ∷ c)) y) q
one_byte i a false b c e q y is = absurd (not_none q is)
one_byte i a true true c e q y is = rw (front_decided (10 ∷ []) (a ∷ []) c (omega arith) ∙ e) (rw e at is)
one_byte i a true false c e q y is = absurd (not_none q (never (starts_with nat_eq (a ∷ []) (13 ∷ 10 ∷ [])) refl (rw e at is)))
  where
    never : (d : Bool) → starts_with nat_eq (a ∷ []) (13 ∷ 10 ∷ []) ≡ d → Is (or_later i (cond d (Some 2) None) None) q → Is None q
    never true f is = absurd (omega (arith, front_fits (13 ∷ 10 ∷ []) (a ∷ []) f))
    never false f is = is

place_stays : (i : ℕ) (at_start : Bool) (bs c : List ℕ) (q : ℕ) → Is (place_after i at_start bs) q → Is (place_after i at_start (bs ++ c)) q
place_stays i at_start [] c q is = absurd (not_none q is)
place_stays i at_start (a ∷ []) c q is = one_byte i a at_start _ c refl q (place_after (i + 1) (a == 10) c) is
place_stays i at_start (a ∷ b ∷ bs) c q is =
    later_stays i (empty_line_if at_start (a ∷ b ∷ bs)) (place_after (i + 1) (a == 10) (b ∷ bs)) (place_after (i + 1) (a == 10) (b ∷ (bs ++ c)))
    (λ p h. place_stays (i + 1) (a == 10) (b ∷ bs) c p h) q is

-- the place lies after where the bytes begin, and not after their end
empty_fits : (at_start : Bool) (bs : List ℕ) (n : ℕ) → Is (empty_line_if at_start bs) n → (1 ≤ n) × (n ≤ length bs)
empty_fits false bs n is = absurd (not_none n is)
empty_fits true bs n is = first (starts_with nat_eq bs (10 ∷ [])) refl is
  where
    second : (b : Bool) → starts_with nat_eq bs (13 ∷ 10 ∷ []) ≡ b → Is (cond b (Some 2) None) n → (1 ≤ n) × (n ≤ length bs)
    second true e is = (omega (arith, same_some 2 n is), omega (arith, same_some 2 n is, front_fits (13 ∷ 10 ∷ []) bs e))
    second false e is = absurd (not_none n is)

    first : (b : Bool) → starts_with nat_eq bs (10 ∷ []) ≡ b → Is (cond b (Some 1) (cond (starts_with nat_eq bs (13 ∷ 10 ∷ [])) (Some 2) None)) n → (1 ≤ n) × (n ≤ length bs)
    first true e is = (omega (arith, same_some 1 n is), omega (arith, same_some 1 n is, front_fits (10 ∷ []) bs e))
    first false e is = second _ refl is

place_fits : (i : ℕ) (at_start : Bool) (bs : List ℕ) (q : ℕ) → Is (place_after i at_start bs) q → (i + 1 ≤ q) × (q ≤ i + length bs)
place_fits i at_start [] q is = absurd (not_none q is)
place_fits i at_start (a ∷ bs) q is = cases (empty_line_if at_start (a ∷ bs)) refl (place_fits (i + 1) (a == 10) bs q) is
  where
    cases : (e : Option ℕ) → empty_line_if at_start (a ∷ bs) ≡ e
        → (Is (place_after (i + 1) (a == 10) bs) q → (i + 1 + 1 ≤ q) × (q ≤ i + 1 + length bs))
        → Is (or_later i e (place_after (i + 1) (a == 10) bs)) q → (i + 1 ≤ q) × (q ≤ i + suc (length bs))
    cases None e further is =
        let later = further is in
        (omega (arith, later.0), omega (arith, later.1))
    cases (Some n) e further is =
        let fits = empty_fits at_start (a ∷ bs) n e in
        (omega (arith, fits.0, same_some (i + n) q is), omega (arith, fits.1, same_some (i + n) q is))

-- a block stays within the first so many bytes, whatever bytes follow
pub front_more : (m : ℕ) (h c : List ℕ) → take m (h ++ c) ≡ take m h ++ take (m - length h) c
front_more zero h c = cut_none c (0 - length h) (omega arith)
  where
    cut_none : (c : List ℕ) (k : ℕ) → k ≡ 0 → [] ≡ take k c
    cut_none c k e = rw e refl
front_more (suc m) [] c = let e : suc m ≡ suc m - 0 = omega arith in ap (λ k. take k c) e
front_more (suc m) (x ∷ h) c = let e : m - length h ≡ suc m - suc (length h) = omega arith in ap (λ t. x ∷ t) (front_more m h c ∙ ap (λ k. take m h ++ take k c) e)

pub block_stays : (m : ℕ) (h c : List ℕ) (q : ℕ) → Is (block_len (take m h)) q → Is (block_len (take m (h ++ c))) q
block_stays m h c q is = rw (front_more m h c) (place_stays 0 true (take m h) (take (m - length h) c) q is)

-- ---- the transitions

-- a transition after a head goes one byte or the whole block further
abbrev IsAfterHead : ℕ → Transition → Type 0
IsAfterHead q stop = ⊥
IsAfterHead q unfinished = ⊥
IsAfterHead q (go x Frame n) = ⊥
IsAfterHead q (go x Search n) = (n ≡ 1) ⊎ (n ≡ q)
IsAfterHead q (go x (Body m) n) = (n ≡ 1) ⊎ (n ≡ q)
IsAfterHead q (go x (Skip m) n) = (n ≡ 1) ⊎ (n ≡ q)

between : (q n : ℕ) (h : List ℕ) → (n ≡ 1) ⊎ (n ≡ q) → 1 ≤ q → q ≤ length h → (1 ≤ n) × (n ≤ length h)
between q n h (inl e) low high = (omega arith, omega arith)
between q n h (inr e) low high = (omega arith, omega arith)

not_zero : (n : ℕ) → 0 < n → (n == 0) ≡ false
not_zero n h = grind arith

enough_stays : (n : ℕ) (h c : List ℕ) → nat_lt (length h) n ≡ false → nat_lt (length (h ++ c)) n ≡ false
enough_stays n h c e = grind (arith, length-append h c)

front_at_most : (m : ℕ) (h : List ℕ) → length (take m h) ≤ length h
front_at_most m h = grind (arith, common_steps)

front_of_front : (q m : ℕ) (h : List ℕ) → q ≤ length (take m h) → take q (take m h) ≡ take q h
front_of_front q m h fits = grind (arith, common_steps)

module _ (settings : CodecSettings) where
  abbrev pub IsSteady : DecodeState → List ℕ → Transition → Type 0
  IsSteady s h stop = ⊤
  IsSteady s h unfinished = ⊤
  IsSteady s h (go x j n) = (n ≤ length h) × (transitions_left j (drop n h) < transitions_left s h) × ((c : List ℕ) → transition settings s (h ++ c) ≡ go x j n)

  limit_goes : (q n : ℕ) (b : Bool) → IsAfterHead q (cond b (go (Some (fault BodyTooLong)) (Skip n) q) (go None (Body n) q))
  limit_goes q n true = inr refl
  limit_goes q n false = inr refl

  headers_go : (q : ℕ) (r : Result (Option ℕ) ParseError) → IsAfterHead q (at_headers settings.limits q r)
  headers_go q (Err e) = inr refl
  headers_go q (Ok None) = inl refl
  headers_go q (Ok (Some n)) = limit_goes q n (nat_lt settings.limits.body n)

  head_goes : (q : ℕ) (hs : Option (List Header)) → IsAfterHead q (at_head settings.limits q hs)
  head_goes q None = inl refl
  head_goes q (Some hs) = headers_go q (content_length None hs)

  after_head_steady : (q : ℕ) (h : List ℕ) (t : Transition) → IsAfterHead q t → 1 ≤ q → q ≤ length h → ((c : List ℕ) → at_frame settings.limits (h ++ c) ≡ t) → IsSteady Frame h t
  after_head_steady q h stop is low high stays = tt
  after_head_steady q h unfinished is low high stays = tt
  after_head_steady q h (go x Frame n) is low high stays = absurd is
  after_head_steady q h (go x Search n) is low high stays =
      let at = between q n h is low high in
      (at.1, omega (arith, at.0, at.1, length-drop n h), stays)
  after_head_steady q h (go x (Body m) n) is low high stays =
      let at = between q n h is low high in
      (at.1, omega (arith, at.0, at.1, length-drop n h), stays)
  after_head_steady q h (go x (Skip m) n) is low high stays =
      let at = between q n h is low high in
      (at.1, omega (arith, at.0, at.1, length-drop n h), stays)

  head_stays : (h c : List ℕ) (q : ℕ) → Is (block_len (take settings.limits.head h)) q → at_frame settings.limits (h ++ c) ≡ at_head settings.limits q (headers_in 2 (take q h))
  head_stays h c q is =
      let fits = place_fits 0 true (take settings.limits.head h) q is in
      let some : (length (h ++ c) == 0) ≡ false = not_zero (length (h ++ c)) (omega (arith, length-append h c, fits.0, fits.1, front_at_most settings.limits.head h)) in
      rw some (rw (block_stays settings.limits.head h c q is) (rw (take-append-le q h c (omega (arith, fits.1, front_at_most settings.limits.head h))) refl))

  -- a head that is too long stays so
  too_long_stays : (h c : List ℕ) → (length h == 0) ≡ false → block_len (take settings.limits.head h) ≡ None → nat_lt (length h) settings.limits.head ≡ false
      → at_frame settings.limits (h ++ c) ≡ go (Some (fault HeadTooLong)) Search 1
  too_long_stays h c begun none full =
      let fits : settings.limits.head ≤ length h = grind arith in
      let some : (length (h ++ c) == 0) ≡ false = not_zero (length (h ++ c)) (grind (arith, length-append h c)) in
      rw (some, take-append-le settings.limits.head h c fits, none, enough_stays settings.limits.head h c full) refl

  no_block_steady : (h : List ℕ) (b : Bool) → nat_lt (length h) settings.limits.head ≡ b → (length h == 0) ≡ false → block_len (take settings.limits.head h) ≡ None
      → IsSteady Frame h (cond b unfinished (go (Some (fault HeadTooLong)) Search 1))
  no_block_steady h true e begun none = tt
  no_block_steady h false e begun none =
      let some : 1 ≤ length h = grind arith in
      (some, omega (arith, some, length-drop 1 h), λ c. too_long_stays h c begun none e)

  frame_steady : (h : List ℕ) (b : Bool) (o : Option ℕ) → (length h == 0) ≡ b → block_len (take settings.limits.head h) ≡ o → IsSteady Frame h (cond b stop (at_block settings.limits h o))
  frame_steady h true o z e = tt
  frame_steady h false None z e = no_block_steady h (nat_lt (length h) settings.limits.head) refl z e
  frame_steady h false (Some q) z e =
      let fits = place_fits 0 true (take settings.limits.head h) q e in
      after_head_steady q h (at_head settings.limits q (headers_in 2 (take q h))) (head_goes q (headers_in 2 (take q h))) (omega (arith, fits.0))
      (omega (arith, fits.1, front_at_most settings.limits.head h)) (λ c. head_stays h c q e)

  search_steady : (h : List ℕ) (o : Option ℕ) → first_place (codes "Content-Length") h ≡ o → IsSteady Search h (at_place o)
  search_steady h None e = tt
  search_steady h (Some r) e =
      let fits = found_fits (codes "Content-Length") h r e in
      (omega (arith, fits), omega (arith, fits, length-drop r h), λ c. rw (found_stays (codes "Content-Length") h c r e) refl)

  body_steady : (n : ℕ) (h : List ℕ) (a b : Bool) → nat_lt (length h) n ≡ a → (n == 0) ≡ b
      → IsSteady (Body n) h (cond a unfinished (cond b (go None Frame 0) (go (Some (body_item_by settings.floats (take n h))) Frame n)))
  body_steady n h true b e f = tt
  body_steady n h false true e f = (omega arith, omega arith, λ c. rw (enough_stays n h c e, f) refl)
  body_steady n h false false e f =
      let fits : n ≤ length h = grind arith in
      (fits, omega (arith, fits, length-drop n h), λ c. rw (enough_stays n h c e, f, take-append-le n h c fits) refl)

  skip_steady : (n : ℕ) (h : List ℕ) (b : Bool) → nat_lt (length h) n ≡ b → IsSteady (Skip n) h (cond b stop (go None Frame n))
  skip_steady n h true e = tt
  skip_steady n h false e =
      let fits : n ≤ length h = grind arith in
      (fits, omega (arith, fits, length-drop n h), λ c. rw (enough_stays n h c e) refl)

  pub steady : (s : DecodeState) (h : List ℕ) → IsSteady s h (transition settings s h)
  steady Frame h = frame_steady h (length h == 0) (block_len (take settings.limits.head h)) refl refl
  steady Search h = search_steady h (first_place (codes "Content-Length") h) refl
  steady (Body n) h = body_steady n h (nat_lt (length h) n) (n == 0) refl refl
  steady (Skip n) h = skip_steady n h (nat_lt (length h) n) refl
