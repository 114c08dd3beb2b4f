-- The three faults that headers have.
use Rattle.std.proofs.Common.{ℕ, List, [], ◌∷◌, Bool, true, false, cond, Option, Some, None, Result, Ok, Err, codes}
use Rattle.std.specs.Prelude.{⊤, bytes_eq}
use Rattle.std.specs.Str.{is_utf8}
use Rattle.lsp_frame.specs.Blocks.{Header}
use Rattle.lsp_frame.specs.Headers.{length_of, is_type_good, length_or_fault, length_after, on_length, content_length}
use Rattle.lsp_frame.specs.declared.parse_error.ParseError.{ParseError}
use Rattle.lsp_frame.specs.declared.parse_error.ParseError.TheVariants.{InvalidContentType, InvalidContentLength, Utf8}

abbrev pub IfFault : (ParseError → Type 0) → Result (Option ℕ) ParseError → Type 0
IfFault P (Ok n) = ⊤
IfFault P (Err e) = P e

module _ (P : ParseError → Type 0) (of_utf8 : P Utf8) (of_length : P InvalidContentLength) (of_type : P InvalidContentType) where
  length_fault : (o : Option ℕ) → IfFault P (length_or_fault o)
  length_fault None = of_length
  length_fault (Some n) = tt

  -- by whether the name is `Content-Length` or `Content-Type`, the value is UTF-8, and the type is good
  header_fault : (a b u g : Bool) (before : Option ℕ) (value : List ℕ)
      → IfFault P (cond a (cond u (length_or_fault (length_of value)) (Err Utf8)) (cond b (cond u (cond g (Ok before) (Err InvalidContentType)) (Err Utf8)) (Ok before)))
  header_fault true b true g before value = length_fault (length_of value)
  header_fault true b false g before value = of_utf8
  header_fault false true true true before value = tt
  header_fault false true true false before value = of_type
  header_fault false true false g before value = of_utf8
  header_fault false false u g before value = tt

  later_fault : (r : Result (Option ℕ) ParseError) (next : Option ℕ → Result (Option ℕ) ParseError) → IfFault P r → ((n : Option ℕ) → IfFault P (next n)) → IfFault P (on_length r next)
  later_fault (Ok n) next is later = later n
  later_fault (Err e) next is later = is

  -- what holds of these three faults holds of that of any headers
  pub headers_fault : (before : Option ℕ) (hs : List Header) → IfFault P (content_length before hs)
  headers_fault before [] = tt
  headers_fault before (h ∷ hs) =
      later_fault (length_after before h) (λ n. content_length n hs) (header_fault (bytes_eq h.0 (codes "Content-Length")) (bytes_eq h.0 (codes "Content-Type")) (is_utf8 h.1) (is_type_good h.1) before h.1)
      (λ n. headers_fault n hs)
