-- The grammar of URI references: RFC 3986, appendix A. Each production is a test of a text, below its rule, with the section
-- that defines it. As everywhere in ABNF, letters between quotes stand for either case.
use Rattle.std.specs.Prelude.{ℕ, zero, suc, ◌==◌, nat_le, codes, length, List, [], ◌∷◌, Bool, true, false, not, ◌||◌, ◌&&◌, Option, Some, None, option_map, option_and_then, if◌then◌else◌}
use Rattle.std.specs.List.{list_any, list_all}
use Rattle.std.specs.Char.{is_ascii_digit, is_ascii_alphabetic, is_ascii_alphanumeric, is_ascii_hexdigit}
use Rattle.std.specs.Int.{is_in_range}
use Rattle.lsp_uri.specs.Cuts.{before, after, from, stripped, pieces, before_two, after_two, is_absent_or, is_present_and}

-- ---- characters

abbrev pub is_among : List ℕ → ℕ → Bool
is_among cs c = list_any (λ d. d == c) cs

-- 2.3: unreserved = ALPHA / DIGIT / "-" / "." / "_" / "~"
unfoldable pub is_unreserved : ℕ → Bool
is_unreserved c = is_ascii_alphanumeric c || is_among (codes "-._~") c

-- 2.2: sub-delims = "!" / "$" / "&" / "'" / "(" / ")" / "*" / "+" / "," / ";" / "="
unfoldable pub is_sub_delim : ℕ → Bool
is_sub_delim c = is_among (codes "!$&'()*+,;=") c

-- unreserved / sub-delims / one of these
unfoldable pub is_plain : List ℕ → ℕ → Bool
is_plain more c = is_unreserved c || is_sub_delim c || is_among more c

-- *( unreserved / pct-encoded / sub-delims / one of these ), where 2.1: pct-encoded = "%" HEXDIG HEXDIG
abbrev pub is_made_of : List ℕ → List ℕ → Bool
is_made_of more [] = true
is_made_of more (c ∷ []) = not (c == 37) && is_plain more c
is_made_of more (c ∷ d ∷ []) = not (c == 37) && is_plain more c && is_made_of more (d ∷ [])
is_made_of more (c ∷ d ∷ e ∷ s) = if c == 37 then is_ascii_hexdigit d && is_ascii_hexdigit e && is_made_of more s else is_plain more c && is_made_of more (d ∷ e ∷ s)

abbrev pub is_empty : List ℕ → Bool
is_empty [] = true
is_empty (c ∷ s) = false

-- ---- 3.1: the scheme

unfoldable pub is_scheme_char : ℕ → Bool
is_scheme_char c = is_ascii_alphanumeric c || is_among (codes "+-.") c

-- 3.1: scheme = ALPHA *( ALPHA / DIGIT / "+" / "-" / "." )
abbrev pub is_scheme : List ℕ → Bool
is_scheme [] = false
is_scheme (c ∷ s) = is_ascii_alphabetic c && list_all is_scheme_char s

-- ---- 3.2: the authority

-- 3.2.1: userinfo = *( unreserved / pct-encoded / sub-delims / ":" )
abbrev pub is_userinfo : List ℕ → Bool
is_userinfo s = is_made_of (codes ":") s

-- 3.2.3: port = *DIGIT
abbrev pub is_port : List ℕ → Bool
is_port s = list_all is_ascii_digit s

-- 3.2.2: reg-name = *( unreserved / pct-encoded / sub-delims )
abbrev pub is_reg_name : List ℕ → Bool
is_reg_name s = is_made_of [] s

-- 3.2.2: dec-octet = DIGIT / %x31-39 DIGIT / "1" 2DIGIT / "2" %x30-34 DIGIT / "25" %x30-35
abbrev pub is_dec_octet : List ℕ → Bool
is_dec_octet [] = false
is_dec_octet (a ∷ []) = is_ascii_digit a
is_dec_octet (a ∷ b ∷ []) = is_in_range 49 57 a && is_ascii_digit b
is_dec_octet (a ∷ b ∷ c ∷ []) =
    ((a == 49) && is_ascii_digit b && is_ascii_digit c) || ((a == 50) && is_in_range 48 52 b && is_ascii_digit c) || ((a == 50) && (b == 53) && is_in_range 48 53 c)
is_dec_octet (a ∷ b ∷ c ∷ d ∷ s) = false

-- dec-octet "." and what then follows
abbrev pub is_octet_and : (List ℕ → Bool) → List ℕ → Bool
is_octet_and test s = is_dec_octet (before 46 s) && is_present_and test (after 46 s)

-- 3.2.2: IPv4address = dec-octet "." dec-octet "." dec-octet "." dec-octet
unfoldable pub is_ipv4 : List ℕ → Bool
is_ipv4 s = is_octet_and (is_octet_and (is_octet_and is_dec_octet)) s

-- 3.2.2: h16 = 1*4HEXDIG
unfoldable pub is_h16 : List ℕ → Bool
is_h16 s = nat_le 1 (length s) && nat_le (length s) 4 && list_all is_ascii_hexdigit s

-- 3.2.2: ls32 = ( h16 ":" h16 ) / IPv4address, by its pieces between colons
abbrev pub is_ls32 : List (List ℕ) → Bool
is_ls32 [] = false
is_ls32 (p ∷ []) = is_ipv4 p
is_ls32 (p ∷ q ∷ []) = is_h16 p && is_h16 q
is_ls32 (p ∷ q ∷ r ∷ ps) = false

-- n( h16 ":" ) ls32, by its pieces between colons
abbrev pub is_h16s_and_ls32 : ℕ → List (List ℕ) → Bool
is_h16s_and_ls32 zero ps = is_ls32 ps
is_h16s_and_ls32 (suc n) [] = false
is_h16s_and_ls32 (suc n) (p ∷ ps) = is_h16 p && is_h16s_and_ls32 n ps

-- [ *( h16 ":" ) h16 ], with at most n h16 in all
abbrev pub is_h16s_up_to : ℕ → List ℕ → Bool
is_h16s_up_to n s = is_empty s || (list_all is_h16 (pieces 58 s) && nat_le (length (pieces 58 s)) n)

-- the eight forms of IPv6address with "::", by what stands on its left and on its right
unfoldable pub is_shortened : List ℕ → List ℕ → Bool
is_shortened l r =
    -- "::" 5( h16 ":" ) ls32
    (is_empty l && is_h16s_and_ls32 5 (pieces 58 r))
    -- [ h16 ] "::" 4( h16 ":" ) ls32
    || (is_h16s_up_to 1 l && is_h16s_and_ls32 4 (pieces 58 r))
    -- [ *1( h16 ":" ) h16 ] "::" 3( h16 ":" ) ls32
    || (is_h16s_up_to 2 l && is_h16s_and_ls32 3 (pieces 58 r))
    -- [ *2( h16 ":" ) h16 ] "::" 2( h16 ":" ) ls32
    || (is_h16s_up_to 3 l && is_h16s_and_ls32 2 (pieces 58 r))
    -- [ *3( h16 ":" ) h16 ] "::" h16 ":" ls32
    || (is_h16s_up_to 4 l && is_h16s_and_ls32 1 (pieces 58 r))
    -- [ *4( h16 ":" ) h16 ] "::" ls32
    || (is_h16s_up_to 5 l && is_ls32 (pieces 58 r))
    -- [ *5( h16 ":" ) h16 ] "::" h16
    || (is_h16s_up_to 6 l && is_h16 r)
    -- [ *6( h16 ":" ) h16 ] "::"
    || (is_h16s_up_to 7 l && is_empty r)

-- 3.2.2: IPv6address, whose first form is 6( h16 ":" ) ls32
abbrev pub is_ipv6_by : List ℕ → Option (List ℕ) → Bool
is_ipv6_by l None = is_h16s_and_ls32 6 (pieces 58 l)
is_ipv6_by l (Some r) = is_shortened l r

unfoldable pub is_ipv6 : List ℕ → Bool
is_ipv6 s = is_ipv6_by (before_two 58 s) (after_two 58 s)

-- 1*HEXDIG
abbrev pub is_hex_number : List ℕ → Bool
is_hex_number s = not (is_empty s) && list_all is_ascii_hexdigit s

-- 1*( unreserved / sub-delims / ":" )
abbrev pub is_future_address : List ℕ → Bool
is_future_address s = not (is_empty s) && list_all (is_plain (codes ":")) s

-- 3.2.2: IPvFuture = "v" 1*HEXDIG "." 1*( unreserved / sub-delims / ":" )
abbrev pub is_future : List ℕ → Bool
is_future s = is_hex_number (before 46 s) && is_present_and is_future_address (after 46 s)

abbrev pub is_ipvfuture : List ℕ → Bool
is_ipvfuture s = is_present_and is_future (stripped 118 s) || is_present_and is_future (stripped 86 s)

-- [ ":" port ]
abbrev pub is_port_part : List ℕ → Bool
is_port_part s = is_empty s || is_present_and is_port (stripped 58 s)

-- host [ ":" port ], where 3.2.2: host = IP-literal / IPv4address / reg-name, and IP-literal = "[" ( IPv6address / IPvFuture ) "]".
-- No address within brackets holds "]", and neither an IPv4address nor a reg-name holds ":" or begins with "[".
abbrev pub is_bracketed : List ℕ → Bool
is_bracketed s = (is_ipv6 (before 93 s) || is_ipvfuture (before 93 s)) && is_present_and is_port_part (after 93 s)

abbrev pub is_named : List ℕ → Bool
is_named s = (is_ipv4 (before 58 s) || is_reg_name (before 58 s)) && is_absent_or is_port (after 58 s)

abbrev pub is_host_by : List ℕ → Option (List ℕ) → Bool
is_host_by s None = is_named s
is_host_by s (Some t) = is_bracketed t

unfoldable pub is_host_and_port : List ℕ → Bool
is_host_and_port s = is_host_by s (stripped 91 s)

-- 3.2: authority = [ userinfo "@" ] host [ ":" port ]; neither a userinfo nor a host holds "@"
abbrev pub is_authority_by : List ℕ → Option (List ℕ) → Bool
is_authority_by s None = is_host_and_port s
is_authority_by s (Some t) = is_userinfo s && is_host_and_port t

unfoldable pub is_authority : List ℕ → Bool
is_authority s = is_authority_by (before 64 s) (after 64 s)

-- ---- 3.3: the path

-- 3.3: segment = *pchar, where pchar = unreserved / pct-encoded / sub-delims / ":" / "@"
abbrev pub is_segment : List ℕ → Bool
is_segment s = is_made_of (codes ":@") s

-- 3.3: segment-nz = 1*pchar
abbrev pub is_segment_nz : List ℕ → Bool
is_segment_nz s = not (is_empty s) && is_segment s

-- 3.3: segment-nz-nc = 1*( unreserved / pct-encoded / sub-delims / "@" )
abbrev pub is_segment_nz_nc : List ℕ → Bool
is_segment_nz_nc s = not (is_empty s) && is_made_of (codes "@") s

-- segment *( "/" segment )
abbrev pub are_segments : List ℕ → Bool
are_segments s = list_all is_segment (pieces 47 s)

-- 3.3: path-abempty = *( "/" segment )
unfoldable pub is_path_abempty : List ℕ → Bool
is_path_abempty s = is_empty s || is_present_and are_segments (stripped 47 s)

-- 3.3: path-rootless = segment-nz *( "/" segment )
unfoldable pub is_path_rootless : List ℕ → Bool
is_path_rootless s = is_segment_nz (before 47 s) && is_absent_or are_segments (after 47 s)

-- 3.3: path-noscheme = segment-nz-nc *( "/" segment )
unfoldable pub is_path_noscheme : List ℕ → Bool
is_path_noscheme s = is_segment_nz_nc (before 47 s) && is_absent_or are_segments (after 47 s)

-- 3.3: path-absolute = "/" [ segment-nz *( "/" segment ) ]
abbrev pub is_path_absolute_rest : List ℕ → Bool
is_path_absolute_rest s = is_empty s || is_path_rootless s

unfoldable pub is_path_absolute : List ℕ → Bool
is_path_absolute s = is_present_and is_path_absolute_rest (stripped 47 s)

-- 3.3: path-empty = 0<pchar> is `is_empty`

-- ---- 3.4 and 3.5: the query and the fragment

-- 3.4: query = *( pchar / "/" / "?" )
abbrev pub is_query : List ℕ → Bool
is_query s = is_made_of (codes ":@/?") s

-- 3.5: fragment = *( pchar / "/" / "?" )
abbrev pub is_fragment : List ℕ → Bool
is_fragment s = is_made_of (codes ":@/?") s

-- ---- 3 and 4: the whole, by its parts

-- 3: hier-part = "//" authority path-abempty / path-absolute / path-rootless / path-empty
unfoldable pub is_hier_part : Option (List ℕ) → List ℕ → Bool
is_hier_part (Some a) p = is_authority a && is_path_abempty p
is_hier_part None p = is_path_absolute p || is_path_rootless p || is_empty p

-- 4.2: relative-part = "//" authority path-abempty / path-absolute / path-noscheme / path-empty
unfoldable pub is_relative_part : Option (List ℕ) → List ℕ → Bool
is_relative_part (Some a) p = is_authority a && is_path_abempty p
is_relative_part None p = is_path_absolute p || is_path_noscheme p || is_empty p

-- 3: URI = scheme ":" hier-part [ "?" query ] [ "#" fragment ]
-- 4.2: relative-ref = relative-part [ "?" query ] [ "#" fragment ]
-- A text with a scheme is no relative-ref: its first segment holds ":".
unfoldable pub is_by_parts : Option (List ℕ) → Option (List ℕ) → List ℕ → Option (List ℕ) → Option (List ℕ) → Bool
is_by_parts (Some s) a p q f = is_hier_part a p && is_absent_or is_query q && is_absent_or is_fragment f
is_by_parts None a p q f = is_relative_part a p && is_absent_or is_query q && is_absent_or is_fragment f

-- ---- the parts of a text, by the delimiters of section 3 and appendix B

-- 3.5: a fragment is what follows the first "#"
abbrev pub fragment_of : List ℕ → Option (List ℕ)
fragment_of s = after 35 s

-- 3.4: a query is what follows the first "?", up to "#"
abbrev pub query_of : List ℕ → Option (List ℕ)
query_of s = after 63 (before 35 s)

-- what stands before a query and a fragment
abbrev pub front_of : List ℕ → List ℕ
front_of s = before 63 (before 35 s)

-- 3.1: a scheme is what stands before the first ":", where it is one; a scheme holds no "/"
abbrev pub scheme_by : List ℕ → Option (List ℕ) → Option (List ℕ)
scheme_by s None = None
scheme_by s (Some t) = if is_scheme s then Some s else None

abbrev pub scheme_in : List ℕ → Option (List ℕ)
scheme_in s = scheme_by (before 58 s) (after 58 s)

-- what follows the scheme and its ":"
abbrev pub rest_by : List ℕ → List ℕ → Option (List ℕ) → List ℕ
rest_by s t None = s
rest_by s t (Some u) = if is_scheme t then u else s

abbrev pub rest_in : List ℕ → List ℕ
rest_in s = rest_by s (before 58 s) (after 58 s)

-- what follows "//" at the front
abbrev pub after_slashes : List ℕ → Option (List ℕ)
after_slashes s = option_and_then (stripped 47) (stripped 47 s)

-- 3.2: an authority follows "//", up to "/"
abbrev pub authority_in : List ℕ → Option (List ℕ)
authority_in s = option_map (before 47) (after_slashes s)

-- 3.3: a path follows the authority, or is all where there is none
abbrev pub path_by : List ℕ → Option (List ℕ) → List ℕ
path_by s None = s
path_by s (Some t) = from 47 t

abbrev pub path_in : List ℕ → List ℕ
path_in s = path_by s (after_slashes s)

unfoldable pub scheme_of : List ℕ → Option (List ℕ)
scheme_of s = scheme_in (front_of s)

unfoldable pub authority_of : List ℕ → Option (List ℕ)
authority_of s = authority_in (rest_in (front_of s))

unfoldable pub path_of : List ℕ → List ℕ
path_of s = path_in (rest_in (front_of s))

-- 4.1: URI-reference = URI / relative-ref
unfoldable pub is_uri_reference : List ℕ → Bool
is_uri_reference s = is_by_parts (scheme_of s) (authority_of s) (path_of s) (query_of s) (fragment_of s)
