-- The words of a query.
use Rattle.std.specs.Prelude.{ℕ, ◌^◌, List, [], ◌∷◌, nat_lt, if◌then◌else◌, bytes_eq, codes, Option, Some, None, option_and_then, option_map, map, String, string_bytes}
use Rattle.std.specs.declared.alloc.Global.{Global}
use Rattle.lsp_program.specs.Number.{number_of}
use Rattle.lsp_uri.specs.Grammar.{is_uri_reference}
use Rattle.lsp_base.specs.declared.position.Position.{Position}
use Rattle.lsp_index.specs.declared.query.Request.{Request}
use Rattle.lsp_index.specs.declared.query.Request.TheVariants.{Definition, References, Hover}
use Rattle.lsp_index.specs.Queries.{QueryData}

abbrev pub request_asked : List ℕ → Option Request
request_asked word =
    if bytes_eq word (codes "definition") then Some Definition
    else (if bytes_eq word (codes "references") then Some References
    else (if bytes_eq word (codes "hover") then Some Hover else None))

-- a number within 32 bits
abbrev pub coordinate_of : List ℕ → Option ℕ
coordinate_of word = option_and_then (λ n. if nat_lt n (2 ^ 32) then Some n else None) (number_of word)

abbrev pub position_of : List ℕ → List ℕ → Option Position
position_of line character = option_and_then (λ l. option_map (λ c. record { line = l; character = c }) (coordinate_of character)) (coordinate_of line)

abbrev pub query_with : List ℕ → Option Request → Option Position → Option QueryData
query_with uri None p = None
query_with uri (Some r) None = None
query_with uri (Some r) (Some p) = if is_uri_reference uri then Some (record { request = r; uri = uri; position = p }) else None

-- what is asked for, the URI of a document, a line and a character
abbrev pub query_of : List (List ℕ) → Option QueryData
query_of [] = None
query_of (request ∷ []) = None
query_of (request ∷ uri ∷ []) = None
query_of (request ∷ uri ∷ line ∷ []) = None
query_of (request ∷ uri ∷ line ∷ character ∷ []) = query_with uri (request_asked request) (position_of line character)
query_of (request ∷ uri ∷ line ∷ character ∷ more ∷ words) = None

-- the query that the words ask
abbrev pub query_asked : List (String Global) → Option QueryData
query_asked words = query_of (map string_bytes words)
