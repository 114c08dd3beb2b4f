-- A value for a place past a list of headers.
use Rattle.httparse.specs.declared.spans.HeaderSpan.{HeaderSpan}

-- no bytes at all
abbrev pub no_span : HeaderSpan
no_span = record { name = record { start = 0; end = 0 }; value = record { start = 0; end = 0 } }
