-- How a fault is answered and written.
use Rattle.std.specs.Prelude.{ℕ, List, codes}
use Rattle.lsp_rpc.specs.declared.code.ErrorCode.{ErrorCode}
use Rattle.lsp_rpc.specs.declared.code.ErrorCode.TheVariants as answers
use Rattle.lsp_frame.specs.declared.parse_error.ParseError.{ParseError}
use Rattle.lsp_frame.specs.declared.parse_error.ParseError.TheVariants.{Headers, MissingContentLength, InvalidContentType, InvalidContentLength, Utf8, Body, Rest, HeadTooLong, BodyTooLong}
use Rattle.lsp_frame.specs.declared.parse_error.BodyFault.TheVariants.{Json, Message}

-- JSON that is no message is an invalid request, and everything else a parse error
abbrev pub code_of_fault : ParseError → ErrorCode
code_of_fault Headers = answers.ParseError
code_of_fault MissingContentLength = answers.ParseError
code_of_fault InvalidContentType = answers.ParseError
code_of_fault InvalidContentLength = answers.ParseError
code_of_fault Utf8 = answers.ParseError
code_of_fault (Body Json) = answers.ParseError
code_of_fault (Body Message) = answers.InvalidRequest
code_of_fault Rest = answers.ParseError
code_of_fault HeadTooLong = answers.ParseError
code_of_fault BodyTooLong = answers.ParseError

-- what a fault is printed as
abbrev pub text_of_fault : ParseError → List ℕ
text_of_fault Headers = codes "failed to parse headers"
text_of_fault MissingContentLength = codes "missing required `Content-Length` header"
text_of_fault InvalidContentType = codes "unable to parse content type"
text_of_fault InvalidContentLength = codes "unable to parse content length"
text_of_fault Utf8 = codes "request contains invalid UTF8"
text_of_fault (Body f) = codes "unable to parse JSON body"
text_of_fault Rest = codes "input ended inside a frame"
text_of_fault HeadTooLong = codes "head too long"
text_of_fault BodyTooLong = codes "body too long"
