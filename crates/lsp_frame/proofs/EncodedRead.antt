-- What a list of calls encoded is read as the messages that were encoded.
use Rattle.std.proofs.Common.{List, [], ◌∷◌}
use Rattle.lsp_frame.specs.Items.{At}
use Rattle.lsp_frame.specs.Calls.{CodecCall, fed, gave, finished, encoded, failed, Leads, messages_encoded}
use Rattle.lsp_frame.specs.Laws.{AreReadBack, AreReadable, EncodedRead}
use Rattle.lsp_frame.specs.declared.settings.CodecSettings.{CodecSettings}
use Rattle.lsp_frame.proofs.FramesRead.{messages_read_lem}

read_back : (settings : CodecSettings) (calls : List CodecCall) (a b : At) → Leads calls a b → AreReadable settings.limits (messages_encoded calls) → AreReadBack settings.limits (messages_encoded calls)
read_back settings [] a b l readable = tt
read_back settings (fed piece ∷ calls) a b l readable = read_back settings calls l.0 b l.2 readable
read_back settings (gave x ∷ calls) a b l readable = read_back settings calls l.0 b l.2 readable
read_back settings (finished r ∷ calls) a b l readable = read_back settings calls l.0 b l.2 readable
read_back settings (encoded m ∷ calls) a b l readable = ((l.1.1 readable.0.0, readable.0.1), read_back settings calls l.0 b l.2 readable.1)
read_back settings (failed ∷ calls) a b l readable = read_back settings calls l.0 b l.2 readable

pub encoded_read_lem : EncodedRead
encoded_read_lem settings calls a b c l readable = messages_read_lem settings (messages_encoded calls) c (read_back settings calls a b l readable)
