use Rattle.std.proofs.Common.{rules, ◌≡◌, string_bytes}
use Rattle.lsp_rpc.specs.Message.{request, message_text}
use Rattle.lsp_rpc.specs.Shown.{show_request}
use Rattle.lsp_rpc.proofs.OneForm.{reads_as_request}
use Rattle.lsp_rpc.proofs.RoundTrip.{request_read_back}
use Rattle.lsp_rpc.proofs.request.Request.to_text.Goals as goal

pub returns-clause-reads_back : goal.returns-clause-reads_back
returns-clause-reads_back c = λ readable.
    let is : string_bytes c.push_str-2.new.self ≡ message_text (request (show_request c.args.self.now)) = search rules in
    request_read_back _ (show_request c.args.self.now) is c.in_ok-push_member.ensures.back c.in_ok-push_request_id.ensures.fits c.requires readable

pub returns-clause-reads_alone : goal.returns-clause-reads_alone
returns-clause-reads_alone c = λ readable. reads_as_request _ (show_request c.args.self.now) (returns-clause-reads_back c readable)
