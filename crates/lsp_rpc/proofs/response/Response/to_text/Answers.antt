use Rattle.std.proofs.Common.{rules, ◌≡◌, string_bytes}
use Rattle.lsp_rpc.specs.Message.{response, message_text}
use Rattle.lsp_rpc.specs.Shown.{show_response}
use Rattle.lsp_rpc.proofs.OneForm.{reads_as_response}
use Rattle.lsp_rpc.proofs.RoundTrip.{response_read_back}
use Rattle.lsp_rpc.proofs.response.Response.to_text.Goals as goal

pub returns-clause-reads_back : goal.returns-clause-reads_back
returns-clause-reads_back c = λ readable.
    let is : string_bytes c.push_str-3.new.self ≡ message_text (response (show_response c.args.self.now)) = search rules in
    response_read_back _ (show_response c.args.self.now) is c.in_ok-push_body.ensures.back c.in_ok-push_id.ensures.fits c.requires readable

pub returns-clause-reads_alone : goal.returns-clause-reads_alone
returns-clause-reads_alone c = λ readable. reads_as_response _ (show_response c.args.self.now) (returns-clause-reads_back c readable)
