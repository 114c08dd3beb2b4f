use Rattle.std.proofs.Common.{refl, codes, option_map}
use Rattle.serde_json.specs.View.{view}
use Rattle.lsp_rpc.proofs.Kept.{keeps_this, keeps_others}
use Rattle.lsp_rpc.proofs.members.Members.keep.Goals as goal

pub returns-in-jsonrpc : goal.returns-in-jsonrpc
returns-in-jsonrpc c = rw c.in-jsonrpc.is (record {
  jsonrpc = keeps_this (codes "jsonrpc") (view c.args.value) _ _ c.keep_first.ensures (λ rest. refl);
  id = keeps_others (codes "id") (codes "jsonrpc") (view c.args.value) (option_map view c.args.self.now.id) (λ rest. refl);
  method = keeps_others (codes "method") (codes "jsonrpc") (view c.args.value) (option_map view c.args.self.now.method) (λ rest. refl);
  params = keeps_others (codes "params") (codes "jsonrpc") (view c.args.value) (option_map view c.args.self.now.params) (λ rest. refl);
  outcome = keeps_others (codes "result") (codes "jsonrpc") (view c.args.value) (option_map view c.args.self.now.result) (λ rest. refl);
  error = keeps_others (codes "error") (codes "jsonrpc") (view c.args.value) (option_map view c.args.self.now.error) (λ rest. refl);
})

pub returns-in-id : goal.returns-in-id
returns-in-id c = rw c.in-id.is (record {
  jsonrpc = keeps_others (codes "jsonrpc") (codes "id") (view c.args.value) (option_map view c.args.self.now.jsonrpc) (λ rest. refl);
  id = keeps_this (codes "id") (view c.args.value) _ _ c.keep_first-in-id.ensures (λ rest. refl);
  method = keeps_others (codes "method") (codes "id") (view c.args.value) (option_map view c.args.self.now.method) (λ rest. refl);
  params = keeps_others (codes "params") (codes "id") (view c.args.value) (option_map view c.args.self.now.params) (λ rest. refl);
  outcome = keeps_others (codes "result") (codes "id") (view c.args.value) (option_map view c.args.self.now.result) (λ rest. refl);
  error = keeps_others (codes "error") (codes "id") (view c.args.value) (option_map view c.args.self.now.error) (λ rest. refl);
})

pub returns-in-method : goal.returns-in-method
returns-in-method c = rw c.in-method.is (record {
  jsonrpc = keeps_others (codes "jsonrpc") (codes "method") (view c.args.value) (option_map view c.args.self.now.jsonrpc) (λ rest. refl);
  id = keeps_others (codes "id") (codes "method") (view c.args.value) (option_map view c.args.self.now.id) (λ rest. refl);
  method = keeps_this (codes "method") (view c.args.value) _ _ c.keep_first-in-method.ensures (λ rest. refl);
  params = keeps_others (codes "params") (codes "method") (view c.args.value) (option_map view c.args.self.now.params) (λ rest. refl);
  outcome = keeps_others (codes "result") (codes "method") (view c.args.value) (option_map view c.args.self.now.result) (λ rest. refl);
  error = keeps_others (codes "error") (codes "method") (view c.args.value) (option_map view c.args.self.now.error) (λ rest. refl);
})

pub returns-in-params : goal.returns-in-params
returns-in-params c = rw c.in-params.is (record {
  jsonrpc = keeps_others (codes "jsonrpc") (codes "params") (view c.args.value) (option_map view c.args.self.now.jsonrpc) (λ rest. refl);
  id = keeps_others (codes "id") (codes "params") (view c.args.value) (option_map view c.args.self.now.id) (λ rest. refl);
  method = keeps_others (codes "method") (codes "params") (view c.args.value) (option_map view c.args.self.now.method) (λ rest. refl);
  params = keeps_this (codes "params") (view c.args.value) _ _ c.keep_first-in-params.ensures (λ rest. refl);
  outcome = keeps_others (codes "result") (codes "params") (view c.args.value) (option_map view c.args.self.now.result) (λ rest. refl);
  error = keeps_others (codes "error") (codes "params") (view c.args.value) (option_map view c.args.self.now.error) (λ rest. refl);
})

pub returns-in-result : goal.returns-in-result
returns-in-result c = rw c.in-result.is (record {
  jsonrpc = keeps_others (codes "jsonrpc") (codes "result") (view c.args.value) (option_map view c.args.self.now.jsonrpc) (λ rest. refl);
  id = keeps_others (codes "id") (codes "result") (view c.args.value) (option_map view c.args.self.now.id) (λ rest. refl);
  method = keeps_others (codes "method") (codes "result") (view c.args.value) (option_map view c.args.self.now.method) (λ rest. refl);
  params = keeps_others (codes "params") (codes "result") (view c.args.value) (option_map view c.args.self.now.params) (λ rest. refl);
  outcome = keeps_this (codes "result") (view c.args.value) _ _ c.keep_first-in-result.ensures (λ rest. refl);
  error = keeps_others (codes "error") (codes "result") (view c.args.value) (option_map view c.args.self.now.error) (λ rest. refl);
})

pub returns-in-error : goal.returns-in-error
returns-in-error c = rw c.in-error.is (record {
  jsonrpc = keeps_others (codes "jsonrpc") (codes "error") (view c.args.value) (option_map view c.args.self.now.jsonrpc) (λ rest. refl);
  id = keeps_others (codes "id") (codes "error") (view c.args.value) (option_map view c.args.self.now.id) (λ rest. refl);
  method = keeps_others (codes "method") (codes "error") (view c.args.value) (option_map view c.args.self.now.method) (λ rest. refl);
  params = keeps_others (codes "params") (codes "error") (view c.args.value) (option_map view c.args.self.now.params) (λ rest. refl);
  outcome = keeps_others (codes "result") (codes "error") (view c.args.value) (option_map view c.args.self.now.result) (λ rest. refl);
  error = keeps_this (codes "error") (view c.args.value) _ _ c.keep_first-in-error.ensures (λ rest. refl);
})
