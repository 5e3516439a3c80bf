use Rattle.std.proofs.Common.{◌≡◌, ◌∙◌, ◌++◌, List, ℕ, OnOk, OnErr, ap, codes, subst}
use Rattle.json.specs.Print.{quoted}
use Rattle.yl_rpc.specs.Answers.{failure, id_json, json_text}
use Rattle.yl_rpc.specs.Views.{id_view}
use Rattle.yl_rpc.proofs.Texts.{failure_written}
use Rattle.yl_rpc.proofs.answers.FailureBody.put.Goals as goal

-- what is put, with the code's digits
put_with : (id digits message : List ℕ) → List ℕ
put_with id digits message = codes "{\"error\":{\"code\":" ++ ((digits ++ (codes ",\"message\":" ++ quoted message)) ++ (codes "},\"id\":" ++ (id ++ codes ",\"jsonrpc\":\"2.0\"}")))

pub returns-clause-ok : goal.returns-clause-ok
unfolding put_with
returns-clause-ok g c =
    let f = c.args.self.now in
    let id = json_text (id_json (id_view f.id)) in
    let whole : put_with id c.text.result.now f.message.now ≡ json_text (failure (id_view f.id) f.code f.message.now) =
    ap (λ l. put_with id l f.message.now) c.text.ensures ∙ failure_written (id_view f.id) f.code f.message.now in
    subst (λ (l : List ℕ). OnOk c.put.result (g.P.Pieces.puts c.args.to.now l c.put.new.to)) whole c.put.ensures.ok

pub returns-clause-err : goal.returns-clause-err
unfolding put_with
returns-clause-err g c =
    let f = c.args.self.now in
    let id = json_text (id_json (id_view f.id)) in
    let whole : put_with id c.text.result.now f.message.now ≡ json_text (failure (id_view f.id) f.code f.message.now) =
    ap (λ l. put_with id l f.message.now) c.text.ensures ∙ failure_written (id_view f.id) f.code f.message.now in
    subst (λ (l : List ℕ). OnErr c.put.result (g.P.Pieces.breaks c.args.to.now l c.put.new.to)) whole c.put.ensures.err
