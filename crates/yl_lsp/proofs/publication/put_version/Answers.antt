use Rattle.std.proofs.Common.{ℕ, List, ◌++◌, Bor, Option, codes, sym, ap, ◌∙◌, subst}
use Rattle.std.specs.Option.{option_map}
use Rattle.yl_frames.proofs.Outcomes.{fault_then, ok_then}
use Rattle.yl_lsp.specs.Texts.{version_text}
use Rattle.yl_lsp.proofs.publication.put_version.Goals as goal

pub returns-in-Some-clause-ok : goal.returns-in-Some-clause-ok
returns-in-Some-clause-ok g c =
    let P : List ℕ → Type 0 = λ l. g.P.Pieces.puts c.args.to.now l c.put_parts.new.to in
    ok_then c.put_parts.result c.put_parts.ensures.ok (subst P (ap (λ l. codes ",\"version\":" ++ (l ++ codes "}}")) c.as_bytes.ensures.value
    ∙ ap (λ (v : Option (Bor (List ℕ))). version_text (option_map (λ (t : Bor (List ℕ)). t.now) v)) (sym c.in-Some.is)))

pub returns-in-Some-clause-err : goal.returns-in-Some-clause-err
returns-in-Some-clause-err g c =
    let P : List ℕ → Type 0 = λ l. g.P.Pieces.breaks c.args.to.now l c.put_parts.new.to in
    fault_then c.put_parts.result c.put_parts.ensures.err (subst P (ap (λ l. codes ",\"version\":" ++ (l ++ codes "}}")) c.as_bytes.ensures.value
    ∙ ap (λ (v : Option (Bor (List ℕ))). version_text (option_map (λ (t : Bor (List ℕ)). t.now) v)) (sym c.in-Some.is)))
