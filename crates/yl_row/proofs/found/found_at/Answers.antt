use Rattle.std.proofs.Common.{◌≡◌, ℕ, List, Option, None, Bool, cond, eqb, ne_eqb, rules, ◌∙◌}
use Rattle.std.proofs.lemmas.Result.{IfOk-weaker}
use Rattle.yl_lexeme.specs.Known.{context_of}
use Rattle.yl_lexeme.specs.Surroundings.{surroundings_value}
use Rattle.yl_row.specs.Step.{word_at, document_at, found_at}
use Rattle.yl_row.specs.Beginning.{beginning_value}
use Rattle.yl_row.proofs.Signs.{found_word, later_place, nothing_there}
use Rattle.yl_row.proofs.found.found_at.Goals as goal
use Rattle.yl_row.proofs.found.found_at.Goals.{else-at-eq0-via-else-at-eq0, else-at-eq0-via-then-at-eq0+in_ok-found+in-None-1}

pub returns-2-clause-found : goal.returns-2-clause-found
returns-2-clause-found g c =
    let none : cond (eqb c.args.at 0) (document_at c.args.c c.args.rest.now (context_of (surroundings_value c.args.surroundings.now))) None ≡ None =
    elim c.else-at-eq0.branch [ else-at-eq0-via-else-at-eq0 w ↦ later_place c.args.at _ (ne_eqb _ _ w.if-at-eq0.false) | else-at-eq0-via-then-at-eq0+in_ok-found+in-None-1 w ↦ nothing_there (eqb c.args.at 0) _ (search rules) ] in
    IfOk-weaker c.word_at.result
    (λ s. (rows : List (List ℕ)) → word_at rows c.args.at (context_of (surroundings_value c.args.surroundings.now)) c.args.c c.args.rest.now ≡ beginning_value c.args.at rows s)
    (λ s. (rows : List (List ℕ)) (tab : Option ℕ) (first : Bool) → found_at rows tab first c.args.at (context_of (surroundings_value c.args.surroundings.now)) c.args.c c.args.rest.now ≡ beginning_value c.args.at rows s)
    (λ s h rows tab first. found_word rows tab first c.args.at (context_of (surroundings_value c.args.surroundings.now)) c.args.c c.args.rest.now c.requires.word none ∙ h rows)
    c.word_at.ensures.found
