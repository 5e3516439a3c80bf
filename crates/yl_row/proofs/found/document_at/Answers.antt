use Rattle.std.proofs.Common.{◌≡◌, ◌∷◌, true, false, [], Some, ap, sym, ◌∙◌}
use Rattle.yl_text.specs.Character.{is_marker_of}
use Rattle.yl_lexeme.specs.declared.lexeme.Kind.TheVariants.{DocEnd}
use Rattle.yl_lexeme.specs.Known.{context_of}
use Rattle.yl_lexeme.specs.Surroundings.{surroundings_value}
use Rattle.yl_row.specs.Step.{found_in_row}
use Rattle.yl_row.proofs.DocumentEnds.{end_fault, short_end, end_found}
use Rattle.yl_row.proofs.RowSteps.{rest_of}
use Rattle.yl_row.proofs.found.document_at.Goals as goal
use Rattle.yl_row.proofs.found.document_at.Goals.{then-rest-lt2, else-rest-lt2}
use Rattle.std.specs.Prelude.{drop}

pub returns-then-is_marker_of-2 : goal.returns-then-is_marker_of-2
returns-then-is_marker_of-2 g c =
    let dashes : is_marker_of 45 (c.args.c ∷ c.args.rest.now) ≡ false = ap (is_marker_of 45) (sym c.requires.text) ∙ (sym c.is_marker_of.ensures ∙ c.if-is_marker_of.false) in
    let dots : is_marker_of 46 (c.args.c ∷ c.args.rest.now) ≡ true = ap (is_marker_of 46) (sym c.requires.text) ∙ (sym c.is_marker_of-2.ensures ∙ c.if-is_marker_of-2.true) in
    let fault : c.if-rest-lt2.fault ≡ end_fault (drop 2 c.args.rest.now) =
    elim c.if-rest-lt2.branch [
      | then-rest-lt2 w ↦ w.fault-is ∙ sym (short_end c.args.rest.now w.if-rest-lt2.true)
      | else-rest-lt2 w ↦ w.fault-is ∙ (w.behind_end-fault.ensures ∙ ap end_fault (rest_of c.args.rest.now 2))
    ] in
    end_found c.args.c c.args.rest.now (context_of (surroundings_value c.args.surroundings.now)) dashes dots
    ∙ (ap (λ f. Some (found_in_row DocEnd 3 [] f)) (sym fault) ∙ ap Some (sym c.sign-then-is_marker_of-2.ensures))
