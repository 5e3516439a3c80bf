-- What comments say of the lines behind their sections: nothing, or the same, where no fault hides any.
use Rattle.std.proofs.Common.{◌≡◌, false, List, [], ◌∷◌, Option, Some, None, ap, sym, subst, refl, ◌∙◌}
use Rattle.std.specs.List.{AllByRecursion}
use Rattle.yl_lexeme.specs.Lexeme.{PlacedCommentValue}
use Rattle.yl_sections.specs.Kept.{KeptValue, SectionFaultValue, unless_fault, rows_kept}
use Rattle.yl_lint.specs.TextReport.{comments_in_sections, shown}
use Rattle.yl_summary.specs.Overview.{IsSilent, has_fault}
use Rattle.yl_edited_lines.specs.Switches.{SpeaksWithin, switch_texts}
use Rattle.yl_patch.specs.Speaking.{SpeakAlike}
use Rattle.yl_found.proofs.Sections.{no_comments}
use Rattle.yl_found.proofs.ShownSections.{shown_sound}

-- where the sections that are shown have these comments
alike_by : (ls ns : List KeptValue) (cs ds : List PlacedCommentValue) → comments_in_sections 0 (shown ls) ≡ cs → comments_in_sections 0 (shown ns) ≡ ds
    → AllByRecursion (SpeaksWithin (rows_kept ls)) cs → AllByRecursion (SpeaksWithin (rows_kept ns)) ds → switch_texts cs ≡ switch_texts ds → SpeakAlike ls ns
alike_by ls ns cs ds e f old new switches = record {
  old = subst (λ (es : List PlacedCommentValue). AllByRecursion (SpeaksWithin (rows_kept ls)) es) (sym e) old;
  new = subst (λ (es : List PlacedCommentValue). AllByRecursion (SpeaksWithin (rows_kept ns)) es) (sym f) new;
  switches = ap switch_texts e ∙ (switches ∙ sym (ap switch_texts f));
}

silent_shown : (ks : List KeptValue) → AllByRecursion IsSilent ks → AllByRecursion IsSilent (shown ks)
silent_shown [] a = tt
silent_shown (k ∷ ks) a = (a.0, by k.fault (silent_shown ks a.1))
  where
    by : (f : Option SectionFaultValue) → AllByRecursion IsSilent (shown ks) → AllByRecursion IsSilent (unless_fault f (shown ks))
    by None h = h
    by (Some f) h = tt

-- sections without comments
pub silent_alike : (ls ns : List KeptValue) → AllByRecursion IsSilent ls → AllByRecursion IsSilent ns → SpeakAlike ls ns
silent_alike ls ns s t = alike_by ls ns [] [] (no_comments 0 (shown ls) (silent_shown ls s)) (no_comments 0 (shown ns) (silent_shown ns t)) tt tt refl

-- sections without fault, all of which are shown
pub sound_alike : (ls ns : List KeptValue) → has_fault ls ≡ false → has_fault ns ≡ false → AllByRecursion (SpeaksWithin (rows_kept ls)) (comments_in_sections 0 ls) → AllByRecursion (SpeaksWithin (rows_kept ns)) (comments_in_sections 0 ns)
    → switch_texts (comments_in_sections 0 ls) ≡ switch_texts (comments_in_sections 0 ns) → SpeakAlike ls ns
sound_alike ls ns e f = alike_by ls ns (comments_in_sections 0 ls) (comments_in_sections 0 ns) (ap (comments_in_sections 0) (shown_sound ls e)) (ap (comments_in_sections 0) (shown_sound ns f))
