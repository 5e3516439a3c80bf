-- Both lists, parted anew or with room for it.
use Rattle.std.proofs.Common.{◌≡◌, ℕ, ◌+◌, ◌≤◌, Bool, List, [], ◌++◌, map, Option, Some, None, refl, ap, sym, ◌∙◌, arith, append_assoc}
use Rattle.std.specs.Prelude.{IsSome, not, reverse, Vec, vec_len, vec_capacity}
use Rattle.std.specs.List.{filter}
use Rattle.std.specs.Option.{option_map}
use Rattle.yl_report.specs.Report.{ProblemValue}
use Rattle.yl_problem_lists.specs.declared.change.FoundProblems.{FoundProblems}
use Rattle.yl_problem_lists.specs.declared.change.LinesPatch.{LinesPatch}
use Rattle.yl_problem_lists.specs.declared.showing.Showing.{Showing}
use Rattle.yl_problem_lists.specs.Changes.{PatchValue, all_moved, patch_in, patched_lines, shown_below, suppressed_below}
use Rattle.yl_problem_lists.specs.Order.{merged}
use Rattle.yl_problem_lists.specs.Parts.{PartsValue, above, behind, shifted}
use Rattle.yl_problem_lists.specs.Popped.{IsTaken}
use Rattle.yl_problem_lists.specs.Rooms.{HasRoomFor, IsRoomFor, count_anew, crossing, fault_count}
use Rattle.yl_problem_lists.specs.Showing.{is_shown_by}

-- what was taken out, with the last one last again
pub given_back : (n m : ℕ) (ss us ts vs spare : List ProblemValue) → IsTaken n m ss us ts vs spare → behind n ts ≡ [] → behind n vs ≡ [] → reverse spare ≡ map (shifted n m) (merged (behind n ss) (behind n us))
given_back n m ss us ts vs spare taken e d =
    sym (ap (λ qs. map (shifted n m) (merged qs (behind n vs)) ++ reverse spare) e ∙ ap (λ qs. map (shifted n m) qs ++ reverse spare) d) ∙ taken.taken

-- one list: what stays above, the new ones, and those below that belong to it
joined : (f : List ProblemValue → List ProblemValue) (out kept aboves aboves' new backs backs' : List ProblemValue) → out ≡ kept ++ f backs → kept ≡ aboves ++ new → aboves ≡ aboves' → backs ≡ backs' → out ≡ aboves' ++ (new ++ f backs')
joined f out kept aboves aboves' new backs backs' e d h b =
    e ∙ (ap (λ xs. xs ++ f backs) d ∙ (append_assoc aboves new (f backs) ∙ (ap (λ xs. xs ++ (new ++ f backs)) h ∙ ap (λ xs. aboves' ++ (new ++ f xs)) b)))

abbrev pub both_of : List ProblemValue → List ProblemValue → PartsValue
both_of ss us = record { shown = ss; suppressed = us }

module _ {A : Type 0} (p : LinesPatch A) (s : Showing A) (ps : PartsValue) (ts vs spare kept kept' out out' : List ProblemValue) (is : p.below ≡ Some s) (lines : p.first ≤ p.old_end)
    (taken : IsTaken p.old_end p.new_end ps.shown ps.suppressed ts vs spare) (none : behind p.old_end ts ≡ []) (none' : behind p.old_end vs ≡ [])
    (keeps : kept ≡ above p.first ts ++ p.shown.items) (keeps' : kept' ≡ above p.first vs ++ p.suppressed.items)
    (gives : out ≡ kept ++ filter (is_shown_by s) (reverse spare)) (gives' : out' ≡ kept' ++ filter (λ q. not (is_shown_by s q)) (reverse spare)) where
  backs : reverse spare ≡ all_moved (patch_in p) ps
  backs = given_back p.old_end p.new_end ps.shown ps.suppressed ts vs spare taken none none'

  shown : out ≡ (patched_lines (patch_in p) ps).shown
  shown =
      joined (filter (is_shown_by s)) out kept (above p.first ts) (above p.first ps.shown) p.shown.items (reverse spare) (all_moved (patch_in p) ps) gives keeps (taken.shown_above p.first lines) backs
      ∙ ap (λ (o : Option (Showing A)). above p.first ps.shown ++ (p.shown.items ++ shown_below (option_map (λ (t : Showing A). is_shown_by t) o) (patch_in p) ps)) (sym is)

  suppressed : out' ≡ (patched_lines (patch_in p) ps).suppressed
  suppressed =
      joined (filter (λ q. not (is_shown_by s q))) out' kept' (above p.first vs) (above p.first ps.suppressed) p.suppressed.items (reverse spare) (all_moved (patch_in p) ps) gives' keeps' (taken.suppressed_above p.first lines) backs
      ∙ ap (λ (o : Option (Showing A)). above p.first ps.suppressed ++ (p.suppressed.items ++ suppressed_below (option_map (λ (t : Showing A). is_shown_by t) o) (patch_in p) ps)) (sym is)

  pub parted_anew : both_of out out' ≡ patched_lines (patch_in p) ps
  parted_anew = λ i. record { shown = shown i; suppressed = suppressed i }

-- ---- the lines alone

shown_so : (below : Option (ProblemValue → Bool)) (p : PatchValue) (o : Option (List ProblemValue)) (ps : PartsValue) → shown_below below (record p { indentation = o }) ps ≡ shown_below below p ps
shown_so None p o ps = refl
shown_so (Some f) p o ps = refl

suppressed_so : (below : Option (ProblemValue → Bool)) (p : PatchValue) (o : Option (List ProblemValue)) (ps : PartsValue) → suppressed_below below (record p { indentation = o }) ps ≡ suppressed_below below p ps
suppressed_so None p o ps = refl
suppressed_so (Some f) p o ps = refl

-- whatever indentation is judged anew
pub lines_so : (p : PatchValue) (o : Option (List ProblemValue)) (ps : PartsValue) → patched_lines (record p { indentation = o }) ps ≡ patched_lines p ps
lines_so p o ps =
    let shown = shown_so p.below p o ps in let suppressed = suppressed_so p.below p o ps in
    λ i. record { shown = above p.first ps.shown ++ (p.shown ++ shown i); suppressed = above p.first ps.suppressed ++ (p.suppressed ++ suppressed i) }

-- ---- room

pub crossing-add : {S : Type 0} (o : Option S) (a b : ℕ) → crossing o (a + b) ≡ crossing o a + crossing o b
crossing-add None a b = omega arith
crossing-add (Some s) a b = refl

pub crossing-le : {S : Type 0} (o : Option S) (a b : ℕ) → a ≤ b → crossing o a ≤ crossing o b
crossing-le None a b l = omega arith
crossing-le (Some s) a b l = l

pub crossing_some : {S : Type 0} (o : Option S) (n : ℕ) → IsSome o → crossing o n ≡ n
crossing_some None n h = absurd (cc)
crossing_some (Some s) n h = refl

-- with fewer that are shown, and no more that are not but the indentation that is judged anew
pub less_room : {A : Type 0} (f g : FoundProblems A) (p q : LinesPatch A) (room left : Vec ProblemValue A) → HasRoomFor f p room → vec_len g.shown ≤ vec_len f.shown → vec_capacity g.shown ≡ vec_capacity f.shown
    → vec_len g.suppressed + count_anew q.indentation ≤ vec_len f.suppressed + count_anew p.indentation → vec_capacity f.suppressed ≤ vec_capacity g.suppressed → ((n : ℕ) → IsRoomFor n room → IsRoomFor n left)
    → q.shown ≡ p.shown → q.suppressed ≡ p.suppressed → q.below ≡ p.below → q.fault ≡ p.fault → HasRoomFor g q left
less_room {A} f g p q room left h l e m k goes_on shown suppressed below fault =
    let b = p.below in
    let same : (n : ℕ) → crossing q.below n ≡ crossing b n = λ n. ap (λ (o : Option (Showing A)). crossing o n) below in
    record {
      shown = omega (arith, h.shown, l, e, same (vec_len g.suppressed + count_anew q.indentation), crossing-le b (vec_len g.suppressed + count_anew q.indentation) (vec_len f.suppressed + count_anew p.indentation) m, ap vec_len shown, ap fault_count fault);
      suppressed = omega (arith, h.suppressed, m, k, same (vec_len g.shown), crossing-le b (vec_len g.shown) (vec_len f.shown) l, ap vec_len suppressed);
      spare =
          let r = goes_on (crossing b (vec_len f.shown + (vec_len f.suppressed + count_anew p.indentation))) h.spare in record {
            empty = r.empty;
            enough =
                omega (
                  arith,
                  r.enough,
                  same (vec_len g.shown + (vec_len g.suppressed + count_anew q.indentation)),
                  crossing-le b (vec_len g.shown + (vec_len g.suppressed + count_anew q.indentation)) (vec_len f.shown + (vec_len f.suppressed + count_anew p.indentation)) (omega (arith, l, m)),
                );
          };
    }

-- room for the indentation that is judged anew: where it is, what stands below is parted anew
pub room_for_anew : {S T A : Type 0} (o : Option S) (below : Option T) (n m : ℕ) (room : Vec ProblemValue A) → (IsSome o → IsSome below) → n ≤ m → IsRoomFor (crossing below m) room → IsRoomFor (crossing o n) room
room_for_anew None below n m room h l r = record { empty = r.empty; enough = omega arith }
room_for_anew (Some s) below n m room h l r = record { empty = r.empty; enough = omega (arith, crossing_some below m (h refl), l, r.enough) }
