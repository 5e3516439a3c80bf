-- A rule that walks over the events takes one event more.
use Rattle.std.proofs.Common.{◌≡◌, ℕ, List, ◌∷◌, ◌++◌, ◌∙◌, ap, append_assoc, Bool}
use Rattle.yl_text.specs.Finding.{FindingValue, at_each}
use Rattle.yl_events.specs.Event.{EventValue}
use Rattle.yl_tree.specs.declared.walk.Walk.{Walk}
use Rattle.yl_tree.specs.Frames.{IsBehind}
use Rattle.yl_tree.specs.Finders.{FindsByWalk}

pub walk_more : {M A : Type 0} (against : List ℕ → List ℕ → Bool) (test : M → ℕ → List ℕ → Bool)
    (found_at : List EventValue → EventValue → List EventValue → List FindingValue)
    (w v : Walk M A) (found more : List FindingValue) (e : EventValue) (es : List EventValue) (all : List FindingValue)
    (h : FindsByWalk against test found_at w found (e ∷ es) all)
    → more ≡ found ++ found_at h.before e es → IsBehind against test v (e ∷ h.before)
    → FindsByWalk against test found_at v more es all
walk_more against test found_at w v found more e es all h told behind = record {
  before = e ∷ h.before;
  behind = behind;
  whole =
      ap (λ (fs : List FindingValue). fs ++ at_each found_at (e ∷ h.before) es) told
      ∙ append_assoc found (found_at h.before e es) (at_each found_at (e ∷ h.before) es)
      ∙ h.whole;
}
