-- What one event more says of the nodes by their collections.
use Rattle.std.proofs.Common.{◌≡◌, ℕ, zero, suc, ◌+◌, ◌-◌, ◌<◌, true, false, List, [], ◌∷◌, None, map, drop, get_or, length, refl, sym, ap, ◌∙◌, arith, add-one, drop-cons}
use Rattle.yl_events.specs.Event.{EventValue, event_value, kind_value}
use Rattle.yl_events.specs.declared.event.Event.{Event}
use Rattle.yl_events.specs.declared.event.EventKind.TheVariants as kind
use Rattle.yl_settings.specs.Item.{nodes_at}
use Rattle.yl_settings.specs.Nodes.{Nodes, NoNode, Node, behind, ends, innermost, levels_from, outer, starts}

drop-outer : (d : ℕ) (levels : List Nodes) → drop d (outer levels) ≡ drop (suc d) levels
drop-outer zero [] = refl
drop-outer (suc d) [] = refl
drop-outer d (x ∷ xs) = refl

drop-nothing : (d : ℕ) → drop d (levels_from []) ≡ []
unfolding levels_from
drop-nothing zero = refl
drop-nothing (suc d) = refl

levels_from-∷ : (e : EventValue) (es : List EventValue) → levels_from (e ∷ es) ≡ behind e (levels_from es)
unfolding levels_from
levels_from-∷ e es = refl

drop-starts : (d : ℕ) (e : EventValue) (levels : List Nodes) → starts e.kind ≡ true → drop (suc d) (behind e levels) ≡ drop (suc (suc d)) levels
drop-starts d e levels is_start = rw is_start (drop-outer d (outer levels) ∙ drop-outer (suc d) levels)

drop-ends : (d : ℕ) (e : EventValue) (levels : List Nodes) → starts e.kind ≡ false → ends e.kind ≡ true → drop (suc d) (behind e levels) ≡ drop d levels
drop-ends d e levels is_no_start is_end = rw (is_no_start, is_end) refl

drop-leaf : (d : ℕ) (e : EventValue) (levels : List Nodes) → starts e.kind ≡ false → ends e.kind ≡ false → drop (suc d) (behind e levels) ≡ drop (suc d) levels
drop-leaf d e levels is_no_start is_no_end = rw (is_no_start, is_no_end) (drop-outer d levels)

-- ---- at an index

-- what is shown of an event past the end
abbrev pub blank : Event
blank = record {
  kind = kind.DocumentStart;
  place = None;
  is_tagged = false;
  has_anchor = false;
  anchor_place = record { line = 0; col = 0 };
  anchor_name = record { ref_ptr = (0, 0); now = [] };
}

abbrev pub levels_at : List Event → ℕ → List Nodes
levels_at es i = levels_from (map event_value (drop i es))

levels_at-step : (es : List Event) (i : ℕ) → i < length es → levels_at es i ≡ behind (event_value (get_or es i blank)) (levels_at es (i + 1))
levels_at-step es i within =
    rw add-one (ap (λ (o : List Event). levels_from (map event_value o)) (drop-cons es i blank within)
    ∙ levels_from-∷ (event_value (get_or es i blank)) (map event_value (drop (suc i) es)))

drop-length : (es : List Event) → drop (length es) es ≡ []
drop-length [] = refl
drop-length (e ∷ es) = drop-length es

pub levels_at-end : (es : List Event) → levels_at es (length es) ≡ []
unfolding levels_from
levels_at-end es = ap (λ (o : List Event). levels_from (map event_value o)) (drop-length es)

pub past_start : (es : List Event) (i n : ℕ) (all : List Nodes) → i < length es → 0 < n → drop n (levels_at es i) ≡ all
    → starts (kind_value (get_or es i blank).kind) ≡ true → drop (n + 1) (levels_at es (i + 1)) ≡ all
past_start es i zero all within some are is_start = absurd (omega arith)
past_start es i (suc d) all within some are is_start =
    let more : suc d + 1 ≡ suc (suc d) = omega arith in
    rw more (sym (drop-starts d (event_value (get_or es i blank)) (levels_at es (i + 1)) is_start) ∙ (sym (ap (drop (suc d)) (levels_at-step es i within)) ∙ are))

pub past_end : (es : List Event) (i n : ℕ) (all : List Nodes) → i < length es → 0 < n → drop n (levels_at es i) ≡ all
    → starts (kind_value (get_or es i blank).kind) ≡ false → ends (kind_value (get_or es i blank).kind) ≡ true → drop (n - 1) (levels_at es (i + 1)) ≡ all
past_end es i zero all within some are is_no_start is_end = absurd (omega arith)
past_end es i (suc d) all within some are is_no_start is_end =
    let less : suc d - 1 ≡ d = omega arith in
    rw less (sym (drop-ends d (event_value (get_or es i blank)) (levels_at es (i + 1)) is_no_start is_end) ∙ (sym (ap (drop (suc d)) (levels_at-step es i within)) ∙ are))

pub past_leaf : (es : List Event) (i n : ℕ) (all : List Nodes) → i < length es → 0 < n → drop n (levels_at es i) ≡ all
    → starts (kind_value (get_or es i blank).kind) ≡ false → ends (kind_value (get_or es i blank).kind) ≡ false → drop n (levels_at es (i + 1)) ≡ all
past_leaf es i zero all within some are is_no_start is_no_end = absurd (omega arith)
past_leaf es i (suc d) all within some are is_no_start is_no_end =
    sym (drop-leaf d (event_value (get_or es i blank)) (levels_at es (i + 1)) is_no_start is_no_end) ∙ (sym (ap (drop (suc d)) (levels_at-step es i within)) ∙ are)

pub past_all : (es : List Event) (i n : ℕ) (all : List Nodes) → i ≡ length es → drop n (levels_at es i) ≡ all → levels_at es (length es) ≡ all
unfolding levels_from
past_all es i n all at_end are =
    levels_at-end es ∙ (sym (drop-nothing n) ∙ (ap (drop n) (sym (levels_at-end es)) ∙ (ap (λ (k : ℕ). drop n (levels_at es k)) (sym at_end) ∙ are)))

-- ---- the first node

pub none_at_end : (es : List Event) (i : ℕ) → i ≡ length es → nodes_at es i ≡ NoNode
none_at_end es i at_end = ap innermost (ap (levels_at es) at_end ∙ levels_at-end es)

pub none_at_close : (es : List Event) (i : ℕ) → i < length es → starts (kind_value (get_or es i blank).kind) ≡ false → ends (kind_value (get_or es i blank).kind) ≡ true
    → nodes_at es i ≡ NoNode
none_at_close es i within is_no_start is_end = ap innermost (levels_at-step es i within) ∙ rw (is_no_start, is_end) refl

pub node_at_start : (es : List Event) (i more : ℕ) → i < length es → starts (kind_value (get_or es i blank).kind) ≡ true → levels_at es more ≡ outer (levels_at es (i + 1))
    → nodes_at es i ≡ Node (kind_value (get_or es i blank).kind) (get_or es i blank).place (nodes_at es (i + 1)) (nodes_at es more)
node_at_start es i more within is_start past =
    ap innermost (levels_at-step es i within)
    ∙ (rw is_start (ap (λ (o : List Nodes). Node (kind_value (get_or es i blank).kind) (get_or es i blank).place (nodes_at es (i + 1)) (innermost o)) (sym past)))

pub node_at_leaf : (es : List Event) (i : ℕ) → i < length es → starts (kind_value (get_or es i blank).kind) ≡ false → ends (kind_value (get_or es i blank).kind) ≡ false
    → nodes_at es i ≡ Node (kind_value (get_or es i blank).kind) (get_or es i blank).place (nodes_at es (length es)) (nodes_at es (i + 1))
node_at_leaf es i within is_no_start is_no_end =
    ap innermost (levels_at-step es i within)
    ∙ (rw (is_no_start, is_no_end) (ap (λ (o : Nodes). Node (kind_value (get_or es i blank).kind) (get_or es i blank).place o (nodes_at es (i + 1))) (sym (none_at_end es (length es) refl))))
