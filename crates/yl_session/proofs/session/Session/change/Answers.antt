use Rattle.std.proofs.Common.{◌≡◌, ℕ, refl, List, Option, Result, Ok, Err, map, length, arith, ap, sym, subst, ◌∙◌}
use Rattle.std.specs.List.{splice}
use Rattle.std.specs.Prelude.{IsErr, OnErr, OnOk}
use Rattle.yl_text.specs.Store.{AreLines, IsRange}
use Rattle.yl_text.specs.Lines.{RowValue}
use Rattle.yl_config.specs.declared.config.Config.{Config}
use Rattle.yl_record.specs.Records.{RecordValue, characters_in}
use Rattle.yl_report.specs.Report.{ProblemValue}
use Rattle.yl_sections.specs.Judge.{kept_of_section}
use Rattle.yl_sections.specs.Kept.{KeptValue}
use Rattle.yl_sections.specs.Sections.{sections}
use Rattle.yl_rescan.specs.Held.{AreHeld}
use Rattle.yl_lint.specs.Computed.{report}
use Rattle.yl_problem_lists.specs.Changes.{parts_in, renewed}
use Rattle.yl_problem_lists.specs.Parts.{PartsValue}
use Rattle.yl_problem_lists.specs.Rooms.{IsReady}
use Rattle.yl_problem_lists.specs.declared.change.Change.{Change}
use Rattle.yl_found.specs.Found.{all_parts}
use Rattle.yl_summary.specs.Overview.{AreOverviews}
use Rattle.yl_session.specs.Known.{AreOverviewsAfter}
use Rattle.yl_session.specs.Parts.{Makes}
use Rattle.yl_session.specs.State.{SessionValue}
use Rattle.yl_edited_lines.proofs.FewLines.{few_lines}
use Rattle.yl_session.proofs.Bounds.{count_records, few_kept}
use Rattle.yl_session.proofs.Parts.{parts_same, shown_is_report}
use Rattle.yl_session.proofs.session.Session.change.Goals as goal

-- what holds holds where it is refused
held : {X E P : Type 0} (r : Result X E) → P → OnErr r P
held (Ok x) p = tt
held (Err e) p = p

-- what holds holds where it is done
held_so : {X E P : Type 0} (r : Result X E) → P → OnOk r P
held_so (Ok x) p = p
held_so (Err e) p = tt

-- what is asked of what is done is not asked where it is refused
refused : {X E : Type 0} (P : Type 0) (r : Result X E) → IsErr r → OnOk r P
refused P (Ok x) h = absurd (cc)
refused P (Err e) h = tt

-- what was shown is shown
shown_same : {p q : PartsValue} → p ≡ q → p.shown ≡ q.shown
shown_same e = ap (λ (ps : PartsValue). ps.shown) e

abbrev state : Config → List RowValue → List ProblemValue → SessionValue
state c ps problems = record { config = c; rows = ps; problems = problems }

pub returns-in_err-spare-clause-err : goal.returns-in_err-spare-clause-err
returns-in_err-spare-clause-err g c =
    held c.from_residual-in_err-spare.result (ap (λ (ps : List ProblemValue). state c.self.inside.config (g.S.Lines.rows c.self.inside.store) ps) (shown_same c.make_room.ensures.found) ∙ c.self.view_is)

pub returns-in_err-spare-clause-rows : goal.returns-in_err-spare-clause-rows
returns-in_err-spare-clause-rows g c = refused _ c.from_residual-in_err-spare.result c.from_residual-in_err-spare.ensures.0

pub returns-in_err-spare-clause-problems : goal.returns-in_err-spare-clause-problems
returns-in_err-spare-clause-problems g c = refused _ c.from_residual-in_err-spare.result c.from_residual-in_err-spare.ensures.0

pub returns-in_err-splice-clause-err : goal.returns-in_err-splice-clause-err
returns-in_err-splice-clause-err g c =
    held c.from_residual-in_err-splice.result
    (ap (λ (ps : List RowValue). state c.self.inside.config ps c.make_room.new.found.shown.items) c.in_err-splice.ensures.err
    ∙ (ap (λ (ps : List ProblemValue). state c.self.inside.config (g.S.Lines.rows c.self.inside.store) ps) (shown_same c.make_room.ensures.found) ∙ c.self.view_is))

pub returns-in_err-splice-clause-problems : goal.returns-in_err-splice-clause-problems
returns-in_err-splice-clause-problems g c =
    held_so c.from_residual-in_err-splice.result (shown_same c.make_room.ensures.found ∙ (c.self.invariant.3 ∙ ap (report c.self.inside.config) (sym c.in_err-splice.ensures.err)))

-- records that are the same are kept of the same lines
held_same : (ps qs : List RowValue) (cut : Option ℕ) (rs us : List RecordValue) → ps ≡ qs → us ≡ rs → AreHeld (characters_in ps) cut rs → AreHeld (characters_in qs) cut us
held_same ps qs cut rs us lines same h = subst (λ (es : List RecordValue). AreHeld (characters_in qs) cut es) (sym same) (subst (λ (xs : List RowValue). AreHeld (characters_in xs) cut rs) lines h)

-- and what is kept of their sections is the same
kept_same : (config : Config) (ks ls : List KeptValue) (rs us : List RecordValue) → ls ≡ ks → us ≡ rs → ks ≡ map (kept_of_section config) (sections rs) → ls ≡ map (kept_of_section config) (sections us)
kept_same config ks ls rs us same records is = same ∙ (is ∙ ap (λ (es : List RecordValue). map (kept_of_section config) (sections es)) (sym records))

-- a list in which some items were put in place of others
put_in : {X : Type 0} (all held old items : List X) (i j : ℕ) → all ≡ splice held i j items → held ≡ old → all ≡ splice old i j items
put_in all held old items i j is same = is ∙ ap (λ xs. splice xs i j items) same

-- the edit of the lines
abbrev lines_then : List RowValue → ℕ → ℕ → List RowValue → Type 0
lines_then ps a b ins = AreLines (splice ps a b ins)

pub planned-requires-clause-text : goal.planned-requires-clause-text
planned-requires-clause-text g c =
    let rows = g.S.Lines.rows c.self.inside.store in
    let here : c.args.self.now.rows ≡ rows = sym (ap (λ (s : SessionValue). s.rows) c.self.view_is) in record {
      range = subst (λ (ps : List RowValue). IsRange c.args.a c.args.b (length ps)) here c.requires.range;
      old = c.self.invariant.0;
      new = subst (lines_then rows c.args.a c.args.b) (sym c.as_slice.ensures.value) (subst (λ (ps : List RowValue). lines_then ps c.args.a c.args.b c.args.rows.now.items) here c.requires.lines);
    }

pub make_room-requires-clause-few : goal.make_room-requires-clause-few
make_room-requires-clause-few g c =
    let rows = g.S.Lines.rows c.self.inside.store in
    omega (arith, few_lines rows c.self.invariant.0, count_records rows c.self.inside.cut c.self.inside.records.items c.self.invariant.1, c.in_ok-plan.plan.rescan.records.small)

pub make_room-requires-clause-kept_few : goal.make_room-requires-clause-kept_few
make_room-requires-clause-kept_few g c =
    omega (arith, few_kept c.self.inside.config (g.S.Lines.rows c.self.inside.store) c.self.inside.cut c.self.inside.records.items c.self.inside.known.kept.items c.self.invariant.0 c.self.invariant.1 c.self.invariant.2, c.in_ok-plan.plan.rejudged.kept.small)

pub invariant_of-self : goal.invariant_of-self
invariant_of-self g c =
    let rows = g.S.Lines.rows c.self.inside.store in
    let config = c.self.inside.config in (
      c.self.invariant.0,
      held_same rows rows c.self.inside.cut c.self.inside.records.items c.make_room.new.records.items refl c.make_room.ensures.records c.self.invariant.1,
      kept_same config c.self.inside.known.kept.items c.make_room.new.kept.items c.self.inside.records.items c.make_room.new.records.items c.make_room.ensures.kept c.make_room.ensures.records c.self.invariant.2,
      shown_same c.make_room.ensures.found ∙ c.self.invariant.3,
      subst (λ (ks : List KeptValue). AreOverviews ks c.self.inside.known.overviews.items) (sym c.make_room.ensures.kept) c.self.invariant.4,
      c.make_room.ensures.found ∙ parts_same config rows rows c.self.inside.known.kept.items c.make_room.new.kept.items (parts_in c.self.inside.found) refl c.make_room.ensures.kept c.self.invariant.5,
    )

pub invariant_of-self-in_err-splice : goal.invariant_of-self-in_err-splice
invariant_of-self-in_err-splice g c =
    let rows = g.S.Lines.rows c.self.inside.store in
    let left = g.S.Lines.rows c.splice.new.self in
    let config = c.self.inside.config in
    let e : rows ≡ left = sym c.in_err-splice.ensures.err in
    let P : List RowValue → Type 0 = λ ps. AreLines ps in (
      subst P e c.self.invariant.0,
      held_same rows left c.self.inside.cut c.self.inside.records.items c.make_room.new.records.items e c.make_room.ensures.records c.self.invariant.1,
      kept_same config c.self.inside.known.kept.items c.make_room.new.kept.items c.self.inside.records.items c.make_room.new.records.items c.make_room.ensures.kept c.make_room.ensures.records c.self.invariant.2,
      shown_same c.make_room.ensures.found ∙ (c.self.invariant.3 ∙ ap (report config) e),
      subst (λ (ks : List KeptValue). AreOverviews ks c.self.inside.known.overviews.items) (sym c.make_room.ensures.kept) c.self.invariant.4,
      c.make_room.ensures.found ∙ parts_same config rows left c.self.inside.known.kept.items c.make_room.new.kept.items (parts_in c.self.inside.found) e c.make_room.ensures.kept c.self.invariant.5,
    )

pub put_kept-requires-clause-overviews : goal.put_kept-requires-clause-overviews
put_kept-requires-clause-overviews g c =
    let new = c.in_ok-plan.plan.rejudged in
    subst (λ (ks : List KeptValue). AreOverviewsAfter (splice ks new.from new.end new.kept.items) c.self.inside.known.overviews.items c.in_ok-plan.plan.renewal.overviews) (sym c.make_room.ensures.kept) c.in_ok-plan.ensures.overviews

-- what a change makes of both lists
made_of : {A : Type 0} (config : Config) (rows new : List RowValue) (ks ls : List KeptValue) (change : Change A) (old room now : PartsValue) → Makes config rows new ks ls change → old ≡ all_parts config rows ks → room ≡ old
    → now ≡ renewed change room → now ≡ all_parts config new ls
made_of config rows new ks ls change old room now makes is same renew = renew ∙ (ap (renewed change) (same ∙ is) ∙ makes.parts)

pub invariant_of-self-2 : goal.invariant_of-self-2
invariant_of-self-2 g c =
    let rows = g.S.Lines.rows c.self.inside.store in
    let new = splice rows c.args.a c.args.b c.args.rows.now.items in
    let left = g.S.Lines.rows c.splice.new.self in
    let config = c.self.inside.config in
    let e : new ≡ left = sym c.in_ok-splice.ensures.ok in
    let P : List RowValue → Type 0 = λ ps. AreLines ps in
    let Q : List RowValue → Type 0 = λ ps. AreLines (splice ps c.args.a c.args.b c.args.rows.now.items) in
    let here : c.args.self.now.rows ≡ rows = sym (ap (λ (s : SessionValue). s.rows) c.self.view_is) in
    let plan = c.in_ok-plan.plan in
    let scan = plan.rescan in
    let judged = plan.rejudged in
    let rs = splice c.self.inside.records.items scan.from scan.old_end scan.records.items in
    let ks = splice c.self.inside.known.kept.items judged.from judged.end judged.kept.items in
    let seen = splice rows c.args.a c.args.b c.as_slice.result.now in
    let put : seen ≡ left = ap (λ (ps : List RowValue). splice rows c.args.a c.args.b ps) c.as_slice.ensures.value ∙ e in
    let records = put_in c.fill_room.new.self.items c.make_room.new.records.items c.self.inside.records.items scan.records.items scan.from scan.old_end c.fill_room.ensures.items c.make_room.ensures.records in
    let kept = put_in c.put_kept.new.known.kept.items c.make_room.new.kept.items c.self.inside.known.kept.items judged.kept.items judged.from judged.end c.put_kept.ensures.items c.make_room.ensures.kept in
    let made = made_of config rows seen c.self.inside.known.kept.items ks plan.renewal.change (parts_in c.self.inside.found) (parts_in c.make_room.new.found) (parts_in c.renew.new.self) c.in_ok-plan.ensures.makes c.self.invariant.5
    c.make_room.ensures.found c.renew.ensures in (
      subst P e (subst Q here c.requires.lines),
      held_same seen left scan.cut rs c.fill_room.new.self.items put records c.in_ok-plan.ensures.held,
      kept_same config ks c.put_kept.new.known.kept.items rs c.fill_room.new.self.items kept records c.in_ok-plan.ensures.kept,
      shown_same made ∙ (shown_is_report config seen scan.cut rs ks c.in_ok-plan.ensures.held c.in_ok-plan.ensures.kept ∙ ap (report config) put),
      c.put_kept.ensures.overviews,
      parts_same config seen left ks c.put_kept.new.known.kept.items (parts_in c.renew.new.self) put kept made,
    )

pub returns-clause-problems : goal.returns-clause-problems
returns-clause-problems g c =
    let rows = g.S.Lines.rows c.self.inside.store in
    let config = c.self.inside.config in
    let seen = splice rows c.args.a c.args.b c.as_slice.result.now in
    let put : seen ≡ g.S.Lines.rows c.splice.new.self = ap (λ (ps : List RowValue). splice rows c.args.a c.args.b ps) c.as_slice.ensures.value ∙ sym c.in_ok-splice.ensures.ok in
    let plan = c.in_ok-plan.plan in
    let scan = plan.rescan in
    let judged = plan.rejudged in
    let ks = splice c.self.inside.known.kept.items judged.from judged.end judged.kept.items in
    let made = made_of config rows seen c.self.inside.known.kept.items ks plan.renewal.change (parts_in c.self.inside.found) (parts_in c.make_room.new.found) (parts_in c.renew.new.self) c.in_ok-plan.ensures.makes c.self.invariant.5
    c.make_room.ensures.found c.renew.ensures in
    shown_same made
    ∙ (shown_is_report config seen scan.cut (splice c.self.inside.records.items scan.from scan.old_end scan.records.items) ks c.in_ok-plan.ensures.held c.in_ok-plan.ensures.kept ∙ ap (report config) put)

pub renew-requires-clause-ready : goal.renew-requires-clause-ready
renew-requires-clause-ready g c =
    subst (λ (ps : PartsValue). IsReady c.in_ok-plan.plan.renewal.change ps) (sym (c.make_room.ensures.found ∙ c.self.invariant.5)) c.in_ok-plan.ensures.makes.ready
