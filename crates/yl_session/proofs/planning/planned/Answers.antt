use Rattle.std.proofs.Common.{◌≡◌, ◌+◌, ◌≤◌, ℕ, inl, inr, List, Option, length, map, take, drop, arith, ap, subst, sym, ◌∙◌}
use Rattle.std.proofs.lemmas.List.{length-map}
use Rattle.std.specs.List.{splice}
use Rattle.std.specs.Str.{chars}
use Rattle.yl_text.specs.Lines.{RowValue}
use Rattle.yl_lexeme.specs.declared.meter.Meter.{Meter}
use Rattle.yl_record.specs.Records.{RecordValue, characters_in}
use Rattle.yl_sections.specs.Judge.{kept_of_section}
use Rattle.yl_sections.specs.Kept.{KeptValue}
use Rattle.yl_sections.specs.Sections.{sections}
use Rattle.yl_sections.specs.Alike.{GoOnAlike}
use Rattle.yl_rejudge.specs.Places.{AreAround}
use Rattle.yl_sections.specs.Holding.{TakesNothing}
use Rattle.yl_rescan.specs.Held.{AreHeld}
use Rattle.yl_rescan.proofs.Edits.{length-spliced}
use Rattle.yl_config.specs.declared.config.Config.{Config}
use Rattle.yl_edited_lines.proofs.FewLines.{few_lines}
use Rattle.yl_found.proofs.SectionsPlain.{kept_plain}
use Rattle.yl_session.proofs.Apart.{others_touch, stay_touch}
use Rattle.yl_session.proofs.Bounds.{are_few, count_records}
use Rattle.yl_session.proofs.Renewed.{has_row, is_work}
use Rattle.yl_session.proofs.planning.planned.Goals as goal

-- what is spliced is what was scanned
spliced_is : (olds news seen spliced : List RecordValue) (i j : ℕ) → seen ≡ news → spliced ≡ splice olds i j seen → spliced ≡ splice olds i j news
spliced_is olds news seen spliced i j s is = is ∙ ap (λ (rs : List RecordValue). splice olds i j rs) s

-- a record is kept of each new line
count_new : (ps : List RowValue) (cut : Option ℕ) (spliced rs : List RecordValue) → spliced ≡ rs → AreHeld (characters_in ps) cut rs → length spliced ≡ length ps
count_new ps cut spliced rs is held = ap (λ (us : List RecordValue). length us) is ∙ count_records ps cut rs held

-- a meter that began with no document
less : {n none some : ℕ} → n ≤ none + some → none ≡ 0 → n ≤ some
less h z = omega (arith, h, z)

pub rescan-requires-clause-meter : goal.rescan-requires-clause-meter
rescan-requires-clause-meter g c = ap (λ (m : Meter). m.lines) c.new-meter.ensures

pub new-spliced-requires-clause-few : goal.new-spliced-requires-clause-few
new-spliced-requires-clause-few g c =
    let rows = g.S.Lines.rows c.args.text.now.store.now in
    omega (
      arith,
      few_lines rows c.requires.text.old,
      count_records rows c.args.cut c.args.records.now.items c.requires.held,
      few_lines (splice rows c.args.text.now.a c.args.text.now.b c.args.text.now.rows.now) c.requires.text.new,
      c.in_ok-rescan.ensures.within,
      c.in_ok-rescan.ensures.len,
      ap (λ (rs : List RecordValue). length rs) c.deref.ensures.value,
    )

pub rejudge-requires-clause-before : goal.rejudge-requires-clause-before
rejudge-requires-clause-before g c =
    let r = c.in_ok-rescan.rescan in
    let is = spliced_is c.args.records.now.items r.records.items c.deref.result.now c.new-spliced.result r.from r.old_end c.deref.ensures.value c.new-spliced.ensures in
    c.in_ok-rescan.ensures.before ∙ ap (λ (rs : List RecordValue). take r.from rs) (sym is)

pub rejudge-requires-clause-behind : goal.rejudge-requires-clause-behind
rejudge-requires-clause-behind g c =
    let r = c.in_ok-rescan.rescan in
    let is = spliced_is c.args.records.now.items r.records.items c.deref.result.now c.new-spliced.result r.from r.old_end c.deref.ensures.value c.new-spliced.ensures in
    c.in_ok-rescan.ensures.behind ∙ ap (λ (rs : List RecordValue). drop r.end rs) (sym is)

pub rejudge-requires-clause-alike : goal.rejudge-requires-clause-alike
rejudge-requires-clause-alike g c =
    let r = c.in_ok-rescan.rescan in
    let is = spliced_is c.args.records.now.items r.records.items c.deref.result.now c.new-spliced.result r.from r.old_end c.deref.ensures.value c.new-spliced.ensures in
    subst (λ (rs : List RecordValue). GoOnAlike c.args.records.now.items rs r.old_end r.end) (sym is) c.in_ok-rescan.ensures.alike

pub rejudge-requires-clause-range : goal.rejudge-requires-clause-range
rejudge-requires-clause-range g c =
    let new = splice (g.S.Lines.rows c.args.text.now.store.now) c.args.text.now.a c.args.text.now.b c.args.text.now.rows.now in
    let r = c.in_ok-rescan.rescan in
    let olds = c.args.records.now.items in
    let is = spliced_is olds r.records.items c.deref.result.now c.new-spliced.result r.from r.old_end c.deref.ensures.value c.new-spliced.ensures in
    record {
      ordered = omega (arith, c.in_ok-rescan.ensures.len);
      within = omega (arith, c.in_ok-rescan.ensures.within, count_new new r.cut c.new-spliced.result (splice olds r.from r.old_end r.records.items) is c.in_ok-rescan.ensures.held);
    }

pub rejudge-requires-clause-few : goal.rejudge-requires-clause-few
rejudge-requires-clause-few g c =
    let rows = g.S.Lines.rows c.args.text.now.store.now in
    let new = splice rows c.args.text.now.a c.args.text.now.b c.args.text.now.rows.now in
    let r = c.in_ok-rescan.rescan in
    let olds = c.args.records.now.items in
    let is = spliced_is olds r.records.items c.deref.result.now c.new-spliced.result r.from r.old_end c.deref.ensures.value c.new-spliced.ensures in
    (omega (arith, few_lines rows c.requires.text.old, count_records rows c.args.cut olds c.requires.held), omega (arith, few_lines new c.requires.text.new, count_new new r.cut c.new-spliced.result (splice olds r.from r.old_end r.records.items) is c.in_ok-rescan.ensures.held))

pub rejudge-requires-clause-meter : goal.rejudge-requires-clause-meter
rejudge-requires-clause-meter g c =
    let rows = g.S.Lines.rows c.args.text.now.store.now in
    let new = splice rows c.args.text.now.a c.args.text.now.b c.args.text.now.rows.now in
    let r = c.in_ok-rescan.rescan in
    let olds = c.args.records.now.items in
    let is = spliced_is olds r.records.items c.deref.result.now c.new-spliced.result r.from r.old_end c.deref.ensures.value c.new-spliced.ensures in
    omega (
      arith,
      few_lines new c.requires.text.new,
      count_new new r.cut c.new-spliced.result (splice olds r.from r.old_end r.records.items) is c.in_ok-rescan.ensures.held,
      c.in_ok-rescan.ensures.documents,
      ap (λ (m : Meter). m.documents) c.new-meter.ensures,
    )

-- what is kept then
kept_is : (config : Config) (ks : List KeptValue) (spliced rs : List RecordValue) → ks ≡ map (kept_of_section config) (sections spliced) → spliced ≡ rs → ks ≡ map (kept_of_section config) (sections rs)
kept_is config ks spliced rs kept is = kept ∙ ap (λ (us : List RecordValue). map (kept_of_section config) (sections us)) is

pub nearest-near-requires-clause-few : goal.nearest-near-requires-clause-few
nearest-near-requires-clause-few g c = are_few c.args.config.now (g.S.Lines.rows c.args.text.now.store.now) c.args.cut c.args.records.now.items c.args.known.now.kept.items c.requires.text.old c.requires.held c.requires.kept

pub renewal_of-requires-clause-few : goal.renewal_of-requires-clause-few
renewal_of-requires-clause-few g c = are_few c.args.config.now (g.S.Lines.rows c.args.text.now.store.now) c.args.cut c.args.records.now.items c.args.known.now.kept.items c.requires.text.old c.requires.held c.requires.kept

pub renewal_of-requires-clause-few_then : goal.renewal_of-requires-clause-few_then
renewal_of-requires-clause-few_then g c =
    let new = splice (g.S.Lines.rows c.args.text.now.store.now) c.args.text.now.a c.args.text.now.b c.args.text.now.rows.now in
    let r = c.in_ok-rescan.rescan in
    let j = c.in_ok-rejudged.rejudged in
    let olds = c.args.records.now.items in
    let us = splice olds r.from r.old_end r.records.items in
    let is = spliced_is olds r.records.items c.deref.result.now c.new-spliced.result r.from r.old_end c.deref.ensures.value c.new-spliced.ensures in
    are_few c.args.config.now new r.cut us (splice c.args.known.now.kept.items j.from j.end j.kept.items) c.requires.text.new c.in_ok-rescan.ensures.held (kept_is c.args.config.now (splice c.args.known.now.kept.items j.from j.end j.kept.items) c.new-spliced.result us c.in_ok-rejudged.ensures.kept is)

pub renewal_of-requires-clause-touching : goal.renewal_of-requires-clause-touching
renewal_of-requires-clause-touching g c =
    let config = c.args.config.now in
    let text = c.args.text.now in
    let rows = g.S.Lines.rows text.store.now in
    let ins = text.rows.now in
    let r = c.in_ok-rescan.rescan in
    let j = c.in_ok-rejudged.rejudged in
    let ks = c.args.known.now.kept.items in
    let olds = c.args.records.now.items in
    let us = splice olds r.from r.old_end r.records.items in
    let found = c.in_ok-rescan.ensures in
    let judged = c.in_ok-rejudged.ensures in
    let is = spliced_is olds r.records.items c.deref.result.now c.new-spliced.result r.from r.old_end c.deref.ensures.value c.new-spliced.ensures in
    let kept = kept_is config (splice ks j.from j.end j.kept.items) c.new-spliced.result us judged.kept is in
    elim judged.around [
      | inl around ↦
          others_touch config rows ins text.a text.b c.requires.text c.args.cut r.cut olds us c.requires.held found.held ks c.requires.kept j.from j.end j.kept.items judged.range kept r.from r.old_end r.end found.holds
          (subst (λ (xs : List RecordValue). AreAround ks xs r.from r.old_end r.end j.from j.end) is around) found.alike
          (omega (arith, length-spliced olds r.records.items r.from r.old_end found.range.ordered found.range.within, found.len, found.range.within))
      | inr all ↦
          stay_touch config rows ins text.a text.b c.requires.text c.args.cut r.cut olds us c.requires.held found.held ks c.requires.kept j.from j.end j.kept.items judged.range kept r.from r.old_end r.end found.holds all
    ]

pub renewal_of-requires-clause-plain : goal.renewal_of-requires-clause-plain
renewal_of-requires-clause-plain g c = kept_plain c.args.config.now (sections c.args.records.now.items) c.args.known.now.kept.items c.requires.kept

pub renewal_of-requires-clause-plain_then : goal.renewal_of-requires-clause-plain_then
renewal_of-requires-clause-plain_then g c =
    let j = c.in_ok-rejudged.rejudged in
    kept_plain c.args.config.now (sections c.new-spliced.result) (splice c.args.known.now.kept.items j.from j.end j.kept.items) c.in_ok-rejudged.ensures.kept

pub returns-clause-kept : goal.returns-clause-kept
returns-clause-kept g c =
    let r = c.in_ok-rescan.rescan in
    let j = c.in_ok-rejudged.rejudged in
    let olds = c.args.records.now.items in
    let is = spliced_is olds r.records.items c.deref.result.now c.new-spliced.result r.from r.old_end c.deref.ensures.value c.new-spliced.ensures in
    kept_is c.args.config.now (splice c.args.known.now.kept.items j.from j.end j.kept.items) c.new-spliced.result (splice olds r.from r.old_end r.records.items) c.in_ok-rejudged.ensures.kept is

pub returns-clause-work : goal.returns-clause-work
returns-clause-work g c =
    let rows = g.S.Lines.rows c.args.text.now.store.now in
    let new = splice rows c.args.text.now.a c.args.text.now.b c.args.text.now.rows.now in
    let r = c.in_ok-rescan.rescan in
    let olds = c.args.records.now.items in
    let is = spliced_is olds r.records.items c.deref.result.now c.new-spliced.result r.from r.old_end c.deref.ensures.value c.new-spliced.ensures in
    let taken = subst (λ (us : List RecordValue). TakesNothing olds us r.from) (sym is) c.in_ok-rescan.ensures.taken in
    is_work (characters_in rows) (characters_in new) r.cut c.new-spliced.result c.args.text.now.a c.args.text.now.b (length c.args.text.now.rows.now) r.from r.end c.rescan.new.meter.lines c.rejudge.new.meter.lines c.rejudge.new.meter.documents
    (omega (arith, has_row new c.requires.text.new, length-map new (λ (row : RowValue). chars row.text))) (subst (λ (us : List RecordValue). AreHeld (characters_in new) r.cut us) (sym is) c.in_ok-rescan.ensures.held)
    c.in_ok-rescan.ensures.below c.in_ok-rescan.ensures.work c.in_ok-rejudged.ensures.lines
    (λ m l. less (c.in_ok-rejudged.ensures.documents taken m l) (omega (arith, c.in_ok-rescan.ensures.documents, ap (λ (m : Meter). m.documents) c.new-meter.ensures)))
