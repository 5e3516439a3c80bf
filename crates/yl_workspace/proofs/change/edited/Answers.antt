use Rattle.std.proofs.Common.{◌≡◌, ℕ, Bool, List, subst, ◌∙◌, ap}
use Rattle.yl_text.specs.Lines.{RowValue, text_of}
use Rattle.yl_text.specs.Edit.{IsInText}
use Rattle.yl_units.specs.Places.{place_of}
use Rattle.yl_workspace.specs.Changes.{Followed, Lost, changed_text, followed_if}
use Rattle.yl_workspace.proofs.Texts.{ArePlaces, made, refused}
use Rattle.yl_workspace.proofs.change.edited.Goals as goal

pub returns-in-Ok-clause-text : goal.returns-in-Ok-clause-text
returns-in-Ok-clause-text g c =
    let ps : List RowValue = c.args.session.rows in
    let e = c.args.encoding in
    let range = c.args.range in
    let from = c.place_of-from.result in
    let to = c.place_of-to.result in
    let places : ArePlaces e ps range from to = record {
      lines = c.lines.ensures.lines.lines;
      from_is = c.place_of-from.ensures.place ∙ ap (λ (qs : List RowValue). place_of e qs range.start) c.lines.ensures.rows;
      to_is = c.place_of-to.ensures.place ∙ ap (λ (qs : List RowValue). place_of e qs range.end) c.lines-2.ensures.rows;
      from_inside = subst (λ (qs : List RowValue). IsInText qs from) c.lines.ensures.rows c.place_of-from.ensures.inside;
      to_inside = subst (λ (qs : List RowValue). IsInText qs to) c.lines-2.ensures.rows c.place_of-to.ensures.inside;
    } in
    subst (λ (t : List ℕ). (granted : Bool) × (Followed (text_of c.edit.new.self.rows) ≡ followed_if granted (changed_text e (text_of ps) range t))) c.as_bytes.ensures.value
    (made e ps range c.as_bytes.result.now from to c.args.session.config c.edit.new.self places c.in-Ok.ensures.answer.0 c.in-Ok.ensures.done)

pub returns-in-Err-clause-text : goal.returns-in-Err-clause-text
returns-in-Err-clause-text g c =
    let ps : List RowValue = c.args.session.rows in
    let e = c.args.encoding in
    let range = c.args.range in
    let from = c.place_of-from.result in
    let to = c.place_of-to.result in
    let places : ArePlaces e ps range from to = record {
      lines = c.lines.ensures.lines.lines;
      from_is = c.place_of-from.ensures.place ∙ ap (λ (qs : List RowValue). place_of e qs range.start) c.lines.ensures.rows;
      to_is = c.place_of-to.ensures.place ∙ ap (λ (qs : List RowValue). place_of e qs range.end) c.lines-2.ensures.rows;
      from_inside = subst (λ (qs : List RowValue). IsInText qs from) c.lines.ensures.rows c.place_of-from.ensures.inside;
      to_inside = subst (λ (qs : List RowValue). IsInText qs to) c.lines-2.ensures.rows c.place_of-to.ensures.inside;
    } in
    let answer = refused e ps range c.as_bytes.result.now from to c.in-Err.fault places c.as_bytes.ensures.utf8 c.in-Err.ensures.answer in
    subst (λ (t : List ℕ). (granted : Bool) × (Lost c.cause_of.result ≡ followed_if granted (changed_text e (text_of ps) range t))) c.as_bytes.ensures.value
    (answer.0, ap Lost c.cause_of.ensures ∙ answer.1)
