use Rattle.std.proofs.Common.{◌≡◌, ◌↔◌, ℕ, Bool, true, false, IsTrue, List, length, Option, Some, None, refl, ap, sym, ◌∙◌, arith, inl, inr}
use Rattle.std.specs.Prelude.{is_some, not, slice_get}
use Rattle.std.proofs.lemmas.Option.{slice_get_within}
use Rattle.yl_pieces.specs.State.{DocumentState}
use Rattle.yl_section_pieces.specs.Pieces.{PieceValue}
use Rattle.yl_section_pieces.specs.Sections.{IsSectionBorder}
use Rattle.yl_piece_list.specs.PieceLists.{states}
use Rattle.yl_piece_list.proofs.TwoLists.{count_states, of_count, of_states, state_at}
use Rattle.yl_piece_list.proofs.list.PieceList.is_border.Goals as goal

-- the test of the state says whether a section begins there
tested : (ps : List PieceValue) (i : ℕ) (b : Option DocumentState) (r : Bool) → slice_get (states ps) i ≡ Some b → is_some b ≡ not r → IsTrue r ↔ IsSectionBorder ps i
tested ps i None true e h = ((λ _. inr (state_at ps i None e)), (λ _. refl))
tested ps i None false e h = absurd (let no : false ≡ true = h in cc)
tested ps i (Some s) true e h = absurd (let no : true ≡ false = h in cc)
tested ps i (Some s) false e h = (
  (λ t. absurd (let no : false ≡ true = t in cc)),
  (λ d. elim d [
    | inl n ↦ absurd (let l = slice_get_within (states ps) i (Some s) e in omega (arith, l, n, of_all ps))
    | inr n ↦ absurd (let at = state_at ps i (Some s) e in cc)
  ]),
)
  where
    of_all : (qs : List PieceValue) → length (states qs) ≡ length qs
    of_all qs = count_states qs

pub returns-then-i-len : goal.returns-then-i-len
returns-then-i-len g c =
    let n = ap (λ (ps : List PieceValue). length ps) c.self.view_is in
    let count = of_count c.self.inside.kept.now.items c.self.inside.before.now.items c.self.invariant in
    ((λ _. inl (omega (arith, n, count, c.self.invariant, c.len.ensures, c.if-i-len.true))), (λ _. refl))

pub get-requires : goal.get-requires
get-requires g c =
    let n = ap (λ (ps : List PieceValue). length ps) c.self.view_is in
    omega (arith, n, c.requires, of_count c.self.inside.kept.now.items c.self.inside.before.now.items c.self.invariant, c.self.invariant, c.len.ensures, c.if-i-len.false)

pub returns : goal.returns
returns g c =
    let e = ap (λ (ps : List PieceValue). states ps) (sym c.self.view_is) ∙ of_states c.self.inside.kept.now.items c.self.inside.before.now.items c.self.invariant in
    tested c.args.self.now c.args.i c.get.result.now c.is_none.result (ap (λ (bs : List (Option DocumentState)). slice_get bs c.args.i) e ∙ c.get.ensures) c.is_none.ensures
