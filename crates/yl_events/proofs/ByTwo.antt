-- Where directives stand in their places, each two lexemes say whether a document begins between them.
use Rattle.std.proofs.Common.{◌≡◌, ℕ, suc, Bool, true, false, cond, not, ◌&&◌, ◌||◌, List, [], ◌∷◌, Some, refl, ap, sym, ◌∙◌}
use Rattle.std.proofs.lemmas.Bool.{and_parts}
use Rattle.yl_lexeme.specs.declared.lexeme.Kind.{Kind}
use Rattle.yl_lexeme.specs.declared.lexeme.Kind.TheVariants.{Directive, DocStart, DocEnd}
use Rattle.yl_lexeme.specs.Directives.{is_directive, is_directive_place, directives_in_place}
use Rattle.yl_events.specs.Documents.{is_document_end, starts_marked, is_cut, cuts_behind}
use Rattle.yl_events.specs.Cut.{is_beginning, beginnings_behind, CutsByTwo}

-- behind a directive's place that is no document's end there is no cut before a directive
after_directive : (last : Kind) (rest : Bool) → is_directive_place (Some last) ≡ true → (is_document_end last || (not (is_directive last) && rest)) ≡ is_document_end last
after_directive DocEnd rest h = refl
after_directive Directive rest h = refl
after_directive _ rest h = cc

no_more : (a : Bool) → (a || false) ≡ a
no_more true = refl
no_more false = refl

other_order : (e a b : Bool) → (e || (a && b)) ≡ (e || (b && a))
other_order true a b = refl
other_order false true true = refl
other_order false true false = refl
other_order false false true = refl
other_order false false false = refl

-- the kind that comes next is a directive, or none
same_cut : (last k : Kind) (ks : List Kind) → (not (is_directive k) || is_directive_place (Some last)) ≡ true → is_beginning last k ≡ is_cut last (k ∷ ks)
same_cut last Directive ks h = no_more (is_document_end last) ∙ sym (after_directive last (starts_marked ks) h)
same_cut last DocStart ks h = other_order (is_document_end last) true (not (is_directive last))
same_cut last _ ks h = other_order (is_document_end last) false (not (is_directive last))

same_if : (b c : Bool) (xs ys : List ℕ) (n : ℕ) → b ≡ c → xs ≡ ys → cond b (n ∷ xs) xs ≡ cond c (n ∷ ys) ys
same_if b c xs ys n e h = ap (λ d. cond d (n ∷ xs) xs) e ∙ ap (λ ls. cond c (n ∷ ls) ls) h

same_behind : (place : ℕ) (last : Kind) (ks : List Kind) → directives_in_place (Some last) ks ≡ true → beginnings_behind place last ks ≡ cuts_behind place last ks
same_behind place last [] h = refl
same_behind place last (k ∷ ks) h =
    let parts = and_parts (not (is_directive k) || is_directive_place (Some last)) (directives_in_place (Some k) ks) h in
    same_if (is_beginning last k) (is_cut last (k ∷ ks)) _ _ (suc place) (same_cut last k ks parts.0) (same_behind (suc place) k ks parts.1)

pub cuts_by_two : CutsByTwo
cuts_by_two [] h = refl
cuts_by_two (k ∷ ks) h = ap (λ ls. 0 ∷ ls) (same_behind 0 k ks (and_parts (not (is_directive k) || true) (directives_in_place (Some k) ks) h).1)
