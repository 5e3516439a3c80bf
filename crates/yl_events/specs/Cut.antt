-- Meaning: where documents begin, by two successive lexemes each: YAML 1.2.2, 9.1 and 9.2. A law
-- says that the cuts are those of Documents.
use Rattle.std.specs.Prelude.{◌≡◌, ℕ, suc, Bool, true, not, ◌&&◌, ◌||◌, List, [], ◌∷◌, if◌then◌else◌, None}
use Rattle.yl_lexeme.specs.declared.lexeme.Kind.{Kind}
use Rattle.yl_lexeme.specs.Directives.{directives_in_place}
use Rattle.yl_events.specs.Documents.{is_directive, is_document_start, is_document_end, beginnings}

-- a document begins with a lexeme of this kind after one of the kind `last`
abbrev pub is_beginning : Kind → Kind → Bool
is_beginning last k = is_document_end last || (is_document_start k && not (is_directive last))

-- the indices at which documents begin after a lexeme of the kind `last`, whose index is `place`
abbrev pub beginnings_behind : ℕ → Kind → List Kind → List ℕ
beginnings_behind place last [] = []
beginnings_behind place last (k ∷ ks) =
    if is_beginning last k then suc place ∷ beginnings_behind (suc place) k ks else beginnings_behind (suc place) k ks

-- the index of the lexeme with which each document begins
abbrev pub beginnings_by_two : List Kind → List ℕ
beginnings_by_two [] = []
beginnings_by_two (k ∷ ks) = 0 ∷ beginnings_behind 0 k ks

-- if directives are only where they are allowed, these are the beginnings of the documents
abbrev pub CutsByTwo : Type 0
CutsByTwo = (ks : List Kind) → directives_in_place None ks ≡ true → beginnings_by_two ks ≡ beginnings ks
