-- Meaning: where documents begin: YAML 1.2.2, 9.1 and 9.2. A document begins with the first lexeme
-- of the text, with a marker `---` or the first of the directives directly before it, and after a
-- marker `...`.
use Rattle.std.specs.Prelude.{ℕ, suc, Bool, true, false, not, ◌&&◌, ◌||◌, List, [], ◌∷◌, if◌then◌else◌}
use Rattle.yl_lexeme.specs.declared.lexeme.Kind.{Kind}
pub use Rattle.yl_lexeme.specs.Directives.{is_directive}

abbrev pub is_document_start : Kind → Bool
is_document_start Kind.DocStart = true
is_document_start _ = false

abbrev pub is_document_end : Kind → Bool
is_document_end Kind.DocEnd = true
is_document_end _ = false

-- a marker `---` comes next, or directives and then one
abbrev pub starts_marked : List Kind → Bool
starts_marked [] = false
starts_marked (k ∷ ks) = is_document_start k || (is_directive k && starts_marked ks)

-- a document ends with a lexeme of the kind k, if lexemes of the kinds ks come next
abbrev pub is_cut : Kind → List Kind → Bool
is_cut k ks = is_document_end k || (not (is_directive k) && starts_marked ks)

-- the indices at which documents begin after a lexeme of the kind k, whose index is `place`
abbrev pub cuts_behind : ℕ → Kind → List Kind → List ℕ
cuts_behind place k [] = []
cuts_behind place k (l ∷ ks) = if is_cut k (l ∷ ks) then suc place ∷ cuts_behind (suc place) l ks else cuts_behind (suc place) l ks

-- the index of the lexeme with which each document begins
abbrev pub beginnings : List Kind → List ℕ
beginnings [] = []
beginnings (k ∷ ks) = 0 ∷ cuts_behind 0 k ks
