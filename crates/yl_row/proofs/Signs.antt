-- A lexeme of one character is what the definition finds there, and where none stands, it finds a word.
use Rattle.std.proofs.Common.{◌≡◌, ℕ, Bool, true, false, ◌&&◌, cond, List, [], ◌∷◌, take, Option, Some, None, refl, ap, sym, ◌∙◌, eqb, eqb-true}
use Rattle.std.specs.Prelude.{unwrap_or}
use Rattle.yl_text.specs.Character.{is_white, is_blank, is_marker_of}
use Rattle.yl_lexeme.specs.declared.lexeme.Kind.{Kind}
use Rattle.yl_lexeme.specs.declared.lexeme.Kind.TheVariants.{Entry, Key, Value, Comma, SeqOpen, SeqClose, MapOpen, MapClose}
use Rattle.yl_lexeme.specs.Past.{Context, in_flow}
use Rattle.yl_row.specs.Step.{FoundLexemeValue, is_value_at, document_at, block_at, word_at, found_at}
use Rattle.yl_row.specs.Sign.{sign_at, sign_found}

-- of a kind, or else a word
abbrev sign_or : Option ℕ → Bool → ℕ → Context → FoundLexemeValue → Option Kind → FoundLexemeValue
sign_or tab first at a word None = word
sign_or tab first at a word (Some kind) = sign_found tab first at a kind

module _ (rows : List (List ℕ)) (tab : Option ℕ) (first : Bool) (at : ℕ) (a : Context) (c : ℕ) (cs : List ℕ) where
  pub block_signs : block_at rows tab first at a c cs ≡ sign_or tab first at a (word_at rows at a c cs) (sign_at a c cs)
  block_signs =
      by_case (eqb c 45 && is_blank (take 1 cs)) (eqb c 63 && is_blank (take 1 cs)) (eqb c 58 && is_value_at (in_flow a) a.last cs)
      (eqb c 91) (eqb c 123) (eqb c 93) (eqb c 125) (eqb c 44) (word_at rows at a c cs)
    where
      by_case : (entry key value seq map seq_close map_close comma : Bool) (word : FoundLexemeValue)
          → cond entry (sign_found tab first at a Entry) (cond key (sign_found tab first at a Key) (cond value (sign_found tab first at a Value)
          (cond seq (sign_found tab first at a SeqOpen) (cond map (sign_found tab first at a MapOpen) (cond seq_close (sign_found tab first at a SeqClose)
          (cond map_close (sign_found tab first at a MapClose) (cond comma (sign_found tab first at a Comma) word)))))))
          ≡ sign_or tab first at a word (cond entry (Some Entry) (cond key (Some Key) (cond value (Some Value)
          (cond seq (Some SeqOpen) (cond map (Some MapOpen) (cond seq_close (Some SeqClose) (cond map_close (Some MapClose) (cond comma (Some Comma) None))))))))
      by_case true key value seq map seq_close map_close comma word = refl
      by_case false true value seq map seq_close map_close comma word = refl
      by_case false false true seq map seq_close map_close comma word = refl
      by_case false false false true map seq_close map_close comma word = refl
      by_case false false false false true seq_close map_close comma word = refl
      by_case false false false false false true map_close comma word = refl
      by_case false false false false false false true comma word = refl
      by_case false false false false false false false true word = refl
      by_case false false false false false false false false word = refl

-- ---- no document marker and no directive begins with such a character

both : (a b : Bool) → (a && b) ≡ true → (a ≡ true) × (b ≡ true)
both true true h = (refl, refl)
both true false h = cc
both false b h = cc

no_marker : (m n : ℕ) (cs : List ℕ) → eqb n m ≡ false → is_marker_of m (n ∷ cs) ≡ false
no_marker m n [] h = refl
no_marker m n (y ∷ []) h = refl
no_marker m n (y ∷ z ∷ rest) h = rw h refl

white_no_dash : (y : ℕ) → is_white y ≡ true → eqb y 45 ≡ false
white_no_dash y h = by_case (eqb y 45) refl
  where
    by_case : (b : Bool) → eqb y 45 ≡ b → eqb y 45 ≡ false
    by_case false e = e
    by_case true e = let is : y ≡ 45 = eqb-true y 45 e in let dark : is_white 45 ≡ true = ap is_white (sym is) ∙ h in cc

no_dashes : (n : ℕ) (cs : List ℕ) → is_blank (take 1 cs) ≡ true → is_marker_of 45 (n ∷ cs) ≡ false
no_dashes n [] h = refl
no_dashes n (y ∷ []) h = refl
no_dashes n (y ∷ z ∷ rest) h = rw (white_no_dash y (both (is_white y) true h).0) (by_case (eqb n 45) (eqb z 45) (is_blank (take 1 rest)))
  where
    by_case : (b d e : Bool) → (b && false && d && e) ≡ false
    by_case true d e = refl
    by_case false d e = refl

no_document : (c : ℕ) (cs : List ℕ) (a : Context) → is_marker_of 45 (c ∷ cs) ≡ false → eqb c 46 ≡ false → eqb c 37 ≡ false → document_at c cs a ≡ None
no_document c cs a dashes dots percent = rw (dashes, no_marker 46 c cs dots, percent) refl

module _ (c : ℕ) (cs : List ℕ) (a : Context) where
  other_character : (n : ℕ) → eqb n 45 ≡ false → eqb n 46 ≡ false → eqb n 37 ≡ false → eqb c n ≡ true → document_at c cs a ≡ None
  other_character n dash dot percent h = let is : c ≡ n = eqb-true c n h in
      ap (λ c. document_at c cs a) is ∙ no_document n cs a (no_marker 45 n cs dash) dot percent

  dash_alone : (eqb c 45 && is_blank (take 1 cs)) ≡ true → document_at c cs a ≡ None
  dash_alone h = let parts : (eqb c 45 ≡ true) × (is_blank (take 1 cs) ≡ true) = both (eqb c 45) (is_blank (take 1 cs)) h in
      let is : c ≡ 45 = eqb-true c 45 parts.0 in
      ap (λ c. document_at c cs a) is ∙ no_document 45 cs a (no_dashes 45 cs parts.1) refl refl

  pub sign_alone : (kind : Kind) → sign_at a c cs ≡ Some kind → document_at c cs a ≡ None
  sign_alone kind h =
      by_case (eqb c 45 && is_blank (take 1 cs)) (eqb c 63 && is_blank (take 1 cs)) (eqb c 58 && is_value_at (in_flow a) a.last cs) (eqb c 91) (eqb c 123) (eqb c 93) (eqb c 125) (eqb c 44)
      dash_alone (λ e. other_character 63 refl refl refl (both (eqb c 63) (is_blank (take 1 cs)) e).0) (λ e. other_character 58 refl refl refl (both (eqb c 58) (is_value_at (in_flow a) a.last cs) e).0)
      (other_character 91 refl refl refl) (other_character 123 refl refl refl) (other_character 93 refl refl refl) (other_character 125 refl refl refl) (other_character 44 refl refl refl) h
    where
      by_case : (entry key value seq map seq_close map_close comma : Bool)
          → (entry ≡ true → document_at c cs a ≡ None) → (key ≡ true → document_at c cs a ≡ None) → (value ≡ true → document_at c cs a ≡ None)
          → (seq ≡ true → document_at c cs a ≡ None) → (map ≡ true → document_at c cs a ≡ None) → (seq_close ≡ true → document_at c cs a ≡ None)
          → (map_close ≡ true → document_at c cs a ≡ None) → (comma ≡ true → document_at c cs a ≡ None)
          → (cond entry (Some Entry) (cond key (Some Key) (cond value (Some Value)
          (cond seq (Some SeqOpen) (cond map (Some MapOpen) (cond seq_close (Some SeqClose) (cond map_close (Some MapClose) (cond comma (Some Comma) None)))))))) ≡ Some kind
          → document_at c cs a ≡ None
      by_case true key value seq map seq_close map_close comma h1 h2 h3 h4 h5 h6 h7 h8 e = h1 refl
      by_case false true value seq map seq_close map_close comma h1 h2 h3 h4 h5 h6 h7 h8 e = h2 refl
      by_case false false true seq map seq_close map_close comma h1 h2 h3 h4 h5 h6 h7 h8 e = h3 refl
      by_case false false false true map seq_close map_close comma h1 h2 h3 h4 h5 h6 h7 h8 e = h4 refl
      by_case false false false false true seq_close map_close comma h1 h2 h3 h4 h5 h6 h7 h8 e = h5 refl
      by_case false false false false false true map_close comma h1 h2 h3 h4 h5 h6 h7 h8 e = h6 refl
      by_case false false false false false false true comma h1 h2 h3 h4 h5 h6 h7 h8 e = h7 refl
      by_case false false false false false false false true h1 h2 h3 h4 h5 h6 h7 h8 e = h8 refl
      by_case false false false false false false false false h1 h2 h3 h4 h5 h6 h7 h8 e = cc

module _ (rows : List (List ℕ)) (tab : Option ℕ) (first : Bool) (at : ℕ) (a : Context) (c : ℕ) (cs : List ℕ) where
  pub found_sign : (kind : Kind) → sign_at a c cs ≡ Some kind → found_at rows tab first at a c cs ≡ sign_found tab first at a kind
  unfolding found_at
  found_sign kind h =
      by_case (eqb at 0) (document_at c cs a) (sign_alone c cs a kind h)
      ∙ block_signs rows tab first at a c cs ∙ ap (sign_or tab first at a (word_at rows at a c cs)) h
    where
      by_case : (b : Bool) (d : Option FoundLexemeValue) → d ≡ None → unwrap_or (cond b d None) (block_at rows tab first at a c cs) ≡ block_at rows tab first at a c cs
      by_case true d e = rw e refl
      by_case false d e = refl

  pub found_word : sign_at a c cs ≡ None → cond (eqb at 0) (document_at c cs a) None ≡ None → found_at rows tab first at a c cs ≡ word_at rows at a c cs
  unfolding found_at
  found_word h none =
      ap (λ d. unwrap_or d (block_at rows tab first at a c cs)) none
      ∙ block_signs rows tab first at a c cs ∙ ap (sign_or tab first at a (word_at rows at a c cs)) h

-- no document marker and no directive stands at a later place of a row
pub later_place : (at : ℕ) (d : Option FoundLexemeValue) → eqb at 0 ≡ false → cond (eqb at 0) d None ≡ None
later_place at d h = rw h refl

pub nothing_there : (b : Bool) (d : Option FoundLexemeValue) → d ≡ None → cond b d None ≡ None
nothing_there true d h = h
nothing_there false d h = refl
