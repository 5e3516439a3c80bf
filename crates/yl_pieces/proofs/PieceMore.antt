-- A judge reads a row more.
use Rattle.std.proofs.Common.{◌≡◌, ◌+◌, ℕ, true, false, List, [], ◌∷◌, ◌++◌, Option, Some, None, inl, inr, length, sym, ◌∙◌, ap, append_assoc, append-nil, arith}
use Rattle.std.specs.Prelude.{is_some, option_map}
use Rattle.yl_text.specs.Finding.{FindingValue}
use Rattle.yl_indentation.specs.declared.fact.Fact.{Fact}
use Rattle.std.proofs.lemmas.List.{length-append}
use Rattle.yl_lexeme.specs.Lexeme.{PlacedCommentValue}
use Rattle.yl_events.specs.declared.fault.PlacedParseFault.{PlacedParseFault}
use Rattle.yl_config.specs.declared.config.Config.{Config}
use Rattle.yl_record.specs.Records.{RecordValue}
use Rattle.yl_sections.specs.declared.comments.LexemeEnd.{LexemeEnd}
use Rattle.yl_sections.specs.Judging.{end_after}
use Rattle.yl_sections.specs.Kept.{comment_at, comments_from, last_lexeme_end}
use Rattle.yl_sections.proofs.RowJudging.{comments_of_both, end_of_both}
use Rattle.yl_pieces.specs.declared.comments.PieceComments.{PieceComments}
use Rattle.yl_pieces.specs.declared.piece.PieceJudge.{PieceJudge}
use Rattle.yl_pieces.specs.declared.piece.PieceFault.{PieceFault}
use Rattle.yl_sections.specs.declared.row_judge.RowJudge.{RowJudge}
use Rattle.yl_pieces.specs.Fault.{fault_value}
use Rattle.yl_pieces.specs.State.{DocumentState}
use Rattle.yl_pieces.specs.Told.{Told, ToldFault, fault_in, state_after, told}
use Rattle.yl_pieces.specs.Piece.{HasComments, HasStopped, IsGoing, JudgesRows, StopsAt, unless_fault}
use Rattle.yl_pieces.proofs.PieceEnds.{comments_all, fault_none, none_there}
use Rattle.yl_pieces.proofs.PieceStops.{told_so}

pub line_more : (rs : List RecordValue) (r : RecordValue) (line next : ℕ) → line ≡ 1 + length rs → next ≡ line + 1 → next ≡ 1 + length (rs ++ r ∷ [])
line_more rs r line next at e = omega (arith, at, e, length-append rs (r ∷ []))

pub comments_more : {A : Type 0} (rs : List RecordValue) (r : RecordValue) (c d : PieceComments A) (line : ℕ) → line ≡ 1 + length rs → HasComments rs c → d.last ≡ last_lexeme_end c.last line r.entry.lexemes
    → d.all.items ≡ c.all.items ++ comment_at line (last_lexeme_end c.last line r.entry.lexemes) r.entry.comment → HasComments (rs ++ r ∷ []) d
comments_more rs r c d line at h last all =
    let n = 1 + length rs in
    let ends : last_lexeme_end c.last line r.entry.lexemes ≡ last_lexeme_end (end_after None 1 rs) n r.entry.lexemes =
    ap (λ (l : Option LexemeEnd). last_lexeme_end l line r.entry.lexemes) h.last ∙ ap (λ j. last_lexeme_end (end_after None 1 rs) j r.entry.lexemes) at in
    record {
      last = last ∙ (ends ∙ sym (end_of_both None 1 rs r));
      all = all
          ∙ (ap (λ (cs : List PlacedCommentValue). cs ++ comment_at line (last_lexeme_end c.last line r.entry.lexemes) r.entry.comment) h.all
          ∙ (ap (λ (l : Option LexemeEnd). comments_from None 1 rs ++ comment_at line l r.entry.comment) ends
          ∙ (ap (λ j. comments_from None 1 rs ++ comment_at j (last_lexeme_end (end_after None 1 rs) n r.entry.lexemes) r.entry.comment) at ∙ sym (comments_of_both None 1 rs r))));
    }

module _ {A : Type 0} (config : Config) (s : DocumentState) (rs : List RecordValue) (r : RecordValue) where
  -- after a fault nothing is read
  pub stopped_more : (j : PieceJudge A) → HasStopped config s rs j → HasStopped config s (rs ++ r ∷ []) j
  stopped_more j h = record {
    place = h.place;
    stopped = h.stopped;
    fault = h.fault;
    there = λ more. ap (λ (es : List RecordValue). fault_in s 1 es) (append_assoc rs (r ∷ []) more) ∙ h.there (r ∷ more);
    told = λ more. ap (λ (es : List RecordValue). told config s 1 es) (append_assoc rs (r ∷ []) more) ∙ h.told (r ∷ more);
  }

  abbrev told_with : RowJudge A → List PlacedCommentValue → Option ToldFault → Told
  told_with d comments fault = record { found = d.found.items; facts = d.facts.items; comments = comments; fault = fault }

  pub now_stopped : (j : PieceJudge A) (place : PieceFault) → StopsAt config s rs r j.rows place → HasComments rs j.comments → j.fault ≡ Some place → HasStopped config s (rs ++ r ∷ []) j
  now_stopped j place h c is = record {
    place = place;
    stopped = is;
    fault = h.fault;
    there = λ more. ap (λ (es : List RecordValue). fault_in s 1 es) (append_assoc rs (r ∷ []) more) ∙ h.there more;
    told = λ more.
        ap (λ (es : List RecordValue). told config s 1 es) (append_assoc rs (r ∷ []) more)
        ∙ (h.told more
        ∙ (ap (λ (cs : List PlacedCommentValue). told_with j.rows cs (Some (fault_value place))) (sym c.all)
        ∙ ap (λ (f : Option PieceFault). told_with j.rows j.comments.all.items (option_map fault_value f)) (sym is)));
  }

-- ---- whether there is a fault

module _ {A : Type 0} (config : Config) (s : DocumentState) (rs : List RecordValue) (j : PieceJudge A) where
  pub going : is_some j.fault ≡ false → JudgesRows config s rs j → IsGoing config s rs j
  going none (inl h) = h
  going none (inr h) = let no : true ≡ false = sym (ap is_some h.stopped) ∙ none in absurd (cc)

  pub has_stopped : is_some j.fault ≡ true → JudgesRows config s rs j → HasStopped config s rs j
  has_stopped some (inl h) = let no : false ≡ true = sym (ap is_some h.none) ∙ some in absurd (cc)
  has_stopped some (inr h) = h

  pub fault_held : JudgesRows config s rs j → is_some j.fault ≡ is_some (fault_in s 1 rs)
  fault_held (inl h) = ap is_some h.none ∙ sym (ap is_some (none_there config s h.rows.from h.rows.go_on rs j.rows h.rows.read))
  fault_held (inr h) = ap is_some h.stopped ∙ sym (ap is_some (ap (λ (es : List RecordValue). fault_in s 1 es) (sym (append-nil rs)) ∙ h.there []))

  -- ---- the state after the rows

  pub no_state : HasStopped config s rs j → None ≡ unless_fault (fault_in s 1 rs) (state_after s 1 rs)
  no_state h =
      let fault : fault_in s 1 rs ≡ Some h.fault = ap (λ (es : List RecordValue). fault_in s 1 es) (sym (append-nil rs)) ∙ h.there [] in
      sym (ap (λ (f : Option PlacedParseFault). unless_fault f (state_after s 1 rs)) fault)

  pub some_state : IsGoing config s rs j → (t : DocumentState) → t ≡ state_after s 1 rs → Some t ≡ unless_fault (fault_in s 1 rs) (state_after s 1 rs)
  some_state h t is =
      ap Some is ∙ sym (ap (λ (f : Option PlacedParseFault). unless_fault f (state_after s 1 rs)) (none_there config s h.rows.from h.rows.go_on rs j.rows h.rows.read))

  -- ---- what they tell

  pub told_stopped : HasStopped config s rs j → record { found = j.rows.found.items; facts = j.rows.facts.items; comments = j.comments.all.items; fault = option_map fault_value j.fault } ≡ told config s 1 rs
  told_stopped h = sym (ap (λ (es : List RecordValue). told config s 1 es) (sym (append-nil rs)) ∙ h.told [])

  pub told_going : IsGoing config s rs j → (found : List FindingValue) (facts : List Fact) → found ≡ (told config s 1 rs).found → facts ≡ (told config s 1 rs).facts
      → record { found = found; facts = facts; comments = j.comments.all.items; fault = option_map fault_value j.fault } ≡ told config s 1 rs
  told_going h found facts a b =
      let d = h.rows in
      told_so (record { found = found; facts = facts; comments = j.comments.all.items; fault = option_map fault_value j.fault }) (told config s 1 rs) a b
      (h.comments.all ∙ sym (comments_all config s d.from d.go_on rs j.rows d.read))
      (ap (λ (f : Option PieceFault). option_map fault_value f) h.none ∙ sym (fault_none config s d.from d.go_on rs j.rows d.read))
