-- The lines of a text with bytes in place of some of its lines are the kept lines and those of the bytes.
use Rattle.std.proofs.Common.{◌≡◌, ◌≢◌, ℕ, zero, suc, ◌+◌, ◌-◌, ◌<◌, ◌≤◌, ◌⊎◌, inl, inr, List, [], ◌∷◌, ◌++◌, length, take, drop, get_or, refl, sym, ◌∙◌, ap, subst, arith, append_assoc, length-append}
use Rattle.std.proofs.lemmas.Bool.{cases_lt, cases_eq}
use Rattle.std.proofs.lemmas.List.{append-nil, get_or_append_left, get_or-append-add, take-append-drop}
use Rattle.std.proofs.lemmas.List.Elements.{All-head, All-tail, All-take}
use Rattle.std.proofs.lemmas.List.Concat.{flat_map-append}
use Rattle.std.specs.Prelude.{All}
use Rattle.yl_text.specs.declared.row.Break.{Break}
use Rattle.yl_text.specs.declared.row.Break.TheVariants.{No, Lf, CrLf, Cr}
use Rattle.yl_text.specs.Lines.{RowValue, break_bytes, row_bytes, text_of, HasNoBreak, AreEnded, StartsWithLf, AreWhole, IsLines, lines_of}
use Rattle.yl_text.proofs.Computed.{lines_of-last, lines_of-step, lines_of-is, lines_of-IsLines}
use Rattle.std.specs.List.{splice}
use Rattle.std.proofs.lemmas.List.Elements.{All-cons, All-nil, All-drop, All-get_or}
use Rattle.std.proofs.lemmas.Bool.{cond-true, cond-false, lt-ltb, le-ltb}
use Rattle.yl_text.specs.declared.TheConstants.{MAX_BYTES}
use Rattle.yl_text.specs.Store.{AreLines}
use Rattle.yl_text.specs.Edit.{last_byte}
use Rattle.yl_text.specs.PutLines.{first_byte, CanPutLines, IsLineRange, LeavesOpenEnd, JoinsBreaks, front_of, back_of, put_text, inserted_rows, Joins, EndsInBreak, EditIsSplice}

-- lines that all end in a break
pub record AreClosed (cs : List RowValue) : Type 0 where
  pub ended : All (λ p. p.end ≢ No) cs
  pub unbroken : All (λ p. HasNoBreak p.text) cs
  pub whole : AreWhole cs

-- the last byte of joined texts
pub last_of : (x y : List ℕ) → 0 < length y → last_byte (x ++ y) ≡ last_byte y
last_of x y h =
    let n : length (x ++ y) - 1 ≡ length x + (length y - 1) = omega (arith, length-append x y) in
    ap (λ (k : ℕ). get_or (x ++ y) k 0) n ∙ get_or-append-add x y (length y - 1) 0

pub has_last : (t : List ℕ) (b : ℕ) → (b ≡ 0 → ⊥) → last_byte t ≡ b → 0 < length t
has_last [] b n e = absurd (n (sym e))
has_last (x ∷ t) b n e = omega arith

pub first_of : (x y : List ℕ) → 0 < length x → first_byte (x ++ y) ≡ first_byte x
first_of x y h = get_or_append_left x y 0 0 h

-- a line that ends in a break has a byte
pub some_byte : (p : RowValue) → p.end ≢ No → 0 < length (row_bytes p)
some_byte p h = some p.text p.end h where
  some : (xs : List ℕ) (e : Break) → e ≢ No → 0 < length (xs ++ break_bytes e)
  some xs No k = absurd (k refl)
  some xs Lf k = omega (arith, length-append xs (break_bytes Lf))
  some xs CrLf k = omega (arith, length-append xs (break_bytes CrLf))
  some xs Cr k = omega (arith, length-append xs (break_bytes Cr))

-- what CR ends has CR for its last byte
cr_last : (p : RowValue) → p.end ≡ Cr → last_byte (row_bytes p) ≡ 13
cr_last p e = rw e (last_of p.text (13 ∷ []) (omega arith))

-- a line that begins with LF is an LF
lf_first : (p : RowValue) → HasNoBreak p.text → p.end ≢ No → first_byte (row_bytes p) ≡ 10 → (p.text ≡ []) × (p.end ≡ Lf)
lf_first p n k = lf p.text p.end n k where
  lf : (xs : List ℕ) (e : Break) → HasNoBreak xs → e ≢ No → first_byte (xs ++ break_bytes e) ≡ 10 → (xs ≡ []) × (e ≡ Lf)
  lf [] No n k f = absurd (k refl)
  lf [] Lf n k f = (refl, refl)
  lf [] CrLf n k f = absurd (omega (arith, f))
  lf [] Cr n k f = absurd (omega (arith, f))
  lf (x ∷ xs) e n k f = absurd ((All-head (λ (b : ℕ). (b ≢ 10) × (b ≢ 13)) x xs n).0 f)

-- closed lines before a text: they are its first lines
pub lines_of-closed : (cs : List RowValue) (u : List ℕ) → AreClosed cs → ¬ (Joins (text_of cs) u) → lines_of (text_of cs ++ u) ≡ cs ++ lines_of u
lines_of-closed [] u h j = refl
lines_of-closed (p ∷ cs) u h j =
    let E : RowValue → Type 0 = λ p. p.end ≢ No in
    let N : RowValue → Type 0 = λ p. HasNoBreak p.text in
    let rest = lines_of-closed cs u (record { ended = All-tail E p cs h.ended; unbroken = All-tail N p cs h.unbroken; whole = h.whole.1 }) (later p cs u j) in
    let seam : p.end ≡ Cr → first_byte (text_of cs ++ u) ≢ 10 = λ e f. starts p cs u e h j f in
    ap (λ (t : List ℕ). lines_of t) (append_assoc (row_bytes p) (text_of cs) u ∙ append_assoc p.text (break_bytes p.end) (text_of cs ++ u))
    ∙ lines_of-step p.text p.end (text_of cs ++ u) (All-head N p cs h.unbroken) (All-head E p cs h.ended) seam
    ∙ ap (λ (l : List RowValue). p ∷ l) rest
  where
    later : (p : RowValue) (cs : List RowValue) (u : List ℕ) → ¬ (Joins (text_of (p ∷ cs)) u) → ¬ (Joins (text_of cs) u)
    later p cs u j = λ k.
        let long = has_last (text_of cs) 13 (λ z. absurd (omega (arith, z))) k.0 in
        j (last_of (row_bytes p) (text_of cs) long ∙ k.0, k.1)

    starts : (p : RowValue) (cs : List RowValue) (u : List ℕ) → p.end ≡ Cr → AreClosed (p ∷ cs) → ¬ (Joins (text_of (p ∷ cs)) u) → first_byte (text_of cs ++ u) ≡ 10 → ⊥
    starts p [] u e h j f = j (ap last_byte (append-nil (row_bytes p)) ∙ cr_last p e, f)
    starts p (q ∷ cs) u e h j f =
        let E : RowValue → Type 0 = λ p. p.end ≢ No in
        let N : RowValue → Type 0 = λ p. HasNoBreak p.text in
        let qe = All-head E q cs (All-tail E p (q ∷ cs) h.ended) in
        let b = some_byte q qe in
        let g : first_byte (row_bytes q) ≡ 10 = sym (first_of (row_bytes q) (text_of cs ++ u) b) ∙ ap first_byte (sym (append_assoc (row_bytes q) (text_of cs) u)) ∙ f in
        h.whole.0 e (lf_first q (All-head N q cs (All-tail N p (q ∷ cs) h.unbroken)) qe g)

-- lines before a line that there is are closed
pub take_closed : (ps : List RowValue) (a : ℕ) → a < length ps → AreEnded ps → All (λ p. HasNoBreak p.text) ps → AreWhole ps → AreClosed (take a ps)
take_closed ps a l e n w = record { ended = ends ps a l e; unbroken = All-take (λ (p : RowValue). HasNoBreak p.text) a ps n; whole = uncut ps a w } where
  ends : (ps : List RowValue) (a : ℕ) → a < length ps → AreEnded ps → All (λ p. p.end ≢ No) (take a ps)
  ends ps zero l e = All-nil (λ (p : RowValue). p.end ≢ No)
  ends [] (suc a) l e = absurd e
  ends (p ∷ []) (suc a) l e = absurd (omega (arith, l))
  ends (p ∷ q ∷ ps) (suc a) l e = All-cons (λ (p : RowValue). p.end ≢ No) p (take a (q ∷ ps)) e.0 (ends (q ∷ ps) a (omega (arith, l)) e.1)

  first : (ps : List RowValue) (a : ℕ) → StartsWithLf (take a ps) → StartsWithLf ps
  first ps zero h = absurd h
  first [] (suc a) h = h
  first (p ∷ ps) (suc a) h = h

  uncut : (ps : List RowValue) (a : ℕ) → AreWhole ps → AreWhole (take a ps)
  uncut ps zero w = tt
  uncut [] (suc a) w = tt
  uncut (p ∷ ps) (suc a) w = (λ e s. w.0 e (first ps a s), uncut ps a w.1)

pub ended_back : (ps : List RowValue) (b : ℕ) → b < length ps → AreEnded ps → AreEnded (drop b ps)
ended_back ps zero l e = e
ended_back [] (suc b) l e = absurd e
ended_back (p ∷ []) (suc b) l e = absurd (omega (arith, l))
ended_back (p ∷ q ∷ ps) (suc b) l e = ended_back (q ∷ ps) b (omega (arith, l)) e.1

-- lines from a line on are the lines of their text
pub lines_of-back : (ps : List RowValue) (b : ℕ) → b < length ps → AreEnded ps → All (λ p. HasNoBreak p.text) ps → AreWhole ps → lines_of (text_of (drop b ps)) ≡ drop b ps
lines_of-back ps b l e n w =
    lines_of-is (text_of (drop b ps)) (drop b ps) (record { joined = refl; ended = ended_back ps b l e; unbroken = All-drop (λ (p : RowValue). HasNoBreak p.text) b ps n; whole = uncut ps b w }) where
      uncut : (ps : List RowValue) (b : ℕ) → AreWhole ps → AreWhole (drop b ps)
      uncut ps zero w = w
      uncut [] (suc b) w = w
      uncut (p ∷ ps) (suc b) w = uncut ps b w.1

-- the last line has no break
last_line : (ps : List RowValue) (n : ℕ) → n + 1 ≡ length ps → AreEnded ps → All (λ p. HasNoBreak p.text) ps → (q : RowValue) × (drop n ps ≡ q ∷ []) × (q.end ≡ No) × HasNoBreak q.text
last_line [] n l e h = absurd e
last_line (p ∷ []) zero l e h = (p, refl, e, All-head (λ (p : RowValue). HasNoBreak p.text) p [] h)
last_line (p ∷ []) (suc n) l e h = absurd (omega (arith, l))
last_line (p ∷ q ∷ ps) zero l e h = absurd (omega (arith, l))
last_line (p ∷ q ∷ ps) (suc n) l e h = last_line (q ∷ ps) n (omega (arith, l)) e.1 (All-tail (λ (p : RowValue). HasNoBreak p.text) p (q ∷ ps) h)

-- the last byte of a text with no break
no_break_last : (xs : List ℕ) → HasNoBreak xs → EndsInBreak xs → ⊥
no_break_last [] h e = absurd (elim e [ inl z ↦ omega (arith, z) | inr z ↦ omega (arith, z) ])
no_break_last (x ∷ xs) h e =
    let P : ℕ → Type 0 = λ b. (b ≢ 10) × (b ≢ 13) in
    let k = All-get_or P (x ∷ xs) (length (x ∷ xs) - 1) 0 (omega arith) h in
    elim e [ inl z ↦ k.0 z | inr z ↦ k.1 z ]

abbrev without_last : List ℕ → List RowValue
without_last t = take (length (lines_of t) - 1) (lines_of t)

-- bytes that end in a break are their lines but the last, which is empty
without_last-is : (t : List ℕ) → EndsInBreak t → AreClosed (without_last t) × (text_of (without_last t) ≡ t)
without_last-is t e =
    let h = lines_of-IsLines t in
    let ps = lines_of t in
    let n = length ps - 1 in
    let long : 0 < length ps = omega arith in
    let at : n + 1 ≡ length ps = omega arith in
    let l = last_line ps n at h.ended h.unbroken in
    let q = l.0 in
    let split : text_of ps ≡ text_of (take n ps) ++ text_of (drop n ps) = ap (λ (x : List RowValue). text_of x) (sym (take-append-drop n ps)) ∙ flat_map-append row_bytes (take n ps) (drop n ps) in
    let rest : text_of (drop n ps) ≡ q.text = ap (λ (x : List RowValue). text_of x) l.1 ∙ append-nil (row_bytes q) ∙ ap (λ (b : Break). q.text ++ break_bytes b) l.2 ∙ append-nil q.text in
    let parts : t ≡ text_of (take n ps) ++ q.text = sym h.joined ∙ split ∙ ap (λ (x : List ℕ). text_of (take n ps) ++ x) rest in
    let none = ended_empty (text_of (take n ps)) q.text t parts l.3 e in
    (take_closed ps n (omega arith) h.ended h.unbroken h.whole, sym (parts ∙ ap (λ (x : List ℕ). text_of (take n ps) ++ x) none ∙ append-nil (text_of (take n ps)))) where
      ended_empty : (x y t : List ℕ) → t ≡ x ++ y → HasNoBreak y → EndsInBreak t → y ≡ []
      ended_empty x [] t p h e = refl
      ended_empty x (y ∷ ys) t p h e =
          let same : last_byte t ≡ last_byte (y ∷ ys) = ap (λ (u : List ℕ). last_byte u) p ∙ last_of x (y ∷ ys) (omega arith) in
          absurd (no_break_last (y ∷ ys) h (elim e [ inl z ↦ inl (sym same ∙ z) | inr z ↦ inr (sym same ∙ z) ]))

-- the lines from the bytes on
tail_lines : (ps : List RowValue) (b : ℕ) (t : List ℕ) → b ≤ length ps → IsLines (text_of ps) ps → ¬ (LeavesOpenEnd ps b t) → ¬ (Joins t (back_of ps b)) → lines_of (t ++ back_of ps b) ≡ inserted_rows ps b t ++ drop b ps
tail_lines ps b t w h c j =
    elim (cases_lt b (length ps)) [
      | inl l ↦
          let back = lines_of-back ps b l h.ended h.unbroken h.whole in
          rw (cond-true _ _ _ (lt-ltb b (length ps) l)) (before_back ps b t l (λ n e. c (l, n, e)) j back)
      | inr m ↦
          let none : drop b ps ≡ [] = drop_all b ps m in
          rw (cond-false _ _ _ (le-ltb b (length ps) m), none, append-nil t, append-nil (lines_of t)) refl
    ] where
      drop_all : (b : ℕ) (ps : List RowValue) → length ps ≤ b → drop b ps ≡ []
      drop_all zero [] l = refl
      drop_all zero (p ∷ ps) l = absurd (omega (arith, l))
      drop_all (suc b) [] l = refl
      drop_all (suc b) (p ∷ ps) l = drop_all b ps (omega (arith, l))

      before_back : (ps : List RowValue) (b : ℕ) (t : List ℕ) → b < length ps → (t ≢ [] → ¬ (EndsInBreak t) → ⊥) → ¬ (Joins t (back_of ps b)) → lines_of (back_of ps b) ≡ drop b ps → lines_of (t ++ back_of ps b) ≡ without_last t ++ drop b ps
      before_back ps b [] l c j back = back ∙ ap (λ (l : List RowValue). take (length l - 1) l ++ drop b ps) (sym (lines_of-last [] (All-nil (λ (b : ℕ). (b ≢ 10) × (b ≢ 13)))))
      before_back ps b (x ∷ xs) l c j back =
          let t = x ∷ xs in
          let ends : EndsInBreak t = elim (cases_eq (last_byte t) 10) [
            | inl e ↦ inl e
            | inr n ↦ elim (cases_eq (last_byte t) 13) [ inl e ↦ inr e | inr m ↦ absurd (c (λ z. cc) (λ e. elim e [ inl z ↦ n z | inr z ↦ m z ])) ]
          ] in
          let is = without_last-is t ends in
          ap (λ (u : List ℕ). lines_of (u ++ back_of ps b)) (sym is.1) ∙ lines_of-closed (without_last t) (back_of ps b) is.0 (λ k. j (ap (λ (u : List ℕ). last_byte u) (sym is.1) ∙ k.0, k.1)) ∙ ap (λ (l : List RowValue). without_last t ++ l) back

-- the lines of the text after the edit
pub lines_of-edited : (ps : List RowValue) (a b : ℕ) (t : List ℕ) → IsLines (text_of ps) ps → IsLineRange ps a b → ¬ (LeavesOpenEnd ps b t) → ¬ (JoinsBreaks ps a b t) → lines_of (put_text ps a b t) ≡ splice ps a b (inserted_rows ps b t)
lines_of-edited ps a b t h r c j =
    lines_of-closed (take a ps) (t ++ back_of ps b) (take_closed ps a r.starts h.ended h.unbroken h.whole) (seam (front_of ps a) (back_of ps b) t j)
    ∙ ap (λ (l : List RowValue). take a ps ++ l) (tail_lines ps b t r.within h c (λ k. j (inl (inr k)))) where
      seam : (x y t : List ℕ) → ¬ ((Joins x t ⊎ Joins t y) ⊎ ((t ≡ []) × Joins x y)) → ¬ (Joins x (t ++ y))
      seam x y [] j k = j (inr (refl, k))
      seam x y (z ∷ t) j k = j (inl (inl k))

-- lines are no more than their bytes, and one
pub length-lines : (ps : List RowValue) → AreEnded ps → length ps ≤ length (text_of ps) + 1
length-lines [] e = absurd e
length-lines (p ∷ []) e = omega arith
length-lines (p ∷ q ∷ ps) e = omega (arith, length-lines (q ∷ ps) e.1, some_byte p e.0, length-append (row_bytes p) (text_of (q ∷ ps)))

-- the new lines are lines
pub AreLines-edited : (ps : List RowValue) (a b : ℕ) (t : List ℕ) → AreLines ps → CanPutLines ps a b t → AreLines (splice ps a b (inserted_rows ps b t)) × IsLines (put_text ps a b t) (splice ps a b (inserted_rows ps b t))
AreLines-edited ps a b t h c =
    let same = lines_of-edited ps a b t h.lines c.range c.closed c.apart in
    let P : List RowValue → Type 0 = λ l. IsLines (put_text ps a b t) l in
    let lines = subst P same (lines_of-IsLines (put_text ps a b t)) in
    let Q : List ℕ → Type 0 = λ u. IsLines u (splice ps a b (inserted_rows ps b t)) in
    let R : List ℕ → Type 0 = λ u. length u ≤ MAX_BYTES in
    (record { lines = subst Q (sym lines.joined) lines; short = subst R (sym lines.joined) c.short }, lines)

-- and those of the edit between two places that is made so
pub edit_is_splice : EditIsSplice
edit_is_splice ps from to t a b piece h e =
    let made = AreLines-edited ps a b piece h e.can in
    let P : List ℕ → Type 0 = λ u. IsLines u (splice ps a b (inserted_rows ps b piece)) in
    (subst P e.same made.1, made.0)
