-- Laws of commands of which only a part was read.
use Rattle.std.proofs.Common.{◌≡◌, ◌≢◌, ℕ, zero, suc, ◌<◌, Bool, true, false, cond, List, [], ◌∷◌, ◌++◌, length, drop, take, Option, None, Some, refl, sym, ap, subst, ◌∙◌, append_assoc}
use Rattle.std.specs.Prelude.{◌==◌}
use Rattle.std.specs.Option.{option_map, option_map_or}
use Rattle.std.specs.List.{slice_split}
use Rattle.std.specs.Io.KnownBytes.{Consumes}
use Rattle.std.proofs.lemmas.Bool.{eqb-true, lt-leb}
use Rattle.yl_devices.specs.Text.{TakesFewer}
use Rattle.yl_cli.specs.declared.command.CommandLine.{CommandLine}
use Rattle.yl_session.specs.Runs.{EditValue}
use Rattle.yl_cli.specs.Command.{Next, Command, End, Bad, first_line, line_of_words, next_command, next_of_line}
use Rattle.yl_cli.specs.Drive.{HasNoCommand, IsCut}
use Rattle.yl_cli.specs.Reading.{TakesLine}

abbrev Line : Type 0
Line = List ℕ × List ℕ

none_some : {P : Type 0} (p : Line) → ◌≡◌ {A = Option Line} (Some p) None → P
none_some p e = absurd (cc)

-- a line that goes on with one more byte in front
abbrev onward : ℕ → Option Line → Option Line
onward x found = option_map (λ (p : Line). (x ∷ p.0, p.1)) found

not_onward : (x : ℕ) (found : Option Line) → onward x found ≡ None → found ≡ None
not_onward x None h = refl
not_onward x (Some p) h = none_some (x ∷ p.0, p.1) h

-- a line that ends here, or goes on
abbrev ends_or : Bool → Line → Option Line → Option Line
ends_or ends here on = cond ends (Some here) on

none_at : (b : Bool) (p q : Line) (on more : Option Line) → (on ≡ None → more ≡ None) → ends_or b p on ≡ None → ends_or b q more ≡ None
none_at true p q on more k h = none_some p h
none_at false p q on more k h = k h

-- a byte that ends no line, after bytes that have no whole line
pub none_more : (most : ℕ) (xs : List ℕ) (c : ℕ) → (c == 10) ≡ false → first_line most xs ≡ None → first_line most (xs ++ c ∷ []) ≡ None
none_more zero [] c other h = ap (λ (b : Bool). ends_or b ([], []) None) other
none_more (suc most) [] c other h = ap (λ (b : Bool). ends_or b ([], []) None) other
none_more zero (x ∷ xs) c other h = none_at (x == 10) ([], xs) ([], xs ++ c ∷ []) None None (λ e. e) h
none_more (suc most) (x ∷ xs) c other h =
    none_at (x == 10) ([], xs) ([], xs ++ c ∷ []) (onward x (first_line most xs)) (onward x (first_line most (xs ++ c ∷ [])))
    (λ e. ap (onward x) (none_more most xs c other (not_onward x (first_line most xs) e))) h

-- a line and its line feed stand first, whatever follows
record StandsFirst (most : ℕ) (all line rest : List ℕ) : Type 0 where
  whole : all ≡ line ++ 10 ∷ rest
  again : (other : List ℕ) → first_line most (line ++ 10 ∷ other) ≡ Some (line, other)

abbrev front_of : Option Line → List ℕ
front_of None = []
front_of (Some p) = p.0

abbrev rest_of : Option Line → List ℕ
rest_of None = []
rest_of (Some p) = p.1

same_line : (P : List ℕ → List ℕ → Type 0) (p q : Line) → ◌≡◌ {A = Option Line} (Some p) (Some q) → P p.0 p.1 → P q.0 q.1
same_line P p q e h = subst (λ (l : List ℕ). P l q.1) (ap front_of e) (subst (λ (r : List ℕ). P p.0 r) (ap rest_of e) h)

at_feed : (most x : ℕ) (xs : List ℕ) → (x == 10) ≡ true → StandsFirst most (x ∷ xs) [] xs
at_feed zero x xs t = record { whole = ap (λ y. y ∷ xs) (eqb-true x 10 t); again = λ other. refl }
at_feed (suc most) x xs t = record { whole = ap (λ y. y ∷ xs) (eqb-true x 10 t); again = λ other. refl }

past_byte : (most x : ℕ) (xs a b : List ℕ) → (x == 10) ≡ false → StandsFirst most xs a b → StandsFirst (suc most) (x ∷ xs) (x ∷ a) b
past_byte most x xs a b t first = record {
  whole = ap (λ l. x ∷ l) first.whole;
  again = λ other. ap (λ (c : Bool). ends_or c ([], a ++ 10 ∷ other) (onward x (first_line most (a ++ 10 ∷ other)))) t ∙ ap (onward x) (first.again other);
}

first_at : (most x : ℕ) (xs line rest : List ℕ) (b : Bool) (on : Option Line) → (x == 10) ≡ b → ((q : Line) → on ≡ Some q → (x == 10) ≡ false → StandsFirst most (x ∷ xs) q.0 q.1)
    → ◌≡◌ {A = Option Line} (ends_or b ([], xs) on) (Some (line, rest)) → StandsFirst most (x ∷ xs) line rest
first_at most x xs line rest true on t k h = same_line (StandsFirst most (x ∷ xs)) ([], xs) (line, rest) h (at_feed most x xs t)
first_at most x xs line rest false on t k h = k (line, rest) h t

no_more : (x : ℕ) (xs : List ℕ) (q : Line) → ◌≡◌ {A = Option Line} None (Some q) → StandsFirst zero (x ∷ xs) q.0 q.1
no_more x xs q h = none_some q (sym h)

onward_first : (most x : ℕ) (xs : List ℕ) (found : Option Line) (q : Line) → ((p : Line) → found ≡ Some p → StandsFirst most xs p.0 p.1) → onward x found ≡ Some q → (x == 10) ≡ false → StandsFirst (suc most) (x ∷ xs) q.0 q.1
onward_first most x xs None q k h t = none_some q (sym h)
onward_first most x xs (Some p) q k h t = same_line (StandsFirst (suc most) (x ∷ xs)) (x ∷ p.0, p.1) q h (past_byte most x xs p.0 p.1 t (k p refl))

stands_first : (most : ℕ) (all : List ℕ) (p : Line) → first_line most all ≡ Some p → StandsFirst most all p.0 p.1
stands_first most [] p h = none_some p (sym h)
stands_first zero (x ∷ xs) p h = first_at zero x xs p.0 p.1 (x == 10) None refl (λ q e t. no_more x xs q e) h
stands_first (suc most) (x ∷ xs) p h =
    first_at (suc most) x xs p.0 p.1 (x == 10) (onward x (first_line most xs)) refl (λ q e t. onward_first most x xs (first_line most xs) q (λ r is. stands_first most xs r is) e t) h

-- ---- what next_command says of a line

abbrev of_line : Option Line → Next
of_line found = option_map_or (λ (p : Line). next_of_line (line_of_words (slice_split (λ c. c == 32) p.0)) p.1) found Bad

by_line : (x : ℕ) (xs : List ℕ) (found : Option Line) → first_line 62 (x ∷ xs) ≡ found → next_command (x ∷ xs) ≡ of_line found
by_line x xs found is = ap of_line is

end_not_command : (e : EditValue) (rest : List ℕ) → End ≢ Command e rest
end_not_command e rest h = cc

bad_not_command : (e : EditValue) (rest : List ℕ) → Bad ≢ Command e rest
bad_not_command e rest h = cc

-- a command that wants more bytes than there are
too_few : (asked : CommandLine) (bytes : List ℕ) → length bytes < asked.size → next_of_line (Some asked) bytes ≡ Bad
too_few asked bytes few = ap (λ (b : Bool). cond b (Command (record { from = asked.from; to = asked.to; bytes = take asked.size bytes }) (drop asked.size bytes)) Bad) (lt-leb asked.size (length bytes) few)

bad_by_line : (front bytes : List ℕ) (found : Option Line) → first_line 62 (front ++ 10 ∷ bytes) ≡ found → of_line found ≡ Bad → next_command (front ++ 10 ∷ bytes) ≡ Bad
bad_by_line [] bytes found h bad = by_line 10 bytes found h ∙ bad
bad_by_line (x ∷ xs) bytes found h bad = by_line x (xs ++ 10 ∷ bytes) found h ∙ bad

no_payload_no_command : (line bytes : List ℕ) (asked : CommandLine) → first_line 62 (line ++ 10 ∷ bytes) ≡ Some (line, bytes) → line_of_words (slice_split (λ c. c == 32) line) ≡ Some asked → length bytes < asked.size
    → HasNoCommand (line ++ 10 ∷ bytes)
no_payload_no_command line bytes asked first is few =
    λ e rest found. bad_not_command e rest (sym (bad_by_line line bytes (Some (line, bytes)) first (ap (λ (o : Option CommandLine). next_of_line o bytes) is ∙ too_few asked bytes few)) ∙ found)

-- the reading of a command's bytes was cut short
pub cut_in_payload : (given mid left : Option (List ℕ)) (line : List ℕ) (asked : CommandLine) → TakesLine given mid line → line_of_words (slice_split (λ c. c == 32) line) ≡ Some asked → TakesFewer asked.size mid left → IsCut given left
cut_in_payload None mid left line asked t is few = record { begun = []; consumed = tt; none = end_not_command }
cut_in_payload (Some all) None left line asked t is few = absurd t
cut_in_payload (Some all) (Some rest) None line asked t is few = absurd few.consumed
cut_in_payload (Some all) (Some rest) (Some more) line asked t is few =
    let first : StandsFirst 62 all line rest = stands_first 62 all (line, rest) t in
    let taken : rest ≡ few.taken ++ more = few.consumed in
    record {
      begun = line ++ 10 ∷ few.taken;
      consumed = first.whole ∙ ap (λ l. line ++ 10 ∷ l) taken ∙ sym (append_assoc line (10 ∷ few.taken) more);
      none = no_payload_no_command line few.taken asked (first.again few.taken) is few.bound;
    }
