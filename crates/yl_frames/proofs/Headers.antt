-- Laws of a header that is read line by line.
use Rattle.std.proofs.Common.{◌≡◌, ℕ, suc, zero, true, false, List, [], ◌∷◌, ◌++◌, Option, None, Some, IfSome, MatchOption, refl, sym, ap, ◌∙◌, subst}
use Rattle.std.specs.Prelude.{is_some, option_and_then}
use Rattle.std.specs.Option.{option_map}
use Rattle.yl_frames.specs.declared.field.HeaderLine.{HeaderLine}
use Rattle.yl_frames.specs.declared.field.HeaderLine.TheVariants.{Empty, Length, Other, Bad}
use Rattle.yl_frames.specs.Header.{line_of}
use Rattle.yl_frames.specs.Frames.{first_line, header_lines, header_of, lengths_of, lines_with, only_length}
use Rattle.yl_frames.specs.Reading.{listed, header_from, said, HeaderBegan, TakesHeader, TakesLine}

-- ---- what one line adds to the lines after it

said_empty : (found : Option ℕ) (h : Option (List HeaderLine × List ℕ)) (rest : List ℕ) → said found (lines_with Empty h rest) ≡ option_map (λ n. (n, rest)) found
said_empty None h rest = refl
said_empty (Some n) h rest = refl

said_other : (found : Option ℕ) (h : Option (List HeaderLine × List ℕ)) (rest : List ℕ) → said found (lines_with Other h rest) ≡ said found h
said_other found None rest = refl
said_other found (Some p) rest = refl

length_said : (n : ℕ) (ns : Option (List ℕ)) → only_length (option_map (λ l. listed None ++ l) (option_map (λ l. n ∷ l) ns)) ≡ only_length (option_map (λ l. listed (Some n) ++ l) ns)
length_said n None = refl
length_said n (Some ns) = refl

said_length : (n : ℕ) (h : Option (List HeaderLine × List ℕ)) (rest : List ℕ) → said None (lines_with (Length n) h rest) ≡ said (Some n) h
said_length n None rest = refl
said_length n (Some p) rest = ap (λ (o : Option ℕ). option_map (λ k. (k, p.1)) o) (length_said n (lengths_of p.0))

length_said_twice : (m n : ℕ) (ns : Option (List ℕ)) → only_length (option_map (λ l. listed (Some m) ++ l) (option_map (λ l. n ∷ l) ns)) ≡ None
length_said_twice m n None = refl
length_said_twice m n (Some ns) = refl

said_twice : (m n : ℕ) (h : Option (List HeaderLine × List ℕ)) (rest : List ℕ) → said (Some m) (lines_with (Length n) h rest) ≡ None
said_twice m n None rest = refl
said_twice m n (Some p) rest = ap (λ (o : Option ℕ). option_map (λ k. (k, p.1)) o) (length_said_twice m n (lengths_of p.0))

said_bad : (found : Option ℕ) (h : Option (List HeaderLine × List ℕ)) (rest : List ℕ) → said found (lines_with Bad h rest) ≡ None
said_bad found None rest = refl
said_bad found (Some p) rest = refl

said_nothing : (h : Option (List HeaderLine × List ℕ)) → option_and_then (λ p. option_map (λ n. (n, p.1)) (only_length (lengths_of p.0))) h ≡ said None h
said_nothing None = refl
said_nothing (Some p) = ap (λ (o : Option ℕ). option_map (λ k. (k, p.1)) o) (bare (lengths_of p.0))
  where
    bare : (ns : Option (List ℕ)) → only_length ns ≡ only_length (option_map (λ l. listed None ++ l) ns)
    bare None = refl
    bare (Some ns) = refl

-- ---- a header, line by line

lines_at : (k : ℕ) (bytes line rest : List ℕ) → first_line 257 bytes ≡ Some (line, rest) → header_lines (suc k) bytes ≡ lines_with (line_of line) (header_lines k rest) rest
unfolding header_lines
lines_at k bytes line rest e = ap (option_and_then (λ p. lines_with (line_of p.0) (header_lines k p.1) p.1)) e

lines_none : (k : ℕ) (bytes : List ℕ) → first_line 257 bytes ≡ None → header_lines k bytes ≡ None
unfolding header_lines
lines_none zero bytes e = refl
lines_none (suc k) bytes e = ap (option_and_then (λ p. lines_with (line_of p.0) (header_lines k p.1) p.1)) e

lines_out : (bytes : List ℕ) → header_lines zero bytes ≡ None
unfolding header_lines
lines_out bytes = refl

from_line : (k : ℕ) (found : Option ℕ) (bytes line rest : List ℕ) (kind : HeaderLine) → first_line 257 bytes ≡ Some (line, rest) → line_of line ≡ kind
    → header_from (suc k) found bytes ≡ said found (lines_with kind (header_lines k rest) rest)
from_line k found bytes line rest kind e is = ap (said found) (lines_at k bytes line rest e ∙ ap (λ (x : HeaderLine). lines_with x (header_lines k rest) rest) is)

pub header_begins : (given : Option (List ℕ)) → HeaderBegan 65 given given None
header_begins None = tt
header_begins (Some all) = said_nothing (header_lines 65 all)

pub header_goes_on : (j k : ℕ) (given mid new : Option (List ℕ)) (found : Option ℕ) (line : List ℕ) → j ≡ suc k → HeaderBegan j given mid found → TakesLine mid new line → line_of line ≡ Other → HeaderBegan k given new found
header_goes_on j k None mid new found line n h t is = tt
header_goes_on j k (Some all) None new found line n h t is = absurd h
header_goes_on j k (Some all) (Some xs) None found line n h t is = absurd t
header_goes_on j k (Some all) (Some xs) (Some ys) found line n h t is =
    h ∙ ap (λ (m : ℕ). header_from m found xs) n ∙ from_line k found xs line ys Other t is ∙ said_other found (header_lines k ys) ys

pub header_says : (j k n : ℕ) (given mid new : Option (List ℕ)) (found : Option ℕ) (line : List ℕ) → j ≡ suc k → is_some found ≡ false → HeaderBegan j given mid found → TakesLine mid new line → line_of line ≡ Length n
    → HeaderBegan k given new (Some n)
header_says j k n given mid new (Some m) line e none h t is = absurd (true_false none)
  where
    true_false : true ≡ false → ⊥
    true_false q = cc
header_says j k n None mid new None line e none h t is = tt
header_says j k n (Some all) None new None line e none h t is = absurd h
header_says j k n (Some all) (Some xs) None None line e none h t is = absurd t
header_says j k n (Some all) (Some xs) (Some ys) None line e none h t is =
    h ∙ ap (λ (m : ℕ). header_from m None xs) e ∙ from_line k None xs line ys (Length n) t is ∙ said_length n (header_lines k ys) ys

pub header_ends : (j k : ℕ) (given mid new : Option (List ℕ)) (found : Option ℕ) (line : List ℕ) → j ≡ suc k → HeaderBegan j given mid found → TakesLine mid new line → line_of line ≡ Empty
    → MatchOption found (IfSome given (λ all. header_of all ≡ None)) (λ n. TakesHeader given new n)
header_ends j k None mid new None line e h t is = tt
header_ends j k None mid new (Some n) line e h t is = tt
header_ends j k (Some all) None new found line e h t is = absurd h
header_ends j k (Some all) (Some xs) None found line e h t is = absurd t
header_ends j k (Some all) (Some xs) (Some ys) None line e h t is =
    h ∙ ap (λ (m : ℕ). header_from m None xs) e ∙ from_line k None xs line ys Empty t is ∙ said_empty None (header_lines k ys) ys
header_ends j k (Some all) (Some xs) (Some ys) (Some n) line e h t is =
    h ∙ ap (λ (m : ℕ). header_from m (Some n) xs) e ∙ from_line k (Some n) xs line ys Empty t is ∙ said_empty (Some n) (header_lines k ys) ys

-- ---- no header

pub header_bad : (j k : ℕ) (given mid new : Option (List ℕ)) (found : Option ℕ) (line : List ℕ) → j ≡ suc k → HeaderBegan j given mid found → TakesLine mid new line → line_of line ≡ Bad → IfSome given (λ all. header_of all ≡ None)
header_bad j k None mid new found line e h t is = tt
header_bad j k (Some all) None new found line e h t is = absurd h
header_bad j k (Some all) (Some xs) None found line e h t is = absurd t
header_bad j k (Some all) (Some xs) (Some ys) found line e h t is =
    h ∙ ap (λ (m : ℕ). header_from m found xs) e ∙ from_line k found xs line ys Bad t is ∙ said_bad found (header_lines k ys) ys

pub header_says_twice : (j k n : ℕ) (given mid new : Option (List ℕ)) (found : Option ℕ) (line : List ℕ) → j ≡ suc k → is_some found ≡ true → HeaderBegan j given mid found → TakesLine mid new line → line_of line ≡ Length n
    → IfSome given (λ all. header_of all ≡ None)
header_says_twice j k n given mid new None line e some h t is = absurd (false_true some)
  where
    false_true : false ≡ true → ⊥
    false_true q = cc
header_says_twice j k n None mid new (Some m) line e some h t is = tt
header_says_twice j k n (Some all) None new (Some m) line e some h t is = absurd h
header_says_twice j k n (Some all) (Some xs) None (Some m) line e some h t is = absurd t
header_says_twice j k n (Some all) (Some xs) (Some ys) (Some m) line e some h t is =
    h ∙ ap (λ (i : ℕ). header_from i (Some m) xs) e ∙ from_line k (Some m) xs line ys (Length n) t is ∙ said_twice m n (header_lines k ys) ys

pub header_stops : (j : ℕ) (given mid : Option (List ℕ)) (found : Option ℕ) → HeaderBegan j given mid found → IfSome mid (λ xs. first_line 257 xs ≡ None) → IfSome given (λ all. header_of all ≡ None)
header_stops j None mid found h t = tt
header_stops j (Some all) None found h t = absurd h
header_stops j (Some all) (Some xs) found h t = h ∙ ap (said found) (lines_none j xs t)

pub header_too_long : (j : ℕ) (given mid : Option (List ℕ)) (found : Option ℕ) → j ≡ 0 → HeaderBegan j given mid found → IfSome given (λ all. header_of all ≡ None)
header_too_long j None mid found e h = tt
header_too_long j (Some all) None found e h = absurd h
header_too_long j (Some all) (Some xs) found e h = h ∙ ap (λ (m : ℕ). header_from m found xs) e ∙ ap (said found) (lines_out xs)
