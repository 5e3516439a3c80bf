-- Laws of a body that is read piece by piece.
use Rattle.std.proofs.Common.{◌≡◌, ◌≢◌, ℕ, ◌+◌, ◌-◌, ◌<◌, ◌≤◌, true, false, List, [], ◌∷◌, ◌++◌, length, take, drop, Option, None, Some, IfSome, IsSomeAnd, MatchOption, refl, sym, ap, ◌∙◌, subst, arith, append_assoc, take-append-drop, length-append, length-take, nat_le}
use Rattle.std.specs.Option.{option_map_or}
use Rattle.std.proofs.Math.Seq.{take-append_seam, drop-append_seam}
use Rattle.std.proofs.lemmas.Bool.{le-leb}
use Rattle.std.proofs.lemmas.Bool.Decides.{nat_tests}
use Rattle.std.proofs.KnownBytes.{Consumes-trans, Consumes-kept}
use Rattle.std.specs.Io.KnownBytes.{Consumes, IsAtEnd, Keeps, prepend_known}
use Rattle.yl_frames.specs.declared.reading.NextBody.{NextBody}
use Rattle.yl_frames.specs.declared.reading.NextBody.TheVariants as found
use Rattle.yl_frames.specs.Frames.{Body, End, Bad, header_of, next_body, next_of_length}
use Rattle.yl_frames.specs.Found.{IsNext}
use Rattle.yl_frames.specs.Reading.{IsBodyRead, TakenSoFar, TakesHeader}

-- the first bytes of those read ahead are taken
ahead_taken : (a : List ℕ) (n : ℕ) (rest : Option (List ℕ)) → Consumes (prepend_known a rest) (prepend_known (drop n a) rest) (take n a)
ahead_taken a n None = tt
ahead_taken a n (Some xs) = ap (λ l. l ++ xs) (sym (take-append-drop n a)) ∙ append_assoc (take n a) (drop n a) xs

-- the first n bytes of those read ahead are taken next
pub more_taken : {X : Type 0} (items : X → List ℕ) (given mid rest : Option (List ℕ)) (count m n : ℕ) (old new : Option X) (a b piece : List ℕ) → TakenSoFar given mid count old items → Keeps mid (prepend_known a rest) → b ≡ drop n a
    → IfSome new (λ y. IsSomeAnd old (λ x. items y ≡ items x ++ piece)) → piece ≡ take n a → n ≤ length a → m ≡ count + n → TakenSoFar given (prepend_known b rest) m new items
more_taken {X = X} items given mid rest count m n old new a b piece f k e more is within sum = record {
  taken = f.taken ++ take n a;
  consumed = subst (λ (l : List ℕ). Consumes given (prepend_known l rest) (f.taken ++ take n a)) (sym e)
      (Consumes-trans given (prepend_known a rest) (prepend_known (drop n a) rest) f.taken (take n a) (Consumes-kept given mid (prepend_known a rest) f.taken f.consumed k) (ahead_taken a n rest));
  counted = omega (arith, length-append f.taken (take n a), f.counted, length-take n a, sum, within);
  keeps = longer old new more f.keeps;
}
  where
    longer : (old new : Option X) → IfSome new (λ y. IsSomeAnd old (λ x. items y ≡ items x ++ piece)) → IfSome old (λ x. items x ≡ f.taken) → IfSome new (λ y. items y ≡ f.taken ++ take n a)
    longer old None more was = tt
    longer None (Some y) more was = absurd more
    longer (Some x) (Some y) more was = more ∙ ap (λ l. l ++ piece) was ∙ ap (λ l. f.taken ++ l) is

-- the input ends before all bytes came
pub too_few : {X : Type 0} (items : X → List ℕ) (given mid : Option (List ℕ)) (count size : ℕ) (kept : Option X) → TakenSoFar given mid count kept items → IsAtEnd mid → count < size → IfSome given (λ all. length all < size)
too_few items None mid count size kept f e h = tt
too_few items (Some all) None count size kept f e h = absurd f.consumed
too_few items (Some all) (Some xs) count size kept f e h = omega (arith, ap length f.consumed, length-append f.taken xs, ap length e, f.counted, h)

-- ---- from a body to a message

whole_body : (body rest : List ℕ) → next_of_length (length body) (body ++ rest) ≡ Body body rest
whole_body body rest =
    let fits : nat_le (length body) (length (body ++ rest)) ≡ true = le-leb (length body) (length (body ++ rest)) (omega (arith, length-append body rest)) in
    rw (fits, take-append_seam, drop-append_seam) refl

body_at : (n : ℕ) (bytes body rest : List ℕ) → bytes ≡ body ++ rest → length body ≡ n → next_of_length n bytes ≡ Body body rest
body_at n bytes body rest e is = ap (λ (m : ℕ). next_of_length m bytes) (sym is) ∙ ap (next_of_length (length body)) e ∙ whole_body body rest

no_body : (n : ℕ) (bytes : List ℕ) → length bytes < n → next_of_length n bytes ≡ Bad
no_body n bytes h = let short : nat_le n (length bytes) ≡ false = grind (arith, nat_tests) in rw short refl

next_at : (all : List ℕ) → all ≢ [] → next_body all ≡ option_map_or (λ p. next_of_length p.0 p.1) (header_of all) Bad
next_at [] some = absurd (some refl)
next_at (x ∷ xs) some = refl

after_header : (all rest : List ℕ) (n : ℕ) → all ≢ [] → header_of all ≡ Some (n, rest) → next_body all ≡ next_of_length n rest
after_header all rest n some h = next_at all some ∙ ap (λ (o : Option (ℕ × List ℕ)). option_map_or (λ p. next_of_length p.0 p.1) o Bad) h

-- a header was read, and then a body
pub message_read : {A : Type 0} (given mid left : Option (List ℕ)) (n : ℕ) (next : NextBody A) → TakesHeader given mid n → IfSome given (λ all. all ≢ []) → IsBodyRead mid left n next → IsNext given left next
message_read None mid left n next h some b = tt
message_read (Some all) None left n next h some b = absurd h
message_read (Some all) (Some xs) None n (found.Body bytes) h some b = absurd b.0
message_read (Some all) (Some xs) (Some ys) n (found.Body bytes) h some b = after_header all xs n some h ∙ body_at n xs bytes.items ys b.0 b.1
message_read (Some all) (Some xs) None n found.Dropped h some b = absurd b.1
message_read (Some all) (Some xs) (Some ys) n found.Dropped h some b = (b.0, after_header all xs n some h ∙ body_at n xs b.0 ys b.1 b.2)
message_read (Some all) (Some xs) left n found.End h some b = absurd b
message_read (Some all) (Some xs) left n found.Bad h some b = after_header all xs n some h ∙ no_body n xs b

-- no header begins here
pub none_read : (A : Type 0) (given left : Option (List ℕ)) → IfSome given (λ all. header_of all ≡ None) → IfSome given (λ all. all ≢ []) → IsNext {A = A} given left found.Bad
none_read A None left h some = tt
none_read A (Some all) left h some = next_at all some ∙ ap (λ (o : Option (ℕ × List ℕ)). option_map_or (λ p. next_of_length p.0 p.1) o Bad) h

pub end_read : (A : Type 0) (given left : Option (List ℕ)) → IsAtEnd given → IsNext {A = A} given left found.End
end_read A None left e = tt
end_read A (Some all) left e = ap next_body e

-- more bytes were read ahead before
pub next_kept : {A : Type 0} (given mid left : Option (List ℕ)) (next : NextBody A) → Keeps given mid → IsNext mid left next → IsNext given left next
next_kept None mid left next k h = tt
next_kept (Some all) None left next k h = absurd k
next_kept (Some all) (Some xs) left next k h = subst (λ (l : List ℕ). IsNext (Some l) left next) k h

pub some_ahead : (a : List ℕ) (rest : Option (List ℕ)) → a ≢ [] → IfSome (prepend_known a rest) (λ all. all ≢ [])
some_ahead a None h = tt
some_ahead [] (Some xs) h = absurd (h refl)
some_ahead (x ∷ a) (Some xs) h = λ e. cc
