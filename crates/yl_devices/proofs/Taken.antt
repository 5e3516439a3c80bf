-- Laws of what is taken of bytes that were read ahead.
use Rattle.std.proofs.Common.{◌≡◌, ℕ, List, ◌++◌, Option, None, Some, sym, ap, ◌∙◌, take, drop, append_assoc, take-append-drop}
use Rattle.std.proofs.KnownBytes.{Consumes-trans, Consumes-kept}
use Rattle.std.specs.Io.KnownBytes.{Consumes, Keeps, prepend_known}

-- the first bytes of those read ahead are taken
ahead_taken : (a : List ℕ) (n : ℕ) (rest : Option (List ℕ)) → Consumes (prepend_known a rest) (prepend_known (drop n a) rest) (take n a)
ahead_taken a n None = tt
ahead_taken a n (Some xs) = ap (λ l. l ++ xs) (sym (take-append-drop n a)) ∙ append_assoc (take n a) (drop n a) xs

pub payload_goes_on : (given mid rest : Option (List ℕ)) (bytes new a b : List ℕ) (n : ℕ) → Consumes given mid bytes → Keeps mid (prepend_known a rest) → b ≡ drop n a → new ≡ bytes ++ take n a → Consumes given (prepend_known b rest) new
payload_goes_on given mid rest bytes new a b n c k e is =
    rw (e, is) (Consumes-trans given (prepend_known a rest) (prepend_known (drop n a) rest) bytes (take n a) (Consumes-kept given mid (prepend_known a rest) bytes c k) (ahead_taken a n rest))
