-- A text of which a beginning went out.
use Rattle.std.proofs.Common.{◌≡◌, ℕ, List, [], ◌++◌, refl, sym, ap, subst, ◌∙◌, append_assoc}
use Rattle.std.specs.Prelude.{Option}
use Rattle.std.specs.Io.KnownBytes.{Appends}
use Rattle.std.proofs.KnownBytes.{Appends-nil, Appends-trans}
use Rattle.std.proofs.lemmas.List.{append-nil}
use Rattle.yl_dump.specs.Writing.{Leaves}

-- nothing of it went out
pub leaves_none : (a : Option (List ℕ)) (text : List ℕ) → Leaves a a text text
leaves_none a text = record { out = []; whole = refl; appends = Appends-nil a }

-- all of it went out
pub leaves_all : (a b : Option (List ℕ)) (text : List ℕ) → Appends a b text → Leaves a b text []
leaves_all a b text h = record { out = text; whole = sym (append-nil text); appends = h }

pub leaves_same : (a b : Option (List ℕ)) (text waits next : List ℕ) → Leaves a b text waits → waits ≡ next → Leaves a b text next
leaves_same a b text waits next h e = record { out = h.out; whole = h.whole ∙ ap (λ (t : List ℕ). h.out ++ t) e; appends = h.appends }

pub leaves_of : (a b : Option (List ℕ)) (text whole waits : List ℕ) → text ≡ whole → Leaves a b text waits → Leaves a b whole waits
leaves_of a b text whole waits e h = record { out = h.out; whole = sym e ∙ h.whole; appends = h.appends }

-- more of it went out
pub leaves_more : (a b c : Option (List ℕ)) (text waits rest : List ℕ) → Leaves a b text waits → Leaves b c waits rest → Leaves a c text rest
leaves_more a b c text waits rest h k = record {
  out = h.out ++ k.out;
  whole = h.whole ∙ ap (λ (t : List ℕ). h.out ++ t) k.whole ∙ sym (append_assoc h.out k.out rest);
  appends = Appends-trans a b c h.out k.out h.appends k.appends;
}

-- behind what waits there is more
pub leaves_behind : (a b : Option (List ℕ)) (text waits more : List ℕ) → Leaves a b text waits → Leaves a b (text ++ more) (waits ++ more)
leaves_behind a b text waits more h = record {
  out = h.out;
  whole = ap (λ (t : List ℕ). t ++ more) h.whole ∙ append_assoc h.out waits more;
  appends = h.appends;
}

-- what waited went out
pub leaves_end : (a b c : Option (List ℕ)) (text waits : List ℕ) → Leaves a b text waits → Appends b c waits → Appends a c text
leaves_end a b c text waits h k = subst (λ (t : List ℕ). Appends a c t) (sym h.whole) (Appends-trans a b c h.out waits h.appends k)

-- more was printed, and some of that went out
pub leaves_next : (a b c : Option (List ℕ)) (text page left mid new next : List ℕ) → Leaves a b text (page ++ left) → mid ++ next ≡ page ++ left → Leaves b c mid new → Leaves a c text (new ++ next)
leaves_next a b c text page left mid new next h e k =
    leaves_more a b c text (mid ++ next) (new ++ next) (leaves_same a b text (page ++ left) (mid ++ next) h (sym e)) (leaves_behind b c mid new next k)
