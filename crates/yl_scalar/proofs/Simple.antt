-- Characters of a quoted scalar that stand for themselves.
use Rattle.std.proofs.Common.{◌≡◌, ℕ, suc, ◌+◌, ◌<◌, Bool, true, false, cond, ◌&&◌, List, [], ◌∷◌, ◌++◌, take, drop, length, get_or, refl, ap, ◌∙◌, add-one, drop-cons, append_assoc, eqb}
use Rattle.std.specs.Prelude.{not}
use Rattle.std.proofs.Math.Seq.{take-suc}
use Rattle.yl_text.specs.Character.{is_white}
use Rattle.yl_scalar.specs.Allowed.{is_quoted_character}
use Rattle.yl_scalar.specs.Quoted.{Closes, stretch, quote}

-- one more of them
one_more : (double : Bool) (text : List ℕ) (i c : ℕ) (before : List ℕ) (kept : ℕ) → i < length text → get_or text i 0 ≡ c
    → eqb c (quote double) ≡ false → (double && eqb c 0x5C) ≡ false → is_quoted_character c ≡ true
    → stretch double 0 before kept i (drop i text) ≡ stretch double 0 (before ++ c ∷ []) (cond (is_white c) kept (length before + 1)) (i + 1) (drop (i + 1) text)
one_more double text i c before kept within at no_quote no_escape allowed =
    rw (drop-cons text i 0, at, no_quote, no_escape, allowed, add-one i) refl

-- so the value goes on
longer : (value text : List ℕ) (i c : ℕ) → i < length text → get_or text i 0 ≡ c → (value ++ take i text) ++ c ∷ [] ≡ value ++ take (i + 1) text
longer value text i c within at =
    append_assoc value (take i text) (c ∷ []) ∙ ap (λ xs. value ++ xs) (rw (add-one i, take-suc text i 0 within, at) refl)

pub simple_step : (double : Bool) (text : List ℕ) (i c : ℕ) (value : List ℕ) (kept : ℕ) → i < length text → get_or text i 0 ≡ c
    → eqb c (quote double) ≡ false → (double && eqb c 0x5C) ≡ false → is_quoted_character c ≡ true
    → (stretch double 0 value (length value) 0 text ≡ stretch double 0 (value ++ take i text) kept i (drop i text))
    → (kept : ℕ) × (stretch double 0 value (length value) 0 text ≡ stretch double 0 (value ++ take (i + 1) text) kept (i + 1) (drop (i + 1) text))
simple_step double text i c value kept within at no_quote no_escape allowed so_far =
    let next = cond (is_white c) kept (length (value ++ take i text) + 1) in (
      next,
      so_far ∙ one_more double text i c (value ++ take i text) kept within at no_quote no_escape allowed
          ∙ ap (λ v. stretch double 0 v next (i + 1) (drop (i + 1) text)) (longer value text i c within at),
    )

-- the closing quote behind them
pub closing_step : (double : Bool) (text : List ℕ) (i : ℕ) (before : List ℕ) (kept : ℕ) → i < length text → get_or text i 0 ≡ quote double
    → (not double && eqb (get_or (drop (i + 1) text) 0 0) 0x27) ≡ false
    → stretch double 0 before kept i (drop i text) ≡ Closes before (i + 1)
closing_step true text i before kept within at not_doubled = rw (drop-cons text i 0, at) refl
closing_step false text i before kept within at not_doubled =
    let h : eqb (get_or (drop (suc i) text) 0 0) 0x27 ≡ false = rw (add-one i) at not_doubled in
    rw (drop-cons text i 0, at, h) refl
