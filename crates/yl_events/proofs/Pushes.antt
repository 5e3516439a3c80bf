-- Goals and events behind those before.
use Rattle.std.specs.Prelude.{◌≡◌, Bool, Option, Some, None, IsSome, List, ◌++◌, reverse}
use Rattle.std.proofs.Common.{sym, ◌∙◌, ap, append_assoc}
use Rattle.yl_events.specs.declared.symbol.Outline.{Outline}
use Rattle.yl_events.specs.declared.symbol.Goal.{Goal}
use Rattle.yl_events.specs.Machine.{Turn, AnswersTaking, turn_before}

-- goals that are put on top of others before a turn are as good as put there with it
pub followed_taken : (t : Option Turn) (under old mid new : List Goal) (taken : Bool) (es fs : List Outline) →
    IsSome t → reverse mid ≡ under ++ reverse old → AnswersTaking t taken mid new es fs → AnswersTaking (turn_before under t) taken old new es fs
followed_taken None under old mid new taken es fs is e h = cc
followed_taken (Some t) under old mid new taken es fs is e h =
    (h.0, h.1 ∙ ap (λ l. t.goals ++ l) e ∙ sym (append_assoc t.goals under (reverse old)), h.2)
