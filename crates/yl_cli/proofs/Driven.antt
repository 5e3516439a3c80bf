-- A run goes on by one command.
use Rattle.std.proofs.Common.{◌≡◌, ℕ, ◌+◌, ◌-◌, ◌^◌, true, false, List, [], ◌∷◌, ◌++◌, Option, None, Some, IfSome, Result, Ok, Err, inl, inr, refl, sym, ap, ◌∙◌, subst, append-nil, append_assoc, arith, length-append}
use Rattle.std.proofs.KnownBytes.{Appends-trans}
use Rattle.std.specs.Io.KnownBytes.{Appends, IsAtEnd, prepend_known}
use Rattle.std.specs.Prelude.{is_err, OnOk, OnErr, codes}
use Rattle.std.specs.Bool.{then_some}
use Rattle.yl_text.specs.declared.fault.TextFault.{TextFault}
use Rattle.yl_text.specs.Lines.{RowValue, lines_of}
use Rattle.yl_text.specs.Edit.{edited_text}
use Rattle.yl_text.proofs.Computed.{lines_of-is}
use Rattle.yl_config.specs.declared.config.Config.{Config}
use Rattle.yl_devices.specs.Written.{AppendsFront}
use Rattle.yl_session.specs.declared.work.Work.{Work}
use Rattle.yl_session.specs.Runs.{EditValue, AreAnswers, IsAnswer, text_after, text_after_all}
use Rattle.yl_session.specs.State.{SessionValue, Shows}
use Rattle.yl_lint.specs.Computed.{ReportIsComputed, report}
use Rattle.yl_lint.specs.Laws.{OneReport}
use Rattle.yl_lint.proofs.Reported.{reporter, same_report}
use Rattle.yl_report.specs.Report.{status_of}
use Rattle.yl_session.proofs.Goes.{left_by-push, AreAnswers-push}
use Rattle.yl_programs.specs.declared.answer.Flags.{Flags}
use Rattle.yl_cli.specs.Command.{Command, Bad, next_command}
use Rattle.yl_devices.specs.declared.fault.RunFault.{RunFault}
use Rattle.yl_devices.specs.declared.fault.RunFault.TheVariants as fault
use Rattle.yl_check.specs.Run.{Failures}
use Rattle.yl_text.specs.Fault.{IsText}
use Rattle.yl_devices.specs.Text.{IsCommandFault, without_mark}
use Rattle.yl_cli.specs.Drive.{AreCommands, WereRead, text_of_run, replies, reply, shown_lines, IsBegun, IsDriven, IsDriveFault, refusal_name, IsAnswered, IsCut}
use Rattle.yl_cli.specs.Reading.{TakesCommand, IsReply, IsReplyBegun, SoFar}

AreCommands-push : (xs mid rest : List ℕ) (es : List EditValue) (e : EditValue) → AreCommands xs es mid → next_command mid ≡ Command e rest → AreCommands xs (es ++ e ∷ []) rest
AreCommands-push xs mid rest [] e h n = (rest, ap next_command h ∙ n, refl)
AreCommands-push xs mid rest (d ∷ es) e h n = (h.0, h.1, AreCommands-push h.0 mid rest es e h.2 n)

pub WereRead-push : (given mid rest : Option (List ℕ)) (es : List EditValue) (e : EditValue) → WereRead given mid es → TakesCommand mid rest e → WereRead given rest (es ++ e ∷ [])
WereRead-push None mid rest es e h t = tt
WereRead-push (Some xs) None rest es e h t = absurd h
WereRead-push (Some xs) (Some ys) None es e h t = absurd t
WereRead-push (Some xs) (Some ys) (Some zs) es e h t = AreCommands-push xs ys zs es e h t

replies-push : (c : Config) (name : List ℕ) (flags : Flags) (text : List ℕ) (es : List EditValue) (rs : List (Result Work TextFault)) (e : EditValue) (r : Result Work TextFault) → AreAnswers text es rs
    → replies (report c) name flags text (es ++ e ∷ []) (rs ++ r ∷ []) ≡ replies (report c) name flags text es rs ++ reply (report c) name flags (text_after (text_after_all text es rs) e r) r
replies-push c name flags text [] [] e r h = append-nil (reply (report c) name flags (text_after text e r) r)
replies-push c name flags text [] (q ∷ rs) e r h = absurd h
replies-push c name flags text (d ∷ es) [] e r h = absurd h
replies-push c name flags text (d ∷ es) (q ∷ rs) e r h =
    ap (λ l. reply (report c) name flags (text_after text d q) q ++ l) (replies-push c name flags (text_after text d q) es rs e r h.1)
    ∙ sym (append_assoc (reply (report c) name flags (text_after text d q) q) (replies (report c) name flags (text_after text d q) es rs) (reply (report c) name flags (text_after (text_after_all (text_after text d q) es rs) e r) r))

driven-push : (c : Config) (name : List ℕ) (flags : Flags) (text : List ℕ) (es : List EditValue) (rs : List (Result Work TextFault)) (e : EditValue) (r : Result Work TextFault) → AreAnswers text es rs
    → text_of_run (report c) name flags text (es ++ e ∷ []) (rs ++ r ∷ []) ≡ text_of_run (report c) name flags text es rs ++ reply (report c) name flags (text_after (text_after_all text es rs) e r) r
driven-push c name flags text es rs e r h =
    ap (λ l. shown_lines (report c) name flags (lines_of text) None ++ l) (replies-push c name flags text es rs e r h)
    ∙ sym (append_assoc (shown_lines (report c) name flags (lines_of text) None) (replies (report c) name flags text es rs) (reply (report c) name flags (text_after (text_after_all text es rs) e r) r))

read_nothing : (given : Option (List ℕ)) → WereRead given given []
read_nothing None = tt
read_nothing (Some xs) = refl

pub so_far_opened : (c : Config) (name : List ℕ) (flags : Flags) (text : List ℕ) (given before now : Option (List ℕ)) (s : SessionValue) → Shows c text s → Appends before now (shown_lines (report c) name flags (lines_of text) None)
    → SoFar 0 c name flags text given given before now s
so_far_opened c name flags text given before now s h w = record {
  edits = [];
  answers = [];
  counted = refl;
  read = read_nothing given;
  replayed = record { answered = tt; shown = h };
  written = subst (Appends before now) (sym (append-nil (shown_lines (report c) name flags (lines_of text) None))) w;
}

pub so_far_more : (count : ℕ) (c : Config) (name : List ℕ) (flags : Flags) (text : List ℕ) (given mid rest before then now : Option (List ℕ)) (s new : SessionValue) (e : EditValue)
    → (f : SoFar count c name flags text given mid before then s) → TakesCommand mid rest e → IsReply c name flags (text_after_all text f.edits f.answers) e new then now
    → SoFar (count + 1) c name flags text given rest before now new
so_far_more count c name flags text given mid rest before then now s new e f t p = record {
  edits = f.edits ++ e ∷ [];
  answers = f.answers ++ p.answer ∷ [];
  counted = omega (arith, length-append f.edits (e ∷ []), f.counted);
  read = WereRead-push given mid rest f.edits e f.read t;
  replayed = record {
    answered = AreAnswers-push text f.edits f.answers e p.answer f.replayed.answered p.is;
    shown = subst (λ (x : List ℕ). Shows c x new) (sym (left_by-push text f.edits f.answers e p.answer f.replayed.answered)) p.shows;
  };
  written = subst (Appends before now) (sym (driven-push c name flags text f.edits f.answers e p.answer f.replayed.answered))
      (Appends-trans before then now _ _ f.written p.written);
}

pub begun_after : (a b c : Option (List ℕ)) (xs ys : List ℕ) → Appends a b xs → AppendsFront b c ys → AppendsFront a c (xs ++ ys)
begun_after a b c xs ys p q = record {
  front = xs ++ q.front;
  rest = q.rest;
  whole = ap (λ l. xs ++ l) q.whole ∙ sym (append_assoc xs q.front q.rest);
  appends = Appends-trans a b c xs q.front p q.appends;
}

-- the answer to the next command is begun
pub begun_more : ReportIsComputed → (count : ℕ) (c : Config) (name : List ℕ) (flags : Flags) (text : List ℕ) (given mid rest left before then now : Option (List ℕ)) (s : SessionValue) (e : EditValue)
    → (f : SoFar count c name flags text given mid before then s) → TakesCommand mid rest e → IsReplyBegun c name flags (text_after_all text f.edits f.answers) e then now
    → IsBegun c name flags text (record { given = given; left = left; before = before; now = now })
begun_more computed count c name flags text given mid rest left before then now s e f t p = record {
  reporter = reporter computed c;
  edits = f.edits ++ e ∷ [];
  answers = f.answers ++ p.answer ∷ [];
  place = rest;
  read = WereRead-push given mid rest f.edits e f.read t;
  answered = AreAnswers-push text f.edits f.answers e p.answer f.replayed.answered p.is;
  written = subst (AppendsFront before now) (sym (driven-push c name flags text f.edits f.answers e p.answer f.replayed.answered))
      (begun_after before then now _ _ f.written p.written);
}

-- all that was answered is a beginning
pub begun_so_far : ReportIsComputed → (count : ℕ) (c : Config) (name : List ℕ) (flags : Flags) (text : List ℕ) (given mid left before now : Option (List ℕ)) (s : SessionValue)
    → SoFar count c name flags text given mid before now s → IsBegun c name flags text (record { given = given; left = left; before = before; now = now })
begun_so_far computed count c name flags text given mid left before now s f = record {
  reporter = reporter computed c;
  edits = f.edits;
  answers = f.answers;
  place = mid;
  read = f.read;
  answered = f.replayed.answered;
  written = record { front = text_of_run (report c) name flags text f.edits f.answers; rest = []; whole = sym (append-nil _); appends = f.written };
}

-- nothing but a beginning of the first report is out
pub begun_opened : ReportIsComputed → (c : Config) (name : List ℕ) (flags : Flags) (text : List ℕ) (given left before now : Option (List ℕ)) → AppendsFront before now (shown_lines (report c) name flags (lines_of text) None)
    → IsBegun c name flags text (record { given = given; left = left; before = before; now = now })
begun_opened computed c name flags text given left before now w = record {
  reporter = reporter computed c;
  edits = [];
  answers = [];
  place = given;
  read = read_nothing given;
  answered = tt;
  written = subst (AppendsFront before now) (sym (append-nil (shown_lines (report c) name flags (lines_of text) None))) w;
}

-- ---- one answer

pub on_ok_map : {T E P Q : Type 0} (r : Result T E) → (P → Q) → OnOk r P → OnOk r Q
on_ok_map (Ok x) f p = f p
on_ok_map (Err e) f p = tt

pub on_err_map : {T E P Q : Type 0} (r : Result T E) → (P → Q) → OnErr r P → OnErr r Q
on_err_map (Ok x) f p = tt
on_err_map (Err e) f p = f p

-- a beginning of a text is one of a longer text
pub begun_longer : (a b : Option (List ℕ)) (xs ys : List ℕ) → AppendsFront a b xs → AppendsFront a b (xs ++ ys)
begun_longer a b xs ys p =
    record { front = p.front; rest = p.rest ++ ys; whole = ap (λ l. l ++ ys) p.whole ∙ append_assoc p.front p.rest ys; appends = p.appends }

answered_before : (c : Config) (text : List ℕ) (e : EditValue) (r : Result Work TextFault) (s : SessionValue) → Shows c text s → IsAnswer s.rows e.from e.to e.bytes r → IsAnswer (lines_of text) e.from e.to e.bytes r
answered_before c text e r s h is = let P : List RowValue → Type 0 = λ ps. IsAnswer ps e.from e.to e.bytes r in subst P (sym (lines_of-is text s.rows h.lines)) is

shown_after : (c : Config) (text : List ℕ) (e : EditValue) (s u : SessionValue) → Shows c text s → Shows s.config (edited_text s.rows e.from e.to e.bytes) u → Shows c (edited_text (lines_of text) e.from e.to e.bytes) u
shown_after c text e s u h done =
    let P : List RowValue → Type 0 = λ ps. Shows s.config (edited_text ps e.from e.to e.bytes) u in
    let Q : Config → Type 0 = λ o. Shows o (edited_text (lines_of text) e.from e.to e.bytes) u in
    subst Q h.config (subst P (sym (lines_of-is text s.rows h.lines)) done)

-- what is written of a session is what its text asks for
pub text_shown : (c : Config) (name : List ℕ) (flags : Flags) (text : List ℕ) (s : SessionValue) (scanned : Option ℕ) → Shows c text s → shown_lines (report s.config) name flags s.rows scanned ≡ shown_lines (report c) name flags (lines_of text) scanned
text_shown c name flags text s scanned h =
    ap (λ (o : Config). shown_lines (report o) name flags s.rows scanned) h.config ∙ ap (λ (ps : List RowValue). shown_lines (report c) name flags ps scanned) (sym (lines_of-is text s.rows h.lines))

pub replied : (c : Config) (name : List ℕ) (flags : Flags) (text : List ℕ) (e : EditValue) (s u : SessionValue) (work : Work) (scanned : Option ℕ) (before now : Option (List ℕ)) → Shows c text s
    → IsAnswer s.rows e.from e.to e.bytes (Ok work) → Shows s.config (edited_text s.rows e.from e.to e.bytes) u → scanned ≡ then_some flags.work work.scanned → Appends before now (shown_lines (report u.config) name flags u.rows scanned)
    → IsReply c name flags text e u before now
replied c name flags text e s u work scanned before now h is done asked w =
    let shows = shown_after c text e s u h done in
    record {
      answer = Ok work;
      is = answered_before c text e (Ok work) s h is;
      shows = shows;
      written = subst (Appends before now) (text_shown c name flags (edited_text (lines_of text) e.from e.to e.bytes) u scanned shows ∙ ap (shown_lines (report c) name flags (lines_of (edited_text (lines_of text) e.from e.to e.bytes))) asked) w;
    }

pub reply_begun : (c : Config) (name : List ℕ) (flags : Flags) (text : List ℕ) (e : EditValue) (s u : SessionValue) (work : Work) (scanned : Option ℕ) (before now : Option (List ℕ)) → Shows c text s
    → IsAnswer s.rows e.from e.to e.bytes (Ok work) → Shows s.config (edited_text s.rows e.from e.to e.bytes) u → scanned ≡ then_some flags.work work.scanned → AppendsFront before now (shown_lines (report u.config) name flags u.rows scanned)
    → IsReplyBegun c name flags text e before now
reply_begun c name flags text e s u work scanned before now h is done asked w =
    let shows = shown_after c text e s u h done in
    record {
      answer = Ok work;
      is = answered_before c text e (Ok work) s h is;
      written = subst (AppendsFront before now) (text_shown c name flags (edited_text (lines_of text) e.from e.to e.bytes) u scanned shows ∙ ap (shown_lines (report c) name flags (lines_of (edited_text (lines_of text) e.from e.to e.bytes))) asked) w;
    }

pub refused : (c : Config) (name : List ℕ) (flags : Flags) (text : List ℕ) (e : EditValue) (s u : SessionValue) (fault : TextFault) (before now : Option (List ℕ)) → Shows c text s
    → IsAnswer s.rows e.from e.to e.bytes (Err fault) → u ≡ s → Appends before now (codes "-- refused " ++ refusal_name fault ++ codes "\n") → IsReply c name flags text e u before now
refused c name flags text e s u fault before now h is same w =
    record { answer = Err fault; is = answered_before c text e (Err fault) s h is; shows = subst (Shows c text) (sym same) h; written = w }

pub refusal_begun : (c : Config) (name : List ℕ) (flags : Flags) (text : List ℕ) (e : EditValue) (s : SessionValue) (fault : TextFault) (before now : Option (List ℕ)) → Shows c text s
    → IsAnswer s.rows e.from e.to e.bytes (Err fault) → AppendsFront before now (codes "-- refused " ++ refusal_name fault ++ codes "\n") → IsReplyBegun c name flags text e before now
refusal_begun c name flags text e s fault before now h is w =
    record { answer = Err fault; is = answered_before c text e (Err fault) s h is; written = w }

-- ---- how a run ends

-- what was answered so far
abbrev pub answered_so_far : ReportIsComputed → (count : ℕ) (c : Config) (name : List ℕ) (flags : Flags) (text : List ℕ) (given rest left before now : Option (List ℕ)) (s : SessionValue)
    → SoFar count c name flags text given rest before now s → IsAnswered c name flags text (record { given = given; left = left; before = before; now = now })
answered_so_far computed count c name flags text given rest left before now s so_far = record {
  reporter = reporter computed c;
  edits = so_far.edits;
  answers = so_far.answers;
  place = rest;
  read = so_far.read;
  answered = so_far.replayed.answered;
  written = so_far.written;
}

-- the reading of the next command ended the run
pub stopped : ReportIsComputed → (f : RunFault) (count : ℕ) (c : Config) (name : List ℕ) (flags : Flags) (bytes : List ℕ) (given rest left before now : Option (List ℕ)) (s : SessionValue) (n : Failures)
    → IsText (without_mark bytes) → SoFar count c name flags (without_mark bytes) given rest before now s → IsCommandFault n.reads_before n.reads_after f
    → (f ≡ fault.Command → IfSome rest (λ xs. next_command xs ≡ Bad)) → (f ≡ fault.Read → IsCut rest left)
    → IsDriveFault c name flags bytes n (record { given = given; left = left; before = before; now = now }) f
stopped computed fault.Read count c name flags bytes given rest left before now s n text so_far h bad cut =
    (text, h, (answered_so_far computed count c name flags (without_mark bytes) given rest left before now s so_far, cut refl))
stopped computed fault.Memory count c name flags bytes given rest left before now s n text so_far h bad cut = (text, begun_so_far computed count c name flags (without_mark bytes) given rest left before now s so_far)
stopped computed fault.Command count c name flags bytes given rest left before now s n text so_far h bad cut =
    (text, (answered_so_far computed count c name flags (without_mark bytes) given rest left before now s so_far, inl (bad refl)))
stopped computed fault.Write count c name flags bytes given rest left before now s n text so_far h bad cut = absurd h
stopped computed (fault.Text t) count c name flags bytes given rest left before now s n text so_far h bad cut = absurd h

-- all commands were answered
pub all_driven : OneReport → ReportIsComputed → (count : ℕ) (c : Config) (name : List ℕ) (flags : Flags) (text : List ℕ) (given rest left before now : Option (List ℕ)) (s : SessionValue) (status : ℕ)
    → SoFar count c name flags text given rest before now s → IsAtEnd rest → status ≡ status_of s.problems flags.strict
    → IsDriven c name flags text (record { given = given; left = left; before = before; now = now }) status
all_driven one computed count c name flags text given rest left before now s status so_far end is =
    let shown = so_far.replayed.shown in
    let same : s.problems ≡ report c (lines_of (text_after_all text so_far.edits so_far.answers)) =
    same_report one computed c s.rows s.problems shown.problems ∙ ap (report c) (sym (lines_of-is (text_after_all text so_far.edits so_far.answers) s.rows shown.lines)) in
    record {
      run = answered_so_far computed count c name flags text given rest left before now s so_far;
      is_end = end;
      is_status = is ∙ ap (λ problems. status_of problems flags.strict) same;
    }

-- ---- what an answer says once it is known to be one

pub from_err : {T E P : Type 0} (r : Result T E) → is_err r ≡ true → OnErr r P → P
from_err (Ok x) t h = absurd (false_true t)
  where
    false_true : false ≡ true → ⊥
    false_true e = cc
from_err (Err e) t h = h

pub from_ok : {T E P : Type 0} (r : Result T E) → is_err r ≡ false → OnOk r P → P
from_ok (Ok x) t h = h
from_ok (Err e) t h = absurd (true_false t)
  where
    true_false : true ≡ false → ⊥
    true_false e = cc

-- nothing was read ahead
pub nothing_ahead : (a : List ℕ) (known : Option (List ℕ)) → a ≡ [] → prepend_known a known ≡ known
nothing_ahead a known e = ap (λ (l : List ℕ). prepend_known l known) e ∙ bare known
  where
    bare : (known : Option (List ℕ)) → prepend_known [] known ≡ known
    bare None = refl
    bare (Some xs) = refl
