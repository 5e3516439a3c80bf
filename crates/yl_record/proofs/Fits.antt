-- A scanner's step, and the records that it fits.
use Rattle.std.proofs.Common.{◌≡◌, ℕ, ◌+◌, ◌-◌, ◌^◌, ◌≤◌, ◌<◌, ◌⊎◌, inl, inr, Bool, true, false, cond, ◌||◌, List, [], ◌∷◌, ◌++◌, length, map, take, drop, Option, Some, None, refl, ap, sym, subst, ◌∙◌, arith}
use Rattle.std.specs.Prelude.{IsSome, is_some, option_map, slice_get}
use Rattle.std.specs.Option.{ForSome}
use Rattle.std.proofs.lemmas.List.{drop-map, length-drop, length-map, length-take-le}
use Rattle.yl_lexeme.specs.Lexeme.{LexemeValue}
use Rattle.yl_row.specs.declared.fault.PlacedScanFault.{PlacedScanFault}
use Rattle.yl_row.specs.Entries.{RowEntry, LineStateValue, Stopped, Stands}
use Rattle.yl_scan.specs.declared.step.LexemeAbove.{LexemeAbove}
use Rattle.yl_scan.specs.declared.step.FaultAbove.{FaultAbove}
use Rattle.yl_scan.specs.declared.step.Step.{Step}
use Rattle.yl_scan.specs.Output.{ScanOutput, StepValue, output_with_step, silent_step}
use Rattle.yl_scan.specs.Remaining.{PhaseValue, remaining_output}
use Rattle.yl_scan.specs.Resume.{phase_at}
use Rattle.yl_scan.specs.Scanner.{EndsOpen, ScannerValue, IsInOrder, begun_at, is_halted}
use Rattle.yl_scan.specs.Step.{BeginsInText, IsAbove, IsNotBelow, at_end, fault_above_at, lexeme_above_at, step_value}
use Rattle.yl_record.specs.Parts.{LiesIn, entries_in, entries_with_step, entry_of_step, with_lexeme_above, with_state}
use Rattle.yl_record.specs.Records.{RecordValue}
use Rattle.yl_record.specs.Recorded.{RecorderValue, if_wanted, recorded, recorded_of}
use Rattle.yl_record.proofs.Joined.{complete_recorded, gone_recorded, sound_complete}
use Rattle.yl_record.specs.Recorder.{IsOpenSince, IsRecording, KeepsStep, complete_before, complete_count, state_in}
use Rattle.yl_record.proofs.Cutting.{AreComplete, count_complete, kept_dropped}
use Rattle.yl_record.proofs.Steps.{FitsFault, IsOpen, IsStep, step_fault_fits}
use Rattle.yl_record.proofs.Keeping.{end_place, row_kept}

above_of : {A : Type 0} (line : ℕ) (begun : Option ℕ) (o : Option (LexemeAbove A)) → ForSome o (λ e. begun ≡ Some (line - e.ago)) → (p : ℕ × LexemeValue) → option_map (lexeme_above_at line) o ≡ Some p → begun ≡ Some p.0
above_of line begun None h p is = cc
above_of {A} line begun (Some e) h p is =
    let same : lexeme_above_at line e ≡ p = cc in
    h e refl ∙ ap (λ (q : ℕ × LexemeValue). Some q.0) same

fault_is : (line : ℕ) (o : Option FaultAbove) (p : ℕ × PlacedScanFault) → option_map (fault_above_at line) o ≡ Some p → p.0 ≤ line
fault_is line None p is = cc
fault_is line (Some f) p is =
    let same : fault_above_at line f ≡ p = cc in
    let at : line - f.ago ≡ p.0 = ap (λ (q : ℕ × PlacedScanFault). q.0) same in
    omega (arith, at)

some_kept : {A B : Type 0} (f : A → B) (o : Option A) → is_some o ≡ is_some (option_map f o)
some_kept f None = refl
some_kept f (Some x) = refl

order_of : {A : Type 0} (line : ℕ) (stand stand' : PhaseValue) (step : Step A) (s : LineStateValue) → IsInOrder line (begun_at stand) (begun_at stand') step
    → ForSome (begun_at stand') (λ b. b ≡ line) ⊎ ((step_value line s step ≡ silent_step) × (begun_at stand' ≡ begun_at stand))
order_of line stand stand' step s h = by_case h.next
  where
    by_case : ForSome (begun_at stand') (λ b. b ≡ line) ⊎ (((s : LineStateValue) → step_value line s step ≡ silent_step) × (begun_at stand' ≡ begun_at stand))
        → ForSome (begun_at stand') (λ b. b ≡ line) ⊎ ((step_value line s step ≡ silent_step) × (begun_at stand' ≡ begun_at stand))
    by_case (inl k) = inl k
    by_case (inr k) = inr (k.0 s, k.1)

-- what a scanner's clauses say of a step
pub step_is : {A : Type 0} (line line' : ℕ) (stand stand' : PhaseValue) (row : List ℕ) (step : Step A) (s : LineStateValue)
    → line' ≡ line + 1 → ((rows : List (List ℕ)) → remaining_output line stand (row ∷ rows) ≡ output_with_step line (step_value line s step) (remaining_output line' stand' rows))
    → IsInOrder line (begun_at stand) (begun_at stand') step → is_halted stand' ≡ (is_halted stand || is_some step.failed) → IsStep line stand stand' row (step_value line s step)
step_is line line' stand stand' row step s at told order halts =
    record {
      told = λ rows. told rows ∙ ap (λ n. output_with_step line (step_value line s step) (remaining_output n stand' rows)) at;
      above = above_of line (begun_at stand) step.ended order.above;
      next = order_of line stand stand' step s order;
      halts = halts ∙ ap (λ b. is_halted stand || b) (some_kept (fault_above_at line) step.failed);
      fault = fault_is line step.failed;
    }

-- where what began above lies
pub ended_lies : {A : Type 0} (rs : List RecordValue) (taken line : ℕ) (states : Bool) (stand : PhaseValue) (step : Step A) → IsRecording (entries_in rs) taken states stand → EndsOpen line (begun_at stand) step
    → ForSome step.ended (IsAbove line) → ForSome step.ended (λ e. LiesIn taken (length rs) line e.ago)
ended_lies rs taken line states stand step r ends above = λ e is.
    let since = r.open_since (line - e.ago) (ends e is) in
    let ago = above e is in
    let least = since.least in
    let most = since.most in
    let same : length (entries_in rs) ≡ length rs = length-map rs (λ r. r.entry) in
    (omega (arith, ago, least), omega (arith, ago, most, same))

pub failed_lies : {A : Type 0} (rs : List RecordValue) (taken line : ℕ) (states : Bool) (stand stand' : PhaseValue) (row : List ℕ) (step : Step A) (s : LineStateValue) → line ≡ taken + length rs
    → IsRecording (entries_in rs) taken states stand → IsStep line stand stand' row (step_value line s step) → ForSome step.failed (IsNotBelow line) → ForSome step.failed (λ f. LiesIn taken (length rs + 1) line f.ago)
failed_lies rs taken line states stand stand' row step s at r is_step below = λ f is.
    let same : length (entries_in rs) ≡ length rs = length-map rs (λ r. r.entry) in
    let t = step_value line s step in
    let fits = step_fault_fits (entries_in rs) taken line stand stand' row t (entry_of_step (with_state None t)) (at ∙ ap (λ n. taken + n) (sym same)) refl r.open_since r.faultless is_step in
    let least = (fits (fault_above_at line f) (ap (option_map (fault_above_at line)) is)).0 in
    let ago = below f is in
    (omega (arith, ago, least), omega (arith, ago, at))

pub end_failed_lies : {A : Type 0} (rs : List RecordValue) (taken line : ℕ) (states : Bool) (stand : PhaseValue) (step : Step A) (s : LineStateValue) → line ≡ taken + length rs
    → IsRecording (entries_in rs) taken states stand → remaining_output line stand [] ≡ at_end (step_value line s step) → ForSome step.failed (IsNotBelow line) → ForSome step.failed (λ f. LiesIn taken (length rs) line f.ago)
end_failed_lies rs taken line states stand step s at r ends below = λ f is.
    let same : length (entries_in rs) ≡ length rs = length-map rs (λ r. r.entry) in
    let since = r.open_since (line - f.ago) (end_place line stand (step_value line s step) (fault_above_at line f) ends (ap (option_map (fault_above_at line)) is)) in
    let least = since.least in
    let most = since.most in
    let ago = below f is in
    (omega (arith, ago, least), omega (arith, ago, most, same))

pub end_above : {A : Type 0} (line : ℕ) (stand : PhaseValue) (step : Step A) (s : LineStateValue) → EndsOpen line (begun_at stand) step → (p : ℕ × LexemeValue) → (step_value line s step).above ≡ Some p → begun_at stand ≡ Some p.0
end_above line stand step s ends = above_of line (begun_at stand) step.ended ends

-- the records stay in step with their scanner
pub keeps_on : (rs rs' : List RecordValue) (taken : ℕ) (s s' : ScannerValue) (row : List ℕ) (t : StepValue) → KeepsStep rs taken s → IsStep s.line s.stand s'.stand row t → s'.line ≡ s.line + 1 → s'.states ≡ s.states → s.line < 2 ^ 32 - 1
    → length rs' ≡ length rs + 1 → entries_in rs' ≡ entries_with_step taken (with_state (cond s.states t.state None) t) (entries_in rs) → KeepsStep rs' taken s'
keeps_on rs rs' taken s s' row t k step line states few count entries =
    let same : length (entries_in rs) ≡ length rs = length-map rs (λ r. r.entry) in
    record {
      line = omega (arith, line, count, k.line);
      few = omega (arith, line, few);
      kept =
          subst (λ b. IsRecording (entries_in rs') taken b s'.stand) (sym states)
          (subst (λ es. IsRecording es taken s.states s'.stand) (sym entries) (row_kept (entries_in rs) taken s.line s.states s.stand s'.stand row t (k.line ∙ ap (λ n. taken + n) (sym same)) k.kept step));
    }

-- all that the clauses of a scanner and of `add_row` say of a row
pub row_entries : {A : Type 0} (rs rs' : List RecordValue) (taken line line' : ℕ) (states : Bool) (step : Step A) (s : LineStateValue) → line ≡ line' → step.state ≡ cond states (step_value line' s step).state None
    → entries_in rs' ≡ entries_with_step taken (with_state step.state (step_value line s step)) (entries_in rs)
    → entries_in rs' ≡ entries_with_step taken (with_state (cond states (step_value line' s step).state None) (step_value line' s step)) (entries_in rs)
row_entries rs rs' taken line line' states step s at state h =
    h ∙ ap (λ n. entries_with_step taken (with_state step.state (step_value n s step)) (entries_in rs)) at ∙ ap (λ x. entries_with_step taken (with_state x (step_value line' s step)) (entries_in rs)) state

-- ---- complete records

pub kept_complete : (k : ℕ) (rs : List RecordValue) (taken : ℕ) (s : ScannerValue) → KeepsStep rs taken s → k ≤ complete_before (length rs) taken (begun_at s.stand) → AreComplete k (entries_in rs) taken s.stand
kept_complete k rs taken s h le =
    count_complete k (entries_in rs) taken s.states s.stand h.kept (subst (λ n. k ≤ complete_before n taken (begun_at s.stand)) (sym (length-map rs (λ r. r.entry))) le)

pub complete_within : (k : ℕ) (rs : List RecordValue) (taken : ℕ) (s : ScannerValue) → KeepsStep rs taken s → k ≤ complete_before (length rs) taken (begun_at s.stand) → k ≤ length rs
complete_within k rs taken s h le = subst (λ n. k ≤ n) (length-map rs (λ r. r.entry)) (kept_complete k rs taken s h le).0

pub kept_rest : (k : ℕ) (rs : List RecordValue) (taken : ℕ) (s : ScannerValue) → KeepsStep rs taken s → k ≤ complete_before (length rs) taken (begun_at s.stand) → KeepsStep (drop k rs) (taken + k) s
kept_rest k rs taken s h le =
    let within = complete_within k rs taken s h le in
    record {
      line = omega (arith, within, h.line, length-drop k rs);
      few = h.few;
      kept =
          subst (λ es. IsRecording es (taken + k) s.states s.stand) (drop-map (λ (r : RecordValue). r.entry) k rs)
          (kept_dropped k (entries_in rs) taken s.states s.stand (kept_complete k rs taken s h le) h.kept);
    }

-- ---- where a recorder begins

pub keeps_none : (rs : List RecordValue) (s : ScannerValue) → rs ≡ [] → s.line ≡ 0 → begun_at s.stand ≡ None → KeepsStep rs 0 s
keeps_none rs s none line fresh =
    subst (λ xs. KeepsStep xs 0 s) (sym none)
    (record {
      line = line;
      few = omega (arith, line);
      kept = record { open_since = λ b is. absurd (never b (sym fresh ∙ is)); once = tt; faultless = λ h. tt; wanted = none_wanted s.states };
    })
  where
    never : (b : ℕ) → ◌≡◌ {A = Option ℕ} None (Some b) → ⊥
    never b h = cc

    none_wanted : (states : Bool) → if_wanted states [] ≡ []
    none_wanted true = refl
    none_wanted false = refl

pub fresh_at : (state : LineStateValue) → begun_at (phase_at state) ≡ None
fresh_at Stopped = refl
fresh_at (Stands levels brackets last) = refl

-- ---- what a recorder shows, by its fields

abbrev pub shown : List RecordValue → ℕ → ScannerValue → Bool → RecorderValue
shown rs taken s refused = record { records = rs; taken = taken; stand = s.stand; states = s.states; refused = refused }

pub few_left : (v : RecorderValue) (rs : List RecordValue) (taken : ℕ) (s : ScannerValue) (b : Bool) → shown rs taken s b ≡ v → b ≡ false → KeepsStep rs taken s
    → (v.refused ≡ false → v.taken + length v.records < 2 ^ 32 - 1) → s.line < 2 ^ 32 - 1
few_left v rs taken s b is whole k few =
    let here : b ≡ false → taken + length rs < 2 ^ 32 - 1 = subst (λ (w : RecorderValue). w.refused ≡ false → w.taken + length w.records < 2 ^ 32 - 1) (sym is) few in
    let less = here whole in
    omega (arith, less, k.line)

pub cut_recorded : (v : RecorderValue) (rs out : List RecordValue) (taken : ℕ) (s : ScannerValue) (b : Bool) → shown rs taken s b ≡ v → KeepsStep rs taken s
    → IsSome (state_in (slice_get v.records (length v.records - 1))) → out ≡ take (length rs - 1) rs → (rows : List (List ℕ)) → out ≡ take (length v.records - 1) (recorded v rows)
cut_recorded v rs out taken s b is k sound at rows =
    let last : IsSome (state_in (slice_get rs (length rs - 1))) = subst (λ (w : RecorderValue). IsSome (state_in (slice_get w.records (length w.records - 1)))) (sym is) sound in
    at ∙ complete_recorded (length rs - 1) rs taken s.states s.stand rows (sound_complete rs taken s.states s.stand k.kept last) k.kept
    ∙ ap (λ (w : RecorderValue). take (length w.records - 1) (recorded w rows)) is

pub complete_long : (rs xs : List RecordValue) (n taken : ℕ) (s : ScannerValue) → KeepsStep rs taken s → n ≡ complete_before (length rs) taken (begun_at s.stand) → xs ≡ rs → length (take n xs) ≡ n
complete_long rs xs n taken s k count same =
    let le : n ≤ complete_before (length rs) taken (begun_at s.stand) = subst (λ m. n ≤ m) count (omega arith) in
    let within = complete_within n rs taken s k le in
    length-take-le n xs (subst (λ ys. n ≤ length ys) (sym same) within)

pub complete_counted : (v : RecorderValue) (rs xs : List RecordValue) (n taken : ℕ) (s : ScannerValue) (b : Bool) → shown rs taken s b ≡ v → KeepsStep rs taken s
    → n ≡ complete_before (length rs) taken (begun_at s.stand) → xs ≡ rs → length (take n xs) ≡ complete_count v
complete_counted v rs xs n taken s b is k count same = complete_long rs xs n taken s k count same ∙ count ∙ ap complete_count is

pub complete_told : (v : RecorderValue) (rs xs : List RecordValue) (n taken : ℕ) (s : ScannerValue) (b : Bool) → shown rs taken s b ≡ v → KeepsStep rs taken s
    → n ≡ complete_before (length rs) taken (begun_at s.stand) → xs ≡ rs → (rows : List (List ℕ)) → take n xs ≡ take (length (take n xs)) (recorded v rows)
complete_told v rs xs n taken s b is k count same rows =
    let le : n ≤ complete_before (length rs) taken (begun_at s.stand) = subst (λ m. n ≤ m) count (omega arith) in
    ap (take n) same ∙ complete_recorded n rs taken s.states s.stand rows (kept_complete n rs taken s k le) k.kept
    ∙ ap (λ (w : RecorderValue). take n (recorded w rows)) is ∙ ap (λ m. take m (recorded v rows)) (sym (complete_long rs xs n taken s k count same))

pub least_count : (v : RecorderValue) (rs : List RecordValue) (count taken : ℕ) (s : ScannerValue) (b : Bool) → shown rs taken s b ≡ v → count ≤ complete_count v → count ≤ complete_before (length rs) taken (begun_at s.stand)
least_count v rs count taken s b is le = subst (λ (w : RecorderValue). count ≤ complete_count w) (sym is) le

pub gone_told : (v : RecorderValue) (rs rs' : List RecordValue) (count taken : ℕ) (s : ScannerValue) (b : Bool) → shown rs taken s b ≡ v → KeepsStep rs taken s → count ≤ complete_count v → rs' ≡ drop count rs
    → (rows : List (List ℕ)) → recorded_of rs' (taken + count) s.states s.stand rows ≡ drop count (recorded v rows)
gone_told v rs rs' count taken s b is k le same rows =
    ap (λ xs. recorded_of xs (taken + count) s.states s.stand rows) same
    ∙ gone_recorded count rs taken s.states s.stand rows (kept_complete count rs taken s k (least_count v rs count taken s b is le))
    ∙ ap (λ (w : RecorderValue). drop count (recorded w rows)) is
