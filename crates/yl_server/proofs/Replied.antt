-- What is written of one message.
use Rattle.std.proofs.Common.{◌≡◌, ℕ, true, false, List, [], ◌∷◌, Option, None, Some, IfSome, Result, Ok, Err, refl, sym, ap, ◌∙◌}
use Rattle.std.specs.Prelude.{OnOk, IfErr, codes}
use Rattle.std.specs.Option.{is_none, option_map_or}
use Rattle.std.specs.Io.KnownBytes.{Appends}
use Rattle.json.specs.Json.{Json, null}
use Rattle.json.specs.Print.{print_from}
use Rattle.yl_text.specs.Lines.{RowValue, lines_of}
use Rattle.yl_text.proofs.Computed.{lines_of-is}
use Rattle.yl_report.specs.Report.{ProblemValue}
use Rattle.yl_frames.specs.Frames.{framed}
use Rattle.yl_frames.specs.Sending.{Sink, IsSendFault}
use Rattle.yl_frames.specs.declared.output.SendFault.{SendFault}
use Rattle.yl_workspace.specs.Computed.{ReportIsComputed, report}
use Rattle.yl_workspace.specs.report_laws.{OneReport}
use Rattle.yl_workspace.proofs.Reported.{same_report}
use Rattle.yl_rpc.specs.Answers.{answer, answer_text, json_text}
use Rattle.yl_rpc.specs.Calls.{IdValue}
use Rattle.yl_lsp.specs.declared.presentation.Presentation.{Presentation}
use Rattle.yl_lsp.specs.Diagnostics.{DiagnosticValue}
use Rattle.yl_lsp.specs.Messages.{publication}
use Rattle.yl_lsp.specs.Reports.{ReportValue, lost_diagnostics, report_diagnostics}
use Rattle.yl_config.specs.declared.config.Config.{Config}
use Rattle.yl_workspace.specs.State.{SessionValue, Shows}
use Rattle.yl_workspace.specs.declared.cause.Cause.{Cause}
use Rattle.yl_workspace.specs.Changes.{TextValue, Followed, Lost}
use Rattle.yl_workspace.specs.Documents.{DocumentValue, document_at}
use Rattle.yl_workspace.specs.Shown.{IsFollowed}
use Rattle.yl_server.specs.Messages.{MessageValue, Published, Shown, Cleared}
use Rattle.yl_server.specs.Machine.{ServerValue, told_of}
use Rattle.yl_server.specs.Steps.{AreCut, AreSent}
use Rattle.yl_server.specs.Written.{document_diagnostics, lost_words, text_diagnostics}
use Rattle.yl_server.proofs.Sending.{one_cut, one_sent, text_of}

-- ---- outcomes

pub on_ok_both : {T E A B C : Type 0} (r : Result T E) → (A → B → C) → OnOk r A → OnOk r B → OnOk r C
on_ok_both (Ok x) f a b = f a b
on_ok_both (Err e) f a b = tt

pub on_ok_map : {T E A B : Type 0} (r : Result T E) → (A → B) → OnOk r A → OnOk r B
on_ok_map (Ok x) f a = f a
on_ok_map (Err e) f a = tt

pub if_err_map : {T E : Type 0} (A B : E → Type 0) (r : Result T E) → ((e : E) → A e → B e) → IfErr r A → IfErr r B
if_err_map A B (Ok x) f a = tt
if_err_map A B (Err e) f a = f e a

pub sent_one : {T E : Type 0} (r : Result T E) (d : Sink) (m : MessageValue) (body : List ℕ) → body ≡ text_of m → OnOk r (Appends d.before d.now (framed body)) → OnOk r (d.failures_now ≡ d.failures_before) → OnOk r (AreSent d (m ∷ []))
sent_one r d m body e h q = on_ok_both r (one_sent d m body e) h q

pub stopped_one : {T : Type 0} (r : Result T SendFault) (d : Sink) (m : MessageValue) (body : List ℕ) → body ≡ text_of m → IfErr r (IsSendFault d body) → IfErr r (AreCut d (m ∷ []))
stopped_one r d m body e h = if_err_map (IsSendFault d body) (AreCut d (m ∷ [])) r (λ f x. one_cut d m body f e x) h

-- ---- answers

pub answered_text : (a i : IdValue) (text : List ℕ) (j : Json) → a ≡ i → text ≡ json_text j → ((k : Json) → text ≡ json_text k → answer_text a text ≡ json_text (answer a k)) → answer_text a text ≡ json_text (answer i j)
answered_text a i text j e f h = h j f ∙ ap (λ x. json_text (answer x j)) e

pub null_written : codes "null" ≡ json_text null
unfolding print_from
null_written = refl

-- ---- documents

pub report_value : (r : ReportValue) (h how : Presentation) (p rows : List RowValue) (q problems : List ProblemValue) → r ≡ record { how = h; rows = p; problems = q } → h ≡ how → p ≡ rows → q ≡ problems
    → r ≡ record { how = how; rows = rows; problems = problems }
report_value r h how p rows q problems e a b c =
    e ∙ (ap (λ (x : Presentation). record { how = x; rows = p; problems = q }) a
    ∙ (ap (λ (x : List RowValue). record { how = how; rows = x; problems = q }) b
    ∙ ap (λ (x : List ProblemValue). record { how = how; rows = rows; problems = x }) c))

-- the session of a document shows its report
session_shown : OneReport → ReportIsComputed → (how : Presentation) (config : Config) (text : List ℕ) (s : SessionValue) (r : ReportValue) → Shows config text s → r ≡ record { how = how; rows = s.rows; problems = s.problems }
    → report_diagnostics r ≡ text_diagnostics report how config (Followed text)
session_shown one computed how config text s r h e =
    let rows : lines_of text ≡ s.rows = lines_of-is text s.rows h.lines in
    let problems : s.problems ≡ report config (lines_of text) = same_report one computed config s.rows s.problems h.problems ∙ ap (report config) (sym rows) in
    ap report_diagnostics e
    ∙ (ap (λ (ps : List RowValue). report_diagnostics (record { how = how; rows = ps; problems = s.problems })) (sym rows)
    ∙ ap (λ (ps : List ProblemValue). report_diagnostics (record { how = how; rows = lines_of text; problems = ps })) problems)

shown_by : OneReport → ReportIsComputed → (how : Presentation) (config : Option Config) (text : List ℕ) (s : SessionValue) (r : ReportValue) → is_none config ≡ false → IfSome config (λ c. Shows c text s)
    → r ≡ record { how = how; rows = s.rows; problems = s.problems } → report_diagnostics r ≡ option_map_or (λ c. text_diagnostics report how c (Followed text)) config []
shown_by one computed how None text s r n h e = cc
shown_by one computed how (Some c) text s r n h e = session_shown one computed how c text s r h e

pub followed_shown : OneReport → ReportIsComputed → (how : Presentation) (d : DocumentValue) (s : SessionValue) (r : ReportValue) → is_none d.config ≡ false → IsFollowed d s
    → r ≡ record { how = how; rows = s.rows; problems = s.problems } → report_diagnostics r ≡ document_diagnostics report how d
followed_shown one computed how d s r n h e =
    shown_by one computed how d.config h.text s r n h.shown e ∙ ap (λ (t : TextValue). option_map_or (λ c. text_diagnostics report how c t) d.config []) (sym h.followed)

lost_by : (how : Presentation) (config : Option Config) (cause : Cause) → is_none config ≡ false → lost_diagnostics (lost_words cause) ≡ option_map_or (λ c. text_diagnostics report how c (Lost cause)) config []
lost_by how None cause n = cc
lost_by how (Some c) cause n = refl

-- why its text is not followed
pub lost_shown : (how : Presentation) (d : DocumentValue) (cause : Cause) → is_none d.config ≡ false → d.text ≡ Lost cause → lost_diagnostics (lost_words cause) ≡ document_diagnostics report how d
lost_shown how d cause n h = lost_by how d.config cause n ∙ ap (λ (t : TextValue). option_map_or (λ c. text_diagnostics report how c t) d.config []) (sym h)

-- of one that is ignored nothing is shown
pub ignored_shown : (how : Presentation) (d : DocumentValue) → is_none d.config ≡ true → [] ≡ document_diagnostics report how d
ignored_shown how d h = ignored_by d.config h
  where
    ignored_by : (config : Option Config) → is_none config ≡ true → [] ≡ option_map_or (λ c. text_diagnostics report how c d.text) config []
    ignored_by None n = refl
    ignored_by (Some c) n = cc

-- of a document that is not open nothing is shown
pub told_none : (uri : List ℕ) (s : ServerValue) → None ≡ document_at uri s.documents → json_text (publication (record { uri = uri; version = None; diagnostics = [] })) ≡ text_of (told_of uri s)
told_none uri s h = ap (λ (o : Option DocumentValue). text_of (Published uri (option_map_or (Shown s.how) o Cleared))) h

-- a document as it is shown
pub shown_text : (uri : List ℕ) (how : Presentation) (d : DocumentValue) (version : List ℕ) (ds : List DiagnosticValue) → version ≡ d.version → ds ≡ document_diagnostics report how d
    → json_text (publication (record { uri = uri; version = Some version; diagnostics = ds })) ≡ text_of (Published uri (Shown how d))
shown_text uri how d version ds e f =
    ap (λ (v : List ℕ). json_text (publication (record { uri = uri; version = Some v; diagnostics = ds }))) e
    ∙ ap (λ (xs : List DiagnosticValue). json_text (publication (record { uri = uri; version = Some d.version; diagnostics = xs }))) f
