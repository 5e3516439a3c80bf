use Rattle.std.proofs.Common.{◌∙◌, [], sym}
use Rattle.json.specs.Value.{value_view}
use Rattle.yl_server.specs.Replies.{messages_of}
use Rattle.yl_server.specs.Requests.{changes, closes, notice_with}
use Rattle.yl_server.proofs.Methods.{is_change, is_close, is_none, is_open, is_refresh, is_start}
use Rattle.yl_server.proofs.Noticed.{changes_of_text, closes_of_text, noted_opened, noted_passed, noted_refreshed, noted_started, noted_text}
use Rattle.yl_server.proofs.server.Server.notice_running.Goals as goal

pub returns-then-eq : goal.returns-then-eq
returns-then-eq g c =
    let m = c.args.method.now in
    let j = value_view c.args.params.now in
    noted_opened (notice_with m j) j c.args.self.now c.open.new.self (messages_of c.open.new.self c.open.result) (is_open m j (sym c.eq.ensures ∙ c.if-eq.true)) c.open.ensures

pub returns-then-eq-2 : goal.returns-then-eq-2
returns-then-eq-2 g c =
    let m = c.args.method.now in
    let j = value_view c.args.params.now in
    noted_text (notice_with m j) (changes j) c.args.self.now c.change.new.self (messages_of c.change.new.self c.change.result) (is_change m j (sym c.eq.ensures ∙ c.if-eq.false) (sym c.eq-2.ensures ∙ c.if-eq-2.true)) (changes_of_text j)
    c.change.ensures

pub returns-then-eq-3 : goal.returns-then-eq-3
returns-then-eq-3 g c =
    let m = c.args.method.now in
    let j = value_view c.args.params.now in
    noted_text (notice_with m j) (closes j) c.args.self.now c.close.new.self (messages_of c.close.new.self c.close.result)
    (is_close m j (sym c.eq.ensures ∙ c.if-eq.false) (sym c.eq-2.ensures ∙ c.if-eq-2.false) (sym c.eq-3.ensures ∙ c.if-eq-3.true)) (closes_of_text j) ([], λ e h. c.close.ensures e)

pub returns-then-eq-5 : goal.returns-then-eq-5
returns-then-eq-5 g c =
    let m = c.args.method.now in
    let j = value_view c.args.params.now in
    noted_started (notice_with m j) c.args.self.now (messages_of c.args.self.now c.start.result)
    (is_start m j (sym c.eq.ensures ∙ c.if-eq.false) (sym c.eq-2.ensures ∙ c.if-eq-2.false) (sym c.eq-3.ensures ∙ c.if-eq-3.false) (sym c.eq-4.ensures ∙ c.if-eq-4.false) (sym c.eq-5.ensures ∙ c.if-eq-5.true)) (λ e. c.start.ensures e)

pub returns-then-tells_of_files : goal.returns-then-tells_of_files
returns-then-tells_of_files g c =
    let m = c.args.method.now in
    let j = value_view c.args.params.now in
    noted_refreshed (notice_with m j) c.args.self.now c.refresh_by.new.self (messages_of c.refresh_by.new.self c.refresh_by.result)
    (is_refresh m j (sym c.eq.ensures ∙ c.if-eq.false) (sym c.eq-2.ensures ∙ c.if-eq-2.false) (sym c.eq-3.ensures ∙ c.if-eq-3.false) (sym c.eq-4.ensures ∙ c.if-eq-4.false) (sym c.eq-5.ensures ∙ c.if-eq-5.false)
    (sym c.tells_of_files.ensures ∙ c.if-tells_of_files.true)) c.refresh_by.ensures

pub returns : goal.returns
returns g c =
    let m = c.args.method.now in
    let j = value_view c.args.params.now in
    noted_passed (notice_with m j) c.args.self.now
    (is_none m j (sym c.eq.ensures ∙ c.if-eq.false) (sym c.eq-2.ensures ∙ c.if-eq-2.false) (sym c.eq-3.ensures ∙ c.if-eq-3.false) (sym c.eq-4.ensures ∙ c.if-eq-4.false) (sym c.eq-5.ensures ∙ c.if-eq-5.false)
    (sym c.tells_of_files.ensures ∙ c.if-tells_of_files.false))
