use Rattle.std.proofs.Common.{◌≡◌, ◌++◌, ℕ, List, ap, ◌∙◌}
use Rattle.std.specs.Prelude.{Option}
use Rattle.qc_entry.specs.declared.record.Commit.{Commit}
use Rattle.qc_msg.specs.Vocabulary.{Entry}
use Rattle.qc_promise.specs.Vocabulary.{committed}
use Rattle.qc_text.specs.Vocabulary.{log_text, replies_text, sites_text, states_text}
use Rattle.theory_onecopy.specs.Vocabulary.{replay}
use Rattle.qc_text.proofs.Sections.{sections}
use Rattle.qc_text.proofs.report.text.Goals as goal

pub returns : goal.returns
returns c =
    let decl = c.args.decl.now in
    let commits : c.in_ok-commits.commits.items ≡ committed decl c.args.history.now =
    c.in_ok-commits.ensures ∙ ap (committed decl) c.items-entries.ensures in
    let states = c.in_ok-states.ensures ∙ ap (replay decl) (c.deref.ensures.value ∙ commits) in
    let replies : c.put_replies.new.page ≡ c.new-page.result ++ replies_text decl c.args.script.now c.args.history.now =
    c.in_ok-put_replies.ensures ∙ ap (λ (h : List Entry). c.new-page.result ++ replies_text decl c.args.script.now h)
    c.items-entries.ensures in
    let log : c.put_log.new.page ≡ c.put_replies.new.page ++ log_text decl (committed decl c.args.history.now) =
    c.in_ok-put_log.ensures ∙ ap (λ (cs : List Commit). c.put_replies.new.page ++ log_text decl cs)
    (c.deref-2.ensures.value ∙ commits) in
    let ends : c.put_states.new.page ≡ c.put_log.new.page ++ states_text decl
    (replay decl (committed decl c.args.history.now)) =
    c.in_ok-put_states.ensures ∙ ap (λ (s : Option (List ℕ)). c.put_log.new.page ++ states_text decl s) states in
    let sites : c.put_sites.new.page ≡ c.put_states.new.page ++ sites_text decl c.args.history.now =
    c.in_ok-put_sites.ensures ∙ ap (λ (h : List Entry). c.put_states.new.page ++ sites_text decl h)
    c.items-entries.ensures in
    c.into_bytes.ensures ∙ sections c.new-page.result c.put_replies.new.page c.put_log.new.page c.put_states.new.page
    c.put_sites.new.page _ _ _ _ c.new-page.ensures replies log ends sites
