-- From one moment to a later one, at which a client has begun the same transaction: it has neither fallen nor risen,
-- and all that it did since was due.
use Rattle.std.proofs.Common.{◌≡◌, ◌-◌, ℕ, Bool, true, List, [], ◌++◌, fold, Some, sym, ap, ◌∙◌, subst, arith}
use Rattle.std.proofs.lemmas.List.Sums.{fold-append}
use Rattle.qc_core.proofs.LivesLaws.{journal}
use Rattle.qc_core.specs.Vocabulary.{AreGivenBack, AreSteady, IsLawfulWithFalls, is_up, journal_after, journal_at}
use Rattle.qc_core.specs.Vocabulary.{up_at}
use Rattle.qc_decl.specs.Vocabulary.{IsAccepted, is_client}
use Rattle.qc_decl.specs.declared.declaration.Declaration.{Declaration}
use Rattle.laws_votes.proofs.Stamps.{client_due, due_behind}
use Rattle.qc_msg.proofs.DeedsGrow.{deeds-append}
use Rattle.qc_msg.specs.Vocabulary.{Deed, Entry, deeds, mail, own}
use Rattle.qc_msg.specs.declared.record.Record.{Record}
use Rattle.laws_votes.proofs.Live.{is_up_now, life_named}
use Rattle.laws_votes.proofs.SameLife.{back_behind, life_of, steady_life}
use Rattle.qc_promise.specs.Vocabulary.{AreDeedsDue, AreRepliesDue, Current, Journal, Kept, account, account_at}
use Rattle.qc_promise.specs.Vocabulary.{journal_of, new_account, no_journal}
use Rattle.qc_script.specs.Vocabulary.{IsScriptFor, RunsWithFalls}
use Rattle.qc_script.specs.declared.script.Script.{Script}
use Rattle.qc_stamp.specs.declared.stamp.TxId.{TxId}
use Rattle.qc_core.proofs.KeptBack.{rises_give_back_journals_where_records_are_kept}

module _ (fits : ℕ → List Record → Type 0) (decl : Declaration) (script : Script) (h : List Entry)
    (open_inputs : List Bool) (accepted : IsAccepted decl) (sound : IsScriptFor decl script)
    (run : RunsWithFalls (IsLawfulWithFalls decl) fits decl script h open_inputs) (kept : Kept h) (a : ℕ)
    (client : is_client decl a ≡ true) (t : Current) (begun : (account decl a h).current ≡ Some t)
    (late : List Entry) (late_inputs : List Bool)
    (late_run : RunsWithFalls (IsLawfulWithFalls decl) fits decl script late late_inputs) (late_kept : Kept late)
    (middle : List Entry) (later : h ++ middle ≡ late)
    (u : Current) (begun_late : (account decl a late).current ≡ Some u) (its : u.tx ≡ t.tx) where
  abbrev since : List Deed
  since = deeds a (mail h) middle

  whole : deeds a [] late ≡ deeds a [] h ++ since
  whole = ap (deeds a []) (sym later) ∙ deeds-append a [] h middle

  pub account_since : account decl a late ≡ fold (account_at decl) (account decl a h) (deeds a (mail h) middle)
  account_since = ap (fold (account_at decl) (new_account (a - decl.sites))) whole
      ∙ fold-append (account_at decl) (new_account (a - decl.sites)) (deeds a [] h) since

  pub since_due : AreDeedsDue decl (account decl a h) (deeds a (mail h) middle)
  since_due = due_behind decl (deeds a [] h) since (new_account (a - decl.sites))
      (subst (AreRepliesDue decl (a - decl.sites)) whole
      (client_due fits decl script late late_inputs accepted sound late_run late_kept a client))

  abbrev j : Journal
  j = journal_after (deeds a [] h)

  still_up : fold up_at true since ≡ true
  still_up =
      ap (λ (b : Bool). fold up_at b since) (sym
      (is_up_now fits decl script h open_inputs accepted sound run kept a client t begun))
      ∙ sym (ap is_up whole ∙ fold-append up_at true (deeds a [] h) since)
      ∙ is_up_now fits decl script late late_inputs accepted sound late_run late_kept a client u begun_late

  journal_then : fold journal_at j since ≡ journal_of (own a late)
  journal_then = sym (ap journal_after whole ∙ fold-append journal_at no_journal (deeds a [] h) since) ∙ journal a late

  same_life : life_of (fold journal_at j since).records ≡ life_of j.records
  same_life =
      ap (λ (x : Journal). life_of x.records) journal_then
      ∙ sym (life_named fits decl script late late_inputs accepted sound late_run late_kept a client u begun_late)
      ∙ ap (λ (x : TxId). x.life) its ∙ life_named fits decl script h open_inputs accepted sound run kept a client t
      begun ∙ ap (λ (x : Journal). life_of x.records) (sym (journal a h))

  pub stays_steady : AreSteady (deeds a (mail h) middle)
  stays_steady = steady_life decl since (account decl a h) j still_up
      (back_behind (deeds a [] h) since no_journal
      (subst (AreGivenBack no_journal) whole (rises_give_back_journals_where_records_are_kept late late_kept a)))
      since_due
      (let same : life_of (fold journal_at j since).records ≡ life_of j.records = same_life in omega arith)
