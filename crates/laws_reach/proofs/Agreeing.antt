-- In every run with falls whose records are kept no two final verdicts about one transaction differ.
use Rattle.std.proofs.Common.{◌≡◌, ℕ, Bool, true, List, refl, sym, ap, ◌∙◌, subst}
use Rattle.qc_core.specs.Vocabulary.{IsLawfulWithFalls}
use Rattle.qc_decl.specs.Vocabulary.{IsAccepted}
use Rattle.qc_decl.specs.declared.declaration.Declaration.{Declaration}
use Rattle.qc_entry.specs.declared.record.Commit.{Commit}
use Rattle.qc_msg.specs.declared.message.Outcome.{Outcome}
use Rattle.qc_msg.specs.declared.message.Outcome.TheVariants.{Aborted, Active, Committed}
use Rattle.qc_msg.specs.declared.record.Record.{Record}
use Rattle.qc_msg.specs.Vocabulary.{Entry, mail}
use Rattle.theory_onecopy.specs.Vocabulary.{AreApart}
use Rattle.qc_promise.specs.Vocabulary.{DecisionAgrees, Kept, VerdictAgrees, committed, is_final}
use Rattle.laws_reach.proofs.RunLaws.{committed_apart, decisions_agree_with_committed_through_falls}
use Rattle.qc_script.specs.Vocabulary.{IsScriptFor, RunsWithFalls}
use Rattle.qc_script.specs.declared.script.Script.{Script}
use Rattle.qc_stamp.specs.declared.stamp.Stamp.{Stamp}
use Rattle.qc_stamp.specs.declared.stamp.TxId.{TxId}
use Rattle.laws_reach.specs.Vocabulary.{AgreeOnVerdicts}

-- of one list of records, two verdicts that agree with it are one

one_verdict : (commits : List Commit) → AreApart commits → (tx : TxId) (v w : Outcome) → is_final v ≡ true
    → is_final w ≡ true → VerdictAgrees commits tx v → VerdictAgrees commits tx w → v ≡ w
one_verdict commits apart tx (Committed s) (Committed t) ends too first second =
    let same : first.commit ≡ second.commit =
    apart.transactions first.commit second.commit first.listed second.listed (first.named ∙ sym second.named) in
    ap (λ (x : Stamp). Committed x) (sym first.stamped ∙ ap (λ (c : Commit). c.stamp) same ∙ second.stamped)
one_verdict commits apart tx (Committed s) Aborted ends too first second =
    absurd (second first.commit first.listed first.named)
one_verdict commits apart tx (Committed s) Active ends too first second = absurd (let never : ⊥ = cc in never)
one_verdict commits apart tx Aborted (Committed t) ends too first second =
    absurd (first second.commit second.listed second.named)
one_verdict commits apart tx Aborted Aborted ends too first second = refl
one_verdict commits apart tx Aborted Active ends too first second = absurd (let never : ⊥ = cc in never)
one_verdict commits apart tx Active w ends too first second = absurd (let never : ⊥ = cc in never)

pub sites_are_told_one_verdict_through_falls : (fits : ℕ → List Record → Type 0) (decl : Declaration) (script : Script)
    (h : List Entry) (open_inputs : List Bool) → IsAccepted decl → IsScriptFor decl script
    → RunsWithFalls (IsLawfulWithFalls decl) fits decl script h open_inputs → Kept h
    → AgreeOnVerdicts (mail h)
sites_are_told_one_verdict_through_falls fits decl script h open_inputs accepted sound run kept e f tx v w first second
    says too ends final =
    one_verdict (committed decl h) (committed_apart fits decl script h open_inputs accepted sound run kept) tx v w ends
    final
    (subst (DecisionAgrees (committed decl h)) says
    (decisions_agree_with_committed_through_falls fits decl script h open_inputs accepted sound run kept e first))
    (subst (DecisionAgrees (committed decl h)) too
    (decisions_agree_with_committed_through_falls fits decl script h open_inputs accepted sound run kept f second))
