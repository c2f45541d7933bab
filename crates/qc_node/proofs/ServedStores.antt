-- A cell's store, over the input that it took and over what others did.
use Rattle.std.proofs.Common.{[], ◌≡◌, ℕ, ◌+◌, ◌^◌, ◌<◌, ◌≤◌, Bool, List, ◌∷◌, ◌++◌, length, Option, Some, None, refl}
use Rattle.std.proofs.Common.{sym, ◌∙◌, subst, arith}
use Rattle.std.specs.Prelude.{IfSome}
use Rattle.std.proofs.lemmas.List.{append-nil}
use Rattle.qc_core.specs.Vocabulary.{IsLawfulWithFalls}
use Rattle.qc_decl.specs.declared.declaration.Declaration.{Declaration}
use Rattle.qc_msg.specs.declared.step.Input.{Input}
use Rattle.qc_msg.specs.declared.step.Step.{Step}
use Rattle.qc_msg.specs.Vocabulary.{Entry, by, step_of}
use Rattle.qc_pass.specs.declared.token.Pass.{Pass}
use Rattle.qc_pass.specs.Vocabulary.{number, seen}
use Rattle.qc_process.specs.Vocabulary.{Goes, HasFewRecords, IsPlaced, IsStored, OpenJournal, StoreView}
use Rattle.qc_process.proofs.Going.{plain_on}
use Rattle.qc_script.specs.declared.script.Script.{Script}
use Rattle.qc_fabric.specs.Vocabulary.{Sees, Takes, most_history}
use Rattle.qc_node.specs.Vocabulary.{fits_of}
use Rattle.qc_process.proofs.GivenUp.{plain_input}

-- what others did, and then the input

pub took_goes : (decl : Declaration) (script : Script) (p q : Pass Step) (g : Input)
    → Takes (IsLawfulWithFalls decl) (fits_of decl) decl script p q g
    → Goes (number p) (seen p) (step_of g ∷ []) (seen q)
took_goes decl script p q g took = record { others = took.others; not_own = took.not_own; now_is = took.seen_is }

-- what others did, and nothing else

pub saw_goes : (p q : Pass Step) → Sees p q → Goes (number p) (seen p) [] (seen q)
saw_goes p q saw =
    record {
      others = saw.others;
      not_own = saw.not_own;
      now_is = saw.seen_is ∙ sym (append-nil (seen p ++ saw.others));
    }

-- so a store stays as it was, but for the spelling

pub stored_over_input : (tells : Bool) (decl : Declaration) (a : ℕ) (h now : List Entry) (g : Input)
    (s new : StoreView) → new.told ≡ s.told → new.fuse ≡ s.fuse → new.journal ≡ s.journal
    → Goes a h (step_of g ∷ []) now → IsStored tells decl a h s → IsStored tells decl a now new
stored_over_input tells decl a h now g s new told fuse journal goes is =
    plain_on tells decl a h now (step_of g ∷ []) s new (plain_input g) told fuse journal goes is

pub stored_over_others : (tells : Bool) (decl : Declaration) (a : ℕ) (h now : List Entry) (s new : StoreView)
    → new.told ≡ s.told → new.fuse ≡ s.fuse → new.journal ≡ s.journal → Goes a h [] now
    → IsStored tells decl a h s → IsStored tells decl a now new
stored_over_others tells decl a h now s new told fuse journal goes is =
    plain_on tells decl a h now [] s new tt told fuse journal goes is

-- a store of few enough records takes one more

pub few_open : (h : List Entry) (s : StoreView) (tells : Bool) (decl : Declaration) (a : ℕ)
    → length h ≤ most_history + 1
    → IsStored tells decl a h s → HasFewRecords s
few_open h s tells decl a short is = by s.journal refl
  where
    by : (o : Option OpenJournal) → s.journal ≡ o → IfSome o (λ (o : OpenJournal). o.records < 2 ^ 32)
    by None e = tt
    by (Some o) e =
        let placed = subst (λ (x : Option OpenJournal). IsPlaced s.told x is.records) e is.placed in
        let few : length is.records.records ≤ 2 ^ 31 + length h = is.told_by.few in
        let same : o.records ≡ length is.records.records = placed.2 in
        omega (arith, few, same, short)
