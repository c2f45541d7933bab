-- In plain runs all is of the first life and epoch.
use Rattle.std.proofs.Common.{◌≡◌, ℕ, false, inl, inr, List, [], ◌∷◌, ◌++◌, Option, Some, None, refl, sym, ◌∙◌, subst}
use Rattle.qc_stamp.specs.declared.stamp.Stamp.{Stamp}
use Rattle.qc_stamp.specs.declared.stamp.TxId.{TxId}
use Rattle.qc_decl.specs.declared.declaration.Declaration.{Declaration}
use Rattle.qc_list.specs.Vocabulary.{In}
use Rattle.theory_machine.specs.Vocabulary.{Abort, Act, Announce, ArePlain, Begin, Choose, Close, Closes, Commit}
use Rattle.theory_machine.specs.Vocabulary.{CommitUnknown, Count, Decide, Deed, Execute, ExecuteAbsent, Grant, Granted}
use Rattle.theory_machine.specs.Vocabulary.{Grants, Install, Installs, IsAllowed, IsFirst, IsPlain, IsPlainDeed, IsRun}
use Rattle.theory_machine.specs.Vocabulary.{Learn, LearnsAbort, LearnsCommit, Prepare, PrepareLost, Prepares, Recover}
use Rattle.theory_machine.specs.Vocabulary.{Rise, RiseClient, Rises, SendAppend, State, TakeSnapshot, Vote, after_act}
use Rattle.theory_machine.specs.Vocabulary.{deed_of, deed_of_outcome, epoch_from, put, shut_from, state}
use Rattle.theory_machine.proofs.Names.{put_case, put_tx_case}
use Rattle.qc_list.proofs.Members.{In-either}

deeds_more : (w : State) (site : ℕ) (d : Deed) → IsPlainDeed d → IsFirst w → (s : ℕ) (e : Deed)
    → In e (put w.deeds site (w.deeds site ++ d ∷ []) s) → IsPlainDeed e
deeds_more w site d ok f s e = put_case (λ (ds : List Deed). In e ds → IsPlainDeed e) w.deeds site
    (w.deeds site ++ d ∷ []) s
    (λ same h. elim (In-either e (w.deeds site) (d ∷ []) h) [
      | inl old ↦ f.deeds site e old
      | inr new ↦ elim new [ inl is ↦ subst (λ (x : Deed). IsPlainDeed x) (sym is) ok | inr never ↦ absurd never ]
    ])
    (λ ne h. f.deeds s e h)

outcome_plain : (tx : TxId) (o : Option Stamp) → IsPlainDeed (deed_of_outcome tx o)
outcome_plain tx None = tt
outcome_plain tx (Some stamp) = tt

plain_act : (decl : Declaration) (w : State) (a : Act) → IsAllowed decl w a → IsPlain a → IsFirst w
    → IsFirst (after_act w a)
plain_act decl w (Begin tx epoch) ok p f =
    record {
      lives = f.lives;
      epochs = λ t. put_tx_case (λ (e : ℕ). e ≡ 1) w.epoch tx epoch t (λ same. p)
          (λ ne. f.epochs t);
      deeds = f.deeds;
      granted = f.granted;
    }
plain_act decl w (Choose tx operation) ok p f =
    record { lives = f.lives; epochs = f.epochs; deeds = f.deeds; granted = f.granted }
plain_act decl w (SendAppend s) ok p f =
    record { lives = f.lives; epochs = f.epochs; deeds = f.deeds; granted = f.granted }
plain_act decl w (Execute tx) ok p f = record
    { lives = f.lives; epochs = f.epochs; deeds = f.deeds; granted = f.granted }
plain_act decl w (ExecuteAbsent tx operation) ok p f =
    record { lives = f.lives; epochs = f.epochs; deeds = f.deeds; granted = f.granted }
plain_act decl w (Grant g) ok p f = record {
  lives = f.lives;
  epochs = f.epochs;
  deeds = deeds_more w g.site (Grants g.tx g.items g.view) tt f;
  granted = λ h i. elim i [
    | inl same ↦ subst (λ (x : Granted). x.life ≡ 1) (sym same)
        (ok.1 ∙ f.lives g.site)
    | inr old ↦ f.granted h old
  ];
}
plain_act decl w (Count g) ok p f = record { lives = f.lives; epochs = f.epochs; deeds = f.deeds; granted = f.granted }
plain_act decl w (Prepare tx) ok p f = record
    { lives = f.lives; epochs = f.epochs; deeds = f.deeds; granted = f.granted }
plain_act decl w (Vote site tx) ok p f =
    record { lives = f.lives; epochs = f.epochs; deeds = deeds_more w site (Prepares tx) tt f; granted = f.granted }
plain_act decl w (PrepareLost site tx) ok p f = absurd p
plain_act decl w (Commit c) ok p f = record { lives = f.lives; epochs = f.epochs; deeds = f.deeds; granted = f.granted }
plain_act decl w (CommitUnknown c) ok p f = absurd p
plain_act decl w (Recover tx with_record) ok p f = absurd p
plain_act decl w (Abort tx) ok p f = record { lives = f.lives; epochs = f.epochs; deeds = f.deeds; granted = f.granted }
plain_act decl w (RiseClient client clock) ok p f = absurd p
plain_act decl w (Announce tx) ok p f = record
    { lives = f.lives; epochs = f.epochs; deeds = f.deeds; granted = f.granted }
plain_act decl w (Learn site v) ok p f =
    record {
      lives = f.lives;
      epochs = f.epochs;
      deeds = deeds_more w site (deed_of v) (outcome_plain v.tx v.stamp) f;
      granted = f.granted;
    }
plain_act decl w (Rise site) ok p f = absurd p
plain_act decl w (Close site) ok p f = absurd p
plain_act decl w (TakeSnapshot s) ok p f = absurd p
plain_act decl w (Decide d) ok p f = absurd p
plain_act decl w (Install site d) ok p f = absurd p

pub first : (decl : Declaration) (acts : List Act) → IsRun decl acts → ArePlain acts → IsFirst (state acts)
first decl [] run p = record {
  lives = λ s. refl;
  epochs = λ t. refl;
  deeds = λ s d h. absurd h;
  granted = λ g h. absurd h;
}
first decl (a ∷ older) run p = plain_act decl (state older) a run.0 p.0 (first decl older run.1 p.1)

-- a site with plain deeds is in the first epoch, and isn't shut
pub plain_epoch : (ds : List Deed) (e : ℕ) → ((d : Deed) → In d ds → IsPlainDeed d) → epoch_from e ds ≡ e
plain_epoch [] e p = refl
plain_epoch (Grants t items view ∷ ds) e p = plain_epoch ds e (λ d h. p d (inr h))
plain_epoch (Prepares t ∷ ds) e p = plain_epoch ds e (λ d h. p d (inr h))
plain_epoch (LearnsCommit t stamp ∷ ds) e p = plain_epoch ds e (λ d h. p d (inr h))
plain_epoch (LearnsAbort t ∷ ds) e p = plain_epoch ds e (λ d h. p d (inr h))
plain_epoch (Closes ∷ ds) e p = absurd (p Closes (inl refl))
plain_epoch (Installs k c log ∷ ds) e p = absurd (p (Installs k c log) (inl refl))
plain_epoch (Rises ∷ ds) e p = absurd (p Rises (inl refl))

pub plain_shut : (ds : List Deed) → ((d : Deed) → In d ds → IsPlainDeed d) → shut_from false ds ≡ false
plain_shut [] p = refl
plain_shut (Grants t items view ∷ ds) p = plain_shut ds (λ d h. p d (inr h))
plain_shut (Prepares t ∷ ds) p = plain_shut ds (λ d h. p d (inr h))
plain_shut (LearnsCommit t stamp ∷ ds) p = plain_shut ds (λ d h. p d (inr h))
plain_shut (LearnsAbort t ∷ ds) p = plain_shut ds (λ d h. p d (inr h))
plain_shut (Closes ∷ ds) p = absurd (p Closes (inl refl))
plain_shut (Installs k c log ∷ ds) p = absurd (p (Installs k c log) (inl refl))
plain_shut (Rises ∷ ds) p = absurd (p Rises (inl refl))
