-- The administrator falls by a line of the script, or rises, whatever the records that he rises with: all that was due
-- is due still.
use Rattle.std.proofs.Common.{◌≡◌, ℕ, Bool, true, false, cond, List, [], ◌∷◌, ◌++◌, fold, Option, Some, None}
use Rattle.std.proofs.Common.{option_map, refl, sym, ap, ◌∙◌, subst, append_assoc, eq-eqb}
use Rattle.std.specs.Option.{option_or, option_map_or}
use Rattle.std.proofs.lemmas.List.Sums.{fold-append}
use Rattle.qc_core.specs.Vocabulary.{ActorMove, IsLawfulWithFalls, actor_after, by_admin, is_up, with_record}
use Rattle.qc_core.proofs.ByNumber.{admin_new, admin_no_client, admin_no_site, admin_risen}
use Rattle.qc_decl.specs.Vocabulary.{administrator, is_administrator, is_client, is_site}
use Rattle.qc_decl.specs.declared.declaration.Declaration.{Declaration}
use Rattle.qc_msg.specs.declared.record.Record.{Record}
use Rattle.qc_msg.specs.declared.record.Record.TheVariants as records
use Rattle.qc_msg.specs.declared.step.Fall.{Fall}
use Rattle.qc_msg.specs.declared.step.Fall.TheVariants as causes
use Rattle.qc_msg.specs.declared.turn.Appended.{Appended}
use Rattle.qc_msg.specs.declared.turn.Appended.TheVariants.{Done, Failed, Stopped}
use Rattle.qc_msg.specs.declared.turn.Turn.{Turn}
use Rattle.qc_msg.specs.Vocabulary.{Deed, Falls, IsByDisk, Rises, Writes, decide_in, deeds_as}
use Rattle.qc_msg.specs.declared.payload.EpochStart.{EpochStart}
use Rattle.qc_promise.specs.Vocabulary.{Act, AdminAccount, AreAdminDeedsDue, IsAdminDue, IsPostOf, Wrote, admin_account}
use Rattle.qc_promise.specs.Vocabulary.{admin_account_at, admin_account_with, fallen_in, pending_next, posted_due}
use Rattle.qc_promise.specs.Vocabulary.{rising_turn}
use Rattle.qc_recover.specs.Vocabulary.{admin_by, admin_rises, epoch_by, rising}
use Rattle.qc_recover.specs.Admins.{keeps, kept_by}
use Rattle.qc_epoch.specs.Vocabulary.{new_admin}
use Rattle.laws_due.proofs.Standing.{Follows, no_act}
use Rattle.laws_due.proofs.Fallings.{as_record}
use Rattle.laws_due.proofs.AdminDecisions.{started}
use Rattle.laws_due.proofs.AdminStages.{Ties, epoch_of}
use Rattle.laws_due.proofs.AdminRest.{IsAtRest, IsFallen, account_is, account_more, actor_more, event_due, up_more}

-- what rises is what the account begins anew with

kept_last : (rs : List Record) (k : Option EpochStart) (o : Option EpochStart) → o ≡ option_map started k
    → fold (λ (last : Option EpochStart) (r : Record). option_or (decide_in r) last) o rs ≡ option_map started
    (fold keeps k rs)
kept_last [] k o is = is
kept_last (r ∷ rs) k o is = by (decide_in r) (kept_last rs)
  where
    by : (d : Option EpochStart)
        → ((k : Option EpochStart) (o : Option EpochStart) → o ≡ option_map started k
        → fold (λ (last : Option EpochStart) (r : Record). option_or (decide_in r) last) o rs
        ≡ option_map started (fold keeps k rs))
        → fold (λ (last : Option EpochStart) (r : Record). option_or (decide_in r) last) (option_or d o) rs
        ≡ option_map started (fold keeps (option_map_or (λ (start : EpochStart). Some start) d k) rs)
    by None more = more k o is
    by (Some start) more = more (Some start) (Some start) refl

epoch_started : (k : Option EpochStart) → epoch_by k ≡ epoch_of (option_map started k)
epoch_started None = refl
epoch_started (Some d) = refl

risen_ties : (decl : Declaration) (n : ℕ) (kept : List Record)
    → Ties decl n (admin_account_with kept) (admin_rises kept).admin
risen_ties decl n kept =
    subst (λ (k : Option EpochStart). Ties decl n (admin_account_with kept) (admin_by k))
    (sym (fold-append keeps None kept (records.Life ∷ [])))
    (record {
      base = record {
        up = refl;
        decided = kept_last kept None None refl;
        epoch = epoch_started (kept_by kept)
            ∙ ap epoch_of (sym (kept_last kept None None refl));
      };
      stage = record { commanded_none = refl; unwritten = refl };
    })

module _ (decl : Declaration) where
  new_ties : Ties decl 0 (admin_account decl []) new_admin
  new_ties = record {
    base = record { up = refl; decided = refl; epoch = refl };
    stage = record { commanded_none = refl; unwritten = refl };
  }

  pub first_rest : IsAtRest decl 0 []
  first_rest = record {
    up = true;
    is = refl;
    due = λ ys behind dues. dues;
    stands = record {
      state = new_admin;
      actor = admin_new decl (administrator decl) (admin_no_site decl) (admin_no_client decl);
      ties = new_ties;
    };
  }

  -- falls

  fallen_still : (ds : List Deed) (cause : Fall) (pending : Option Record)
      → IsFallen decl (ds ++ Falls cause pending ∷ [])
  fallen_still ds cause pending = record {
    actor = ap (λ (m : ActorMove). m.actor) (actor_more decl ds (Falls cause pending ∷ []));
    up = ap (λ (d : AdminAccount). d.up) (account_more decl ds (Falls cause pending ∷ []));
    command = ap (λ (d : AdminAccount). d.command) (account_more decl ds (Falls cause pending ∷ []));
    written = ap (λ (d : AdminAccount). d.written) (account_more decl ds (Falls cause pending ∷ []));
  }

  pub falls_alone : (n : ℕ) (ds : List Deed) (r : IsAtRest decl n ds) (cause : Fall)
      → ((ys : List Deed) → Follows r.up (Falls cause None ∷ ys)) → IsAtRest decl n (ds ++ Falls cause None ∷ [])
  falls_alone n ds r cause follows = record {
    up = false;
    is = up_more decl ds (Falls cause None ∷ []);
    due = λ ys behind dues.
        subst (IsAdminDue decl) (sym (append_assoc ds (Falls cause None ∷ []) ys))
        (r.due (Falls cause None ∷ ys) (follows ys) (
          tt,
          subst (λ (d : AdminAccount). AreAdminDeedsDue decl d ys)
              (account_more decl ds (Falls cause None ∷ [])) dues,
        ));
    stands = fallen_still ds cause None;
  }

  pub unopened_rest : (n : ℕ) (ds : List Deed) (cause : Fall) → IsByDisk cause → is_up ds ≡ false → IsAtRest decl n ds
      → IsAtRest decl n (ds ++ Falls cause None ∷ [])
  unopened_rest n ds cause by_disk down r =
      falls_alone n ds r cause (λ ys. subst (λ (up : Bool). Follows up (Falls cause None ∷ ys)) (sym down ∙ r.is)
      (by cause by_disk ys))
    where
      by : (x : Fall) → IsByDisk x → (ys : List Deed) → pending_next (Falls x None ∷ ys) ≡ None
      by causes.Script is ys = absurd is
      by causes.Stop is ys = refl
      by causes.Disk is ys = refl

  -- a rise, whatever its records

  module _ (n : ℕ) (ds : List Deed) (r : IsAtRest decl n ds) (kept : List Record) where
    rises_to : actor_after decl (administrator decl) (ds ++ Rises kept ∷ []) ≡ by_admin (admin_rises kept)
    rises_to = actor_more decl ds (Rises kept ∷ [])
        ∙ admin_risen decl (administrator decl) (admin_no_site decl) (admin_no_client decl) kept

    anew : account_is decl (ds ++ Rises kept ∷ []) ≡ admin_account_with kept
    anew = account_more decl ds (Rises kept ∷ [])

    risen_rest : (k : ℕ) → IsAtRest decl k ((ds ++ Rises kept ∷ []) ++ Writes records.Life ∷ [])
    risen_rest k = record {
      up = true;
      is = up_more decl (ds ++ Rises kept ∷ []) (Writes records.Life ∷ []) ∙ up_more decl ds (Rises kept ∷ []);
      due = λ ys behind. event_due decl n ds r (Rises kept) (Writes records.Life ∷ []) ys
          (no_act (Rises kept ∷ (Writes records.Life ∷ ys)) refl r.up)
          (λ dues. (
            subst (λ (acts : List Act). Wrote records.Life ∷ acts ≡ posted_due rising_turn
                (fallen_in (Wrote records.Life ∷ acts))) (sym behind) refl,
            (tt, dues),
          ));
      stands = record {
        state = (admin_rises kept).admin;
        actor = ap (λ (m : ActorMove). m.actor) (actor_more decl (ds ++ Rises kept ∷ []) (Writes records.Life ∷ [])
            ∙ rises_to);
        ties = subst (λ (d : AdminAccount). Ties decl k d (admin_rises kept).admin)
            (sym (account_more decl (ds ++ Rises kept ∷ []) (Writes records.Life ∷ [])
            ∙ ap (λ (d : AdminAccount). admin_account_at decl d (Writes records.Life)) anew)) (risen_ties decl k kept);
      };
    }

    in_vain_rest : (k : ℕ) (cause : Fall) → IsByDisk cause
        → IsAtRest decl k ((ds ++ Rises kept ∷ []) ++ Falls cause (Some records.Life) ∷ [])
    in_vain_rest k cause by_disk = record {
      up = false;
      is = up_more decl (ds ++ Rises kept ∷ []) (Falls cause (Some records.Life) ∷ []);
      due = λ ys behind. event_due decl n ds r (Rises kept) (Falls cause (Some records.Life) ∷ []) ys
          (no_act (Rises kept ∷ (Falls cause (Some records.Life) ∷ ys)) refl r.up)
          (λ dues. (by cause by_disk ys, (tt, dues)));
      stands = fallen_still (ds ++ Rises kept ∷ []) cause (Some records.Life);
    }
      where
        by : (x : Fall) → IsByDisk x → (ys : List Deed) → IsPostOf rising_turn (Falls x (Some records.Life) ∷ ys)
        by causes.Script is ys = absurd is
        by causes.Stop is ys = refl
        by causes.Disk is ys = refl

    risen_as : (k : ℕ) (end : Appended) (first : ℕ)
        → IsAtRest decl k ((ds ++ Rises kept ∷ []) ++ deeds_as end first (rising []))
    risen_as k Done first = risen_rest k
    risen_as k Failed first = in_vain_rest k causes.Disk tt
    risen_as k Stopped first = in_vain_rest k causes.Stop tt

  -- the turn that is lawful

  same_some : (x y : Turn) → Some x ≡ Some y → x ≡ y
  same_some x y is = let same : x ≡ y = cc in same

  pub turn_is : (ds : List Deed) (turn : Turn) → IsLawfulWithFalls decl (administrator decl) ds turn
      → (actor_after decl (administrator decl) ds).turn ≡ with_record turn
  turn_is ds turn law =
      same_some (actor_after decl (administrator decl) ds).turn (with_record turn)
      (sym (by (is_site decl (administrator decl)) (is_client decl (administrator decl))
      (is_administrator decl (administrator decl)) (admin_no_site decl) (admin_no_client decl)
      (eq-eqb (administrator decl) (administrator decl) refl)) ∙ law.called_for)
    where
      by : (s c a : Bool) → s ≡ false → c ≡ false → a ≡ true
          → cond s (Some (actor_after decl (administrator decl) ds).turn)
          (cond c (Some (actor_after decl (administrator decl) ds).turn)
          (cond a (Some (actor_after decl (administrator decl) ds).turn) None))
          ≡ Some (actor_after decl (administrator decl) ds).turn
      by true c a site client admin = absurd (let never : ⊥ = cc in never)
      by false true a site client admin = absurd (let never : ⊥ = cc in never)
      by false false true site client admin = refl
      by false false false site client admin = absurd (let never : ⊥ = cc in never)

  pub rises_rest : (n : ℕ) (ds : List Deed) → IsAtRest decl n ds → (kept : List Record) (turn : Turn) (first k : ℕ)
      → IsLawfulWithFalls decl (administrator decl) (ds ++ Rises kept ∷ []) turn
      → IsAtRest decl k ((ds ++ Rises kept ∷ []) ++ deeds_as turn.append first turn)
  rises_rest n ds r kept turn first k law =
      subst (λ (v : List Deed). IsAtRest decl k ((ds ++ Rises kept ∷ []) ++ v)) (as_record turn.append first turn)
      (subst (λ (t : Turn). IsAtRest decl k ((ds ++ Rises kept ∷ []) ++ deeds_as turn.append first t))
      (sym (ap (λ (m : ActorMove). m.turn) (rises_to n ds r kept)) ∙ turn_is (ds ++ Rises kept ∷ []) turn law)
      (risen_as n ds r kept k turn.append first))
