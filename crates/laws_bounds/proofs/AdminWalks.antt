-- What sites and clients told the administrator, his questions and what he sends, one by one: each list has a property
-- where its parts have it, and so has what he decides of them.
use Rattle.std.proofs.Common.{◌≡◌, inl, inr, refl, zero, suc, ℕ, ◌==◌, max, Bool, true, false, cond, is_none, List, []}
use Rattle.std.proofs.Common.{◌∷◌, ◌++◌, fold, map, take, Option, Some, None}
use Rattle.std.specs.List.{AllByRecursion as Every}
use Rattle.qc_list.proofs.Members.{every-append}
use Rattle.qc_decl.specs.declared.declaration.Declaration.{Declaration}
use Rattle.qc_entry.specs.declared.line.Line.{Line}
use Rattle.qc_entry.specs.declared.record.Prepared.{Prepared}
use Rattle.qc_epoch.specs.Vocabulary.{Question, ShutSite, clock_in, decision, in_asked_order, is_number, is_questioned}
use Rattle.qc_epoch.specs.Vocabulary.{promised_lines, shut_at, shut_list, stamp_in, stamp_of, taken_for, with_promised}
use Rattle.qc_epoch.specs.Vocabulary.{with_question, with_questions, with_shut, with_shut_of}
use Rattle.qc_epoch.specs.Conduct as admins
use Rattle.qc_msg.specs.declared.message.Answer.{Answer}
use Rattle.qc_msg.specs.declared.message.Answer.TheVariants as answers
use Rattle.qc_msg.specs.declared.message.Outcome.{Outcome}
use Rattle.qc_msg.specs.declared.message.Outcome.TheVariants.{Committed, Aborted, Active}
use Rattle.qc_plan.specs.declared.standing.Asked.{Asked}
use Rattle.qc_stamp.specs.Vocabulary.{same_tx}
use Rattle.qc_stamp.specs.declared.stamp.Stamp.{Stamp}
use Rattle.qc_stamp.specs.declared.stamp.TxId.{TxId}
use Rattle.qc_list.specs.Vocabulary.{In}
use Rattle.qc_entry.specs.Vocabulary.{union}
use Rattle.qc_msg.specs.declared.payload.EpochStart.{EpochStart}
use Rattle.laws_bounds.proofs.AdminProperties.{Keeping, Properties, StartKeeps, DecidedKeeps, ShutKeeps, ShutsKeep}
use Rattle.laws_bounds.proofs.AdminProperties.{ToldKeeps, TakenKeeps, QuestionKeeps, QuestionsKeep, AboutPromise}
use Rattle.laws_bounds.proofs.AdminProperties.{SendsKeep, ShutCame}

module _ (K : Properties) where
  -- what sites told

  found : (shuts : List ShutSite) (site : ℕ) → ShutsKeep K shuts → ShutsKeep K (shut_list (shut_at shuts site))
  found [] site all = tt
  found (s ∷ ss) site all = by (s.site == site) (found ss site all.1)
    where
      by : (b : Bool) → ShutsKeep K (shut_list (shut_at ss site))
          → ShutsKeep K (shut_list (cond b (Some s) (shut_at ss site)))
      by true rest = (all.0, tt)
      by false rest = rest

  pub asked_order : (asked : List Asked) (shuts : List ShutSite) → ShutsKeep K shuts
      → ShutsKeep K (in_asked_order asked shuts)
  asked_order [] shuts all = tt
  asked_order (a ∷ rest) shuts all =
      every-append (ShutKeeps K) (shut_list (shut_at shuts a.site)) (in_asked_order rest shuts) (found shuts a.site all)
      (asked_order rest shuts all)

  pub shut_added : (shuts : List ShutSite) (site : ℕ) (answer : Option Answer) → ShutCame K answer → ShutsKeep K shuts
      → ShutsKeep K (with_shut_of shuts site answer)
  shut_added shuts site None here all = all
  shut_added shuts site (Some (answers.Granted grant)) here all = all
  shut_added shuts site (Some (answers.Clash holder inv event)) here all = all
  shut_added shuts site (Some (answers.Closed epoch)) here all = all
  shut_added shuts site (Some (answers.Behind epoch)) here all = all
  shut_added shuts site (Some (answers.Restarted life)) here all = all
  shut_added shuts site (Some answers.Stale) here all = all
  shut_added shuts site (Some answers.Fault) here all = all
  shut_added shuts site (Some (answers.Yes clock)) here all = all
  shut_added shuts site (Some (answers.Shut snapshot)) here all =
      every-append (ShutKeeps K) shuts
      (record { site = site; clock = snapshot.clock; log = snapshot.log; prepared = snapshot.prepared } ∷ []) all
      (record { clock = here.0; log = here.1; prepared = here.2 }, tt)
  shut_added shuts site (Some answers.Installed) here all = all
  shut_added shuts site (Some (answers.Answered verdict)) here all = all

  -- what clients told

  taken_keeps : (number : ℕ) (outcome : Option Outcome) (q : Question)
      → (is_number number q.number ≡ true → ToldKeeps K q.tx outcome)
      → QuestionKeeps K q → QuestionKeeps K (taken_for number outcome q)
  taken_keeps number outcome q here before = by (is_number number q.number) refl (is_none q.taken)
    where
      by : (x : Bool) → is_number number q.number ≡ x → (y : Bool)
          → QuestionKeeps K (cond x (cond y (record q { taken = Some outcome }) q) q)
      by true is true = (here is, before.1)
      by true is false = before
      by false is y = before

  pub all_taken_keep : (number : ℕ) (outcome : Option Outcome) (qs : List Question)
      → ((q : Question) → In q qs → is_number number q.number ≡ true → ToldKeeps K q.tx outcome)
      → QuestionsKeep K qs → QuestionsKeep K (map (taken_for number outcome) qs)
  all_taken_keep number outcome [] here all = tt
  all_taken_keep number outcome (q ∷ qs) here all = (
    taken_keeps number outcome q (here q (inl refl)) all.0,
    all_taken_keep number outcome qs (λ u among. here u (inr among)) all.1,
  )

  -- nothing is taken for a question before it is asked

  question_added : (site : ℕ) (qs : List Question) (p : Prepared) → QuestionsKeep K qs
      → QuestionsKeep K (with_question site qs p)
  question_added site qs p all = by (is_questioned qs p.tx)
    where
      one : List Question
      one = record { tx = p.tx; site = site; number = None; taken = None } ∷ []

      by : (b : Bool) → QuestionsKeep K (cond b qs (qs ++ one))
      by true = all
      by false = every-append (QuestionKeeps K) qs one all ((tt, tt), tt)

  promises_added : (site : ℕ) (qs : List Question) (ps : List Prepared) → QuestionsKeep K qs
      → QuestionsKeep K (fold (with_question site) qs ps)
  promises_added site qs [] all = all
  promises_added site qs (p ∷ ps) all = promises_added site (with_question site qs p) ps (question_added site qs p all)

  pub questions_added : (qs : List Question) (shuts : List ShutSite) → QuestionsKeep K qs
      → QuestionsKeep K (fold with_questions qs shuts)
  questions_added qs [] all = all
  questions_added qs (s ∷ ss) all = questions_added (with_questions qs s) ss (promises_added s.site qs s.prepared all)

  -- each is about a promise

  abbrev pub ArePromised : List Question → Type 0
  ArePromised qs = Every (λ (q : Question). AboutPromise K q.tx) qs

  question_promised : (site : ℕ) (qs : List Question) (p : Prepared) → K.Promise p → ArePromised qs
      → ArePromised (with_question site qs p)
  question_promised site qs p has all = by (is_questioned qs p.tx)
    where
      one : List Question
      one = record { tx = p.tx; site = site; number = None; taken = None } ∷ []

      by : (b : Bool) → ArePromised (cond b qs (qs ++ one))
      by true = all
      by false = every-append (λ (q : Question). AboutPromise K q.tx) qs one all ((p, (refl, has)), tt)

  site_promised : (site : ℕ) (qs : List Question) (ps : List Prepared) → Every K.Promise ps → ArePromised qs
      → ArePromised (fold (with_question site) qs ps)
  site_promised site qs [] have all = all
  site_promised site qs (p ∷ ps) have all =
      site_promised site (with_question site qs p) ps have.1 (question_promised site qs p have.0 all)

  pub questions_promised : (qs : List Question) (shuts : List ShutSite) → ShutsKeep K shuts → ArePromised qs
      → ArePromised (fold with_questions qs shuts)
  questions_promised qs [] told all = all
  questions_promised qs (s ∷ ss) told all =
      questions_promised (with_questions qs s) ss told.1 (site_promised s.site qs s.prepared told.0.prepared all)

  -- his sends

  pub installs_keep : (d : EpochStart) (sites : List ℕ) → StartKeeps K d.epoch d.clock d.lines
      → SendsKeep K (map (admins.install_of d) sites)
  installs_keep d [] here = tt
  installs_keep d (site ∷ sites) here = (here, installs_keep d sites here)

  pub closes_keep : (epoch : ℕ) (sites : List ℕ) → K.Epoch epoch → SendsKeep K (map (admins.close_of epoch) sites)
  closes_keep epoch [] here = tt
  closes_keep epoch (site ∷ sites) here = (here, closes_keep epoch sites here)

  pub asks_keep : (decl : Declaration) (n : ℕ) (qs : List Question) → ArePromised qs
      → SendsKeep K (map (admins.ask_of decl) (take n qs))
  asks_keep decl zero [] all = tt
  asks_keep decl zero (q ∷ qs) all = tt
  asks_keep decl (suc n) [] all = tt
  asks_keep decl (suc n) (q ∷ qs) all = (all.0, asks_keep decl n qs all.1)

  -- what is decided

  module _ (keeping : Keeping K.Clock K.Lines K.Promise K.Verdict) where
    abbrev StampKeeps : TxId → Option Stamp → Type 0
    StampKeeps tx None = Unit {0}
    StampKeeps tx (Some stamp) = K.Verdict tx (Committed stamp)

    stamp_taken : (tx : TxId) (taken : Option (Option Outcome)) → TakenKeeps K tx taken → StampKeeps tx (stamp_in taken)
    stamp_taken tx None here = tt
    stamp_taken tx (Some None) here = tt
    stamp_taken tx (Some (Some (Committed stamp))) here = here
    stamp_taken tx (Some (Some Aborted)) here = tt
    stamp_taken tx (Some (Some Active)) here = tt

    stamp_agrees : (t u : TxId) (stamp : Option Stamp) → same_tx t u ≡ true → StampKeeps t stamp → StampKeeps u stamp
    stamp_agrees t u None same here = tt
    stamp_agrees t u (Some stamp) same here = keeping.agree t u (Committed stamp) same here

    stamp_keeps : (qs : List Question) (tx : TxId) → QuestionsKeep K qs → StampKeeps tx (stamp_of qs tx)
    stamp_keeps [] tx all = tt
    stamp_keeps (q ∷ qs) tx all = by (same_tx q.tx tx) refl (stamp_keeps qs tx all.1)
      where
        by : (b : Bool) → same_tx q.tx tx ≡ b → StampKeeps tx (stamp_of qs tx)
            → StampKeeps tx (cond b (stamp_in q.taken) (stamp_of qs tx))
        by true same rest = stamp_agrees q.tx tx (stamp_in q.taken) same (stamp_taken q.tx q.taken all.0.0)
        by false same rest = rest

    promised_keeps : (p : Prepared) (stamp : Option Stamp) → K.Promise p → StampKeeps p.tx stamp
        → K.Lines (promised_lines p stamp)
    promised_keeps p None has here = keeping.none
    promised_keeps p (Some stamp) has here = keeping.promised p stamp has here

    with_promises : (qs : List Question) (lines : List Line) (ps : List Prepared) → QuestionsKeep K qs
        → Every K.Promise ps
        → K.Lines lines → K.Lines (fold (with_promised qs) lines ps)
    with_promises qs lines [] all have within = within
    with_promises qs lines (p ∷ ps) all have within =
        with_promises qs (with_promised qs lines p) ps all have.1
        (keeping.both lines (promised_lines p (stamp_of qs p.tx)) within
        (promised_keeps p (stamp_of qs p.tx) have.0 (stamp_keeps qs p.tx all)))

    with_shuts : (qs : List Question) (lines : List Line) (shuts : List ShutSite) → QuestionsKeep K qs
        → ShutsKeep K shuts
        → K.Lines lines → K.Lines (fold (with_shut qs) lines shuts)
    with_shuts qs lines [] all told within = within
    with_shuts qs lines (s ∷ ss) all told within =
        with_shuts qs (with_shut qs lines s) ss all told.1
        (with_promises qs (union lines s.log) s.prepared all told.0.prepared
        (keeping.both lines s.log within told.0.log))

    greatest_told : (clock : ℕ) (shuts : List ShutSite) → K.Clock clock → ShutsKeep K shuts
        → K.Clock (fold (λ (clock : ℕ) (s : ShutSite). max clock s.clock) clock shuts)
    greatest_told clock [] low all = low
    greatest_told clock (s ∷ ss) low all =
        greatest_told (max clock s.clock) ss (keeping.later clock s.clock low all.0.clock) all.1

    clock_keeps : (clock : ℕ) (tx : TxId) (stamp : Option Stamp) → K.Clock clock → StampKeeps tx stamp
        → K.Clock (clock_in clock stamp)
    clock_keeps clock tx None low here = low
    clock_keeps clock tx (Some stamp) low here = keeping.later clock stamp.clock low (keeping.stamped tx stamp here)

    greatest_stamp : (clock : ℕ) (qs : List Question) → K.Clock clock → QuestionsKeep K qs
        → K.Clock (fold (λ (clock : ℕ) (q : Question). clock_in clock (stamp_in q.taken)) clock qs)
    greatest_stamp clock [] low all = low
    greatest_stamp clock (q ∷ qs) low all =
        greatest_stamp (clock_in clock (stamp_in q.taken)) qs
        (clock_keeps clock q.tx (stamp_in q.taken) low (stamp_taken q.tx q.taken all.0.0)) all.1

    pub decided_keeps : (epoch : ℕ) (shuts : List ShutSite) (qs : List Question) → K.Epoch epoch → ShutsKeep K shuts
        → QuestionsKeep K qs
        → DecidedKeeps K (Some (decision epoch shuts qs))
    decided_keeps epoch shuts qs is told all = record {
      epoch_is = is;
      clock_is = greatest_stamp _ qs (greatest_told 0 shuts keeping.first told) all;
      lines_are = with_shuts qs [] shuts all told keeping.none;
    }
