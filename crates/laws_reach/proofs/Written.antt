-- In each net the commit records that stand are those among the clients' records.
use Rattle.std.proofs.Common.{◌≡◌, ◌≢◌, ◌⊎◌, ℕ, true, List, [], ◌∷◌, ◌++◌, Option, Some, None, option_to_list, inl, inr}
use Rattle.std.proofs.Common.{refl, sym, ap, ◌∙◌, subst, append_assoc}
use Rattle.std.specs.List.{cons_option, filter_map}
use Rattle.std.proofs.lemmas.List.{append-nil}
use Rattle.std.proofs.lemmas.List.Elements.{filter_map-append}
use Rattle.qc_list.specs.Vocabulary.{In}
use Rattle.qc_list.proofs.Members.{In-first, In-second, In-either}
use Rattle.qc_client.specs.Vocabulary.{client_takes}
use Rattle.qc_decl.specs.Vocabulary.{IsAccepted, administrator, is_client, is_site}
use Rattle.qc_decl.specs.declared.declaration.Declaration.{Declaration}
use Rattle.qc_entry.specs.declared.record.Commit.{Commit as CommitRecord}
use Rattle.qc_msg.specs.declared.record.Record.{Record}
use Rattle.qc_msg.specs.declared.record.Record.TheVariants as records
use Rattle.qc_msg.specs.Vocabulary.{commit_of}
use Rattle.laws_refinement.specs.Vocabulary.{IsPendingAt, IsPendingRule, Net, Reaches, Refines, commits_in}
use Rattle.laws_refinement.specs.Net as nets
use Rattle.laws_refinement.proofs.Kepts.{no_client, no_ruling}
use Rattle.laws_refinement.proofs.Machine.{put_other}
use Rattle.laws_refinement.proofs.Refining.{nets_refine}
use Rattle.theory_machine.specs.Vocabulary.{Deed, State, put}
use Rattle.qc_recover.specs.Vocabulary.{Kept}
use Rattle.theory_machine.proofs.Names.{put_here}
use Rattle.laws_reach.specs.Vocabulary.{IsOfClient}
use Rattle.laws_reach.proofs.RecordCases.{commit_cases}
use Rattle.laws_refinement.proofs.Lives.{same_or}

-- the commit records among records

abbrev commits_of : List Record → List CommitRecord
commits_of rs = filter_map commit_of rs

pub is_among : (c : CommitRecord) (rs : List Record) → In c (commits_of rs) → In (records.Commit c) rs
is_among c [] among = among
is_among c (r ∷ rs) among =
    commit_cases (λ r o. In c (cons_option o (commits_of rs)) → In (records.Commit c) (r ∷ rs))
    (λ d among. by d (λ later. is_among c rs later) among) (λ r none among. inr (is_among c rs among)) r among
  where
    by : (d : CommitRecord) → (In c (commits_of rs) → In (records.Commit c) rs) → (c ≡ d) ⊎ In c (commits_of rs)
        → In (records.Commit c) (records.Commit d ∷ rs)
    by d rest (inl same) = inl (ap (λ (x : CommitRecord). records.Commit x) same)
    by d rest (inr later) = inr (rest later)

same_commit : (c d : CommitRecord) → records.Commit c ≡ records.Commit d → c ≡ d
same_commit c d is = let same : c ≡ d = cc in same

pub among_is : (c : CommitRecord) (rs : List Record) → In (records.Commit c) rs → In c (commits_of rs)
among_is c [] among = among
among_is c (r ∷ rs) (inl same) =
    commit_cases (λ r o. records.Commit c ≡ r → In c (cons_option o (commits_of rs)))
    (λ d same. inl (same_commit c d same)) (λ r none same. absurd (never r none same)) r same
  where
    never : (r : Record) → commit_of r ≡ None → records.Commit c ≡ r → ⊥
    never r none same = let is : Some c ≡ None = ap commit_of same ∙ none in let no : ⊥ = cc in no
among_is c (r ∷ rs) (inr later) =
    commit_cases (λ r o. In c (commits_of rs) → In c (cons_option o (commits_of rs))) (λ d rest. inr rest)
    (λ r none rest. rest) r (among_is c rs later)

pub alone : (o : Option CommitRecord) → option_to_list o ≡ cons_option o []
alone None = refl
alone (Some c) = refl

one_in : (w : Option Record) → commits_in w ≡ commits_of (option_to_list w)
one_in None = refl
one_in (Some r) = alone (commit_of r)

and_life : (w : Option Record) → commits_in w ≡ commits_of (option_to_list w ++ records.Life ∷ [])
and_life w = one_in w ∙ sym (filter_map-append commit_of (option_to_list w) (records.Life ∷ [])
    ∙ append-nil (commits_of (option_to_list w)))

-- what is pending at a site, or at the administrator, is no commit record

none_at_site : (decl : Declaration) (now : State) (k : Kept) (ds : List Deed) (w : Option Record)
    → IsPendingAt decl now k ds w → commits_in w ≡ []
none_at_site decl now k ds None is = refl
none_at_site decl now k ds (Some r) is =
    commit_cases (λ r o. IsPendingAt decl now k ds (Some r) → option_to_list o ≡ []) (λ c never. absurd never)
    (λ r none its. refl) r is

none_at_admin : (decl : Declaration) (now : State) (w : Option Record) → IsPendingRule decl now w → commits_in w ≡ []
none_at_admin decl now None is = refl
none_at_admin decl now (Some r) is =
    commit_cases (λ r o. IsPendingRule decl now (Some r) → option_to_list o ≡ []) (λ c never. absurd never)
    (λ r none its. refl) r is

none_given : (pending back : Option Record) → commits_in pending ≡ [] → (back ≡ None) ⊎ (back ≡ pending)
    → commits_in back ≡ []
none_given pending back none (inl is) = ap commits_in is
none_given pending back none (inr is) = ap commits_in is ∙ none

module _ (decl : Declaration) where
  pub record Agree (rs : ℕ → List Record) (written : List CommitRecord) : Type 0 where
    pub each : (c : CommitRecord) → In c written → IsOfClient decl rs c
    pub all : (c : CommitRecord) → IsOfClient decl rs c → In c written

  -- a client has more records
  grows : (rs next : ℕ → List Record) (written new : List CommitRecord) (a : ℕ) (more : List Record)
      → is_client decl a ≡ true → next a ≡ rs a ++ more → ((b : ℕ) → b ≢ a → next b ≡ rs b) → new ≡ commits_of more
      → Agree rs written → Agree next (written ++ new)
  grows rs next written new a more client here there are old = record {
    each = λ c among. elim (In-either c written new among) [
      | inl before ↦ keeps c (old.each c before)
      | inr now ↦ record {
        actor = a;
        client = client;
        listed = subst (In (records.Commit c)) (sym here)
            (In-second (records.Commit c) (rs a) more (is_among c more (subst (In c) are now)));
      }
    ];
    all = λ c is. elim (same_or is.actor a) [
      | inl same ↦ elim (In-either (records.Commit c) (rs a) more
          (subst (In (records.Commit c)) (ap next same ∙ here) is.listed)) [
            | inl before ↦ In-first c written new (old.all c (record { actor = a; client = client; listed = before }))
            | inr now ↦ In-second c written new (subst (In c) (sym are) (among_is c more now))
          ]
      | inr other ↦ In-first c written new (old.all c
          (record {
            actor = is.actor;
            client = is.client;
            listed = subst (In (records.Commit c)) (there is.actor other) is.listed;
          }))
    ];
  }
    where
      keeps : (c : CommitRecord) → IsOfClient decl rs c → IsOfClient decl next c
      keeps c is = elim (same_or is.actor a) [
        | inl same ↦ record {
          actor = a;
          client = client;
          listed = subst (In (records.Commit c)) (sym here)
              (In-first (records.Commit c) (rs a) more
              (subst (λ (k : ℕ). In (records.Commit c) (rs k)) same is.listed));
        }
        | inr other ↦ record {
          actor = is.actor;
          client = is.client;
          listed = subst (In (records.Commit c)) (sym (there is.actor other)) is.listed;
        }
      ]

  -- another actor's records are none of them
  stays : (rs next : ℕ → List Record) (written : List CommitRecord)
      → ((b : ℕ) → is_client decl b ≡ true → next b ≡ rs b) → Agree rs written → Agree next written
  stays rs next written same old = record {
    each = λ c among. (let is : IsOfClient decl rs c = old.each c among in
        record {
          actor = is.actor;
          client = is.client;
          listed = subst (In (records.Commit c)) (sym (same is.actor is.client)) is.listed;
        });
    all = λ c is. old.all c (record {
      actor = is.actor;
      client = is.client;
      listed = subst (In (records.Commit c)) (same is.actor is.client) is.listed;
    });
  }

  at_site : (rs : ℕ → List Record) (written : List CommitRecord) (a : ℕ) (its : List Record) → is_site decl a ≡ true
      → Agree rs written → Agree (put rs a its) written
  at_site rs written a its site = stays rs (put rs a its) written
      (λ b client. put_other rs a its b (λ same. no_client decl a site
      (subst (λ (k : ℕ). is_client decl k ≡ true) same client)))

  at_admin : (rs : ℕ → List Record) (written : List CommitRecord) (its : List Record) → Agree rs written
      → Agree (put rs (administrator decl) its) written
  at_admin rs written its = stays rs (put rs (administrator decl) its) written
      (λ b client. put_other rs (administrator decl) its b
      (λ same. no_ruling decl (subst (λ (k : ℕ). is_client decl k ≡ true) same client)))

  at_client : (rs : ℕ → List Record) (written : List CommitRecord) (a : ℕ) (w : Option Record) → is_client decl a ≡ true
      → Agree rs written → Agree (put rs a (rs a ++ option_to_list w)) (written ++ commits_in w)
  at_client rs written a w client =
      grows rs (put rs a (rs a ++ option_to_list w)) written (commits_in w) a (option_to_list w) client
      (put_here rs a (rs a ++ option_to_list w)) (λ b other. put_other rs a (rs a ++ option_to_list w) b other)
      (one_in w)

  at_rise : (rs : ℕ → List Record) (written : List CommitRecord) (a : ℕ) (w : Option Record) → is_client decl a ≡ true
      → Agree rs written → Agree (put rs a ((rs a ++ option_to_list w) ++ records.Life ∷ [])) (written ++ commits_in w)
  at_rise rs written a w client =
      grows rs (put rs a ((rs a ++ option_to_list w) ++ records.Life ∷ [])) written (commits_in w) a
      (option_to_list w ++ records.Life ∷ []) client
      (put_here rs a ((rs a ++ option_to_list w) ++ records.Life ∷ [])
      ∙ append_assoc (rs a) (option_to_list w) (records.Life ∷ []))
      (λ b other. put_other rs a ((rs a ++ option_to_list w) ++ records.Life ∷ []) b other) (and_life w)

  none_more : (rs : ℕ → List Record) (written more : List CommitRecord) → more ≡ [] → Agree rs written
      → Agree rs (written ++ more)
  none_more rs written more none = subst (Agree rs)
      (sym (ap (λ (cs : List CommitRecord). written ++ cs) none ∙ append-nil written))

  module _ (accepted : IsAccepted decl) where
    pub written_are : (net : Net) → Reaches decl net → Agree net.records net.written
    written_are net nets.begins = record { each = λ c among. absurd among; all = λ c is. is.listed }
    written_are net (nets.serves a given before r site up came) =
        at_site before.records before.written a _ site (written_are before r)
    written_are net (nets.takes a given before r client up came ready) =
        at_client before.records before.written a (client_takes decl (before.clients a) given).turn.write client
        (written_are before r)
    written_are net (nets.administers given before r up came named) =
        at_admin before.records before.written _ (written_are before r)
    written_are net (nets.site_falls a before r site up) = written_are before r
    written_are net (nets.client_falls a before r client up) = written_are before r
    written_are net (nets.admin_falls before r up) = written_are before r
    written_are net (nets.site_fails a given written sends before r site up came wrote failed) = written_are before r
    written_are net (nets.client_fails a given written sends before r client up came ready wrote failed) =
        written_are before r
    written_are net (nets.admin_fails given written sends before r up came named wrote failed) = written_are before r
    written_are net (nets.site_rises_up a back before r site down given) =
        at_site before.records before.written a _ site (written_are before r)
    written_are net (nets.client_rises_up a back before r client down given) =
        at_rise before.records before.written a back client (written_are before r)
    written_are net (nets.admin_rises_up back before r down given) =
        at_admin before.records before.written _ (written_are before r)
    written_are net (nets.site_rises_in_vain a back before r site down given) =
        let h : Refines decl before = nets_refine decl accepted before r in
        let none : commits_in back ≡ [] = none_given (before.pending a) back
        (none_at_site decl _ _ _ (before.pending a) (h.agrees.pends a site down)) given in
        none_more (put before.records a (before.records a ++ option_to_list back)) before.written (commits_in back) none
        (at_site before.records before.written a (before.records a ++ option_to_list back) site
        (written_are before r))
    written_are net (nets.client_rises_in_vain a back before r client down given) =
        at_client before.records before.written a back client (written_are before r)
    written_are net (nets.admin_rises_in_vain back before r down given) =
        let h : Refines decl before = nets_refine decl accepted before r in
        let none : commits_in back ≡ [] = none_given (before.pending (administrator decl)) back
        (none_at_admin decl _ (before.pending (administrator decl)) (h.agrees.decides down)) given in
        none_more (put before.records (administrator decl) (before.records (administrator decl) ++ option_to_list back))
        before.written (commits_in back) none
        (at_admin before.records before.written (before.records (administrator decl) ++ option_to_list back)
        (written_are before r))
