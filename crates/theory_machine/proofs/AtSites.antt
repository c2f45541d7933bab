-- Acts of a site: grant, vote, learn, rise, close, install. The clients' part stays.
use Rattle.std.proofs.Common.{◌≡◌, ◌≢◌, ℕ, suc, ◌==◌, Bool, true, false, cond, inl, inr, List, [], ◌∷◌, ◌++◌, Option}
use Rattle.std.proofs.Common.{Some, None, refl, sym, ap, ◌∙◌, subst, arith, append_assoc, eq-eqb, eqb-true}
use Rattle.qc_stamp.specs.declared.stamp.Stamp.{Stamp}
use Rattle.qc_stamp.specs.declared.stamp.TxId.{TxId}
use Rattle.qc_decl.specs.declared.declaration.Declaration.{Declaration}
use Rattle.qc_list.specs.Vocabulary.{In}
use Rattle.theory_machine.specs.Vocabulary.{Aborted, AgreesWithStatus, Close, Closes, CountedLaw, Deed, Grant, Granted}
use Rattle.theory_machine.specs.Vocabulary.{GrantedLaw, Grants, HasDecision, HasRisingEpochs, Installs, IsAllowed}
use Rattle.theory_machine.specs.Vocabulary.{IsOutcome, KeepsLife, Learn, LearnsAbort, LearnsCommit, MayGrant}
use Rattle.theory_machine.specs.Vocabulary.{MayPrepare, Prepares, Rise, Rises, State, StateLaws, Verdict, Vote, YesVote}
use Rattle.theory_machine.specs.Vocabulary.{after_act, deed_of, deed_of_outcome, epoch_from, put}
use Rattle.qc_stamp.specs.Vocabulary.{same_tx}
use Rattle.theory_machine.proofs.Names.{put_case}
use Rattle.qc_stamp.proofs.Orders.{same_tx_is, same_tx_test}
use Rattle.theory_machine.proofs.Deeds.{IsCalm}
use Rattle.theory_machine.proofs.Counted.{granted_after, granted_rises, granted_closes, counted_calm, counted_borne}
use Rattle.theory_machine.proofs.Counted.{counted_rises, counted_closes, counted_vote, counted_other}
use Rattle.theory_machine.proofs.Outcomes.{outcome_commit, outcome_aborted, outcome_agrees, outcome_keeps_life}
use Rattle.theory_machine.proofs.Outcomes.{committed_record}
use Rattle.theory_machine.proofs.Installed.{IsNew, one_rising, rising-append, outcome_new, one_installed}
use Rattle.qc_list.proofs.Members.{In-either}

module _ (decl : Declaration) where
  -- the deeds of all sites after one more
  deeds_more : (w : State) (site : ℕ) (d : Deed) → AgreesWithStatus w.status d → StateLaws decl w → (s : ℕ) (e : Deed)
      → In e (put w.deeds site (w.deeds site ++ d ∷ []) s) → AgreesWithStatus w.status e
  deeds_more w site d ok l s e = put_case (λ (ds : List Deed). In e ds → AgreesWithStatus w.status e) w.deeds site
      (w.deeds site ++ d ∷ []) s
      (λ same h. elim (In-either e (w.deeds site) (d ∷ []) h) [
        | inl old ↦ l.deeds site e old
        | inr new ↦ elim new [
          | inl is ↦ subst (λ (x : Deed). AgreesWithStatus w.status x)
              (sym is) ok
          | inr never ↦ absurd never
        ]
      ])
      (λ ne h. l.deeds s e h)

  pub granted_more : (w : State) (site : ℕ) (d : Deed) → KeepsLife (d ∷ []) → StateLaws decl w → (g : Granted)
      → In g w.granted → GrantedLaw (put w.deeds site (w.deeds site ++ d ∷ []) g.site) (w.life g.site) g
  granted_more w site d n l g h = put_case (λ (ds : List Deed). GrantedLaw ds (w.life g.site) g) w.deeds site
      (w.deeds site ++ d ∷ []) g.site
      (λ same. subst (λ (s : ℕ). GrantedLaw (w.deeds s ++ d ∷ []) (w.life g.site) g) same
      (granted_after (w.deeds g.site) (w.life g.site) g d n (l.granted g h)))
      (λ ne. l.granted g h)

  pub counted_more : (w : State) (site : ℕ) (d : Deed) → StateLaws decl w → (g : Granted) → In g w.counted
      → ((g.site ≡ site) → w.status g.tx ≢ Aborted → IsCalm g.tx d)
      → CountedLaw (put w.deeds site (w.deeds site ++ d ∷ []) g.site) (w.life g.site) (w.status g.tx) w.votes g
  counted_more w site d l g h calm = put_case
      (λ (ds : List Deed). CountedLaw ds (w.life g.site) (w.status g.tx) w.votes g) w.deeds site
      (w.deeds site ++ d ∷ []) g.site
      (λ same. subst (λ (s : ℕ). CountedLaw (w.deeds s ++ d ∷ []) (w.life g.site) (w.status g.tx) w.votes g) same
      (counted_calm (w.deeds g.site) (w.life g.site) (w.status g.tx) w.votes g d (calm same) (l.counted g h)))
      (λ ne. l.counted g h)

  -- what a site does leaves the clients' part
  pub at_sites : (w : State) (site : ℕ) (d : Deed) (life : ℕ → ℕ) (granted : List Granted) (votes : List YesVote)
      → IsNew w.decided (w.deeds site) d → AgreesWithStatus w.status d
      → ((g : Granted) → In g granted → GrantedLaw (put w.deeds site (w.deeds site ++ d ∷ []) g.site) (life g.site) g)
      → ((g : Granted) → In g granted → MayGrant decl g)
      → ((g : Granted) → In g w.counted → CountedLaw (put w.deeds site (w.deeds site ++ d ∷ []) g.site) (life g.site)
      (w.status g.tx) votes g)
      → ((v : YesVote) → In v votes → MayPrepare (w.status v.tx))
      → ((g : Granted) → In g w.granted → In g granted) → ((v : YesVote) → In v w.votes → In v votes)
      → StateLaws decl w → StateLaws decl (record w
      { deeds = put w.deeds site (w.deeds site ++ d ∷ []); life = life; granted = granted; votes = votes })
  at_sites w site d life granted votes new ok g f c y more_granted more_votes l = record {
    verdicts = l.verdicts;
    deeds = deeds_more w site d ok l;
    granted = g;
    facts = f;
    known = λ h i. more_granted h (l.known h i);
    counted = c;
    votes = y;
    begun = l.begun;
    passed = l.passed;
    seen_by = λ client h i. (more_granted h (l.seen_by client h i).0, (l.seen_by client h i).1);
    quiet = l.quiet;
    record_of = λ tx k h. (let r = l.record_of tx k h in record {
      named = r.named;
      client = r.client;
      low = r.low;
      ops = r.ops;
      none_chosen = r.none_chosen;
      agreed = λ i m e. let a = r.agreed i m e in (more_votes (record { tx = tx; site = i.site }) a.0, a.1);
    });
    apart = l.apart;
    written = l.written;
    writes = l.writes;
    counts_epoch = l.counts_epoch;
    planned = l.planned;
    installed = λ s k k2 log. put_case (λ (ds : List Deed). In (Installs k k2 log) ds → HasDecision w.decided k k2 log)
        w.deeds site (w.deeds site ++ d ∷ []) s
        (λ e h. elim (In-either (Installs k k2 log) (w.deeds site) (d ∷ []) h) [
          | inl old ↦ l.installed site k k2 log old
          | inr last ↦ elim last [
            | inl same ↦ one_installed w.decided
                (w.deeds site) d k k2 log new same
            | inr never ↦ absurd never
          ]
        ])
        (λ ne h. l.installed s k k2 log h);
    rising = λ s. put_case (λ (ds : List Deed). HasRisingEpochs 1 ds) w.deeds site (w.deeds site ++ d ∷ []) s
        (λ e. rising-append (w.deeds site) (d ∷ []) 1 (l.rising site)
        (one_rising w.decided (epoch_from 1 (w.deeds site)) (w.deeds site) d new refl)) (λ ne. l.rising s);
    snapped = λ s h. put_case (λ (ds : List Deed). (later : List Deed) × (ds ≡ s.before ++ later)) w.deeds site
        (w.deeds site ++ d ∷ []) s.site
        (λ e. let r = l.snapped s h in (
          r.0 ++ d ∷ [],
          ap (λ (ds : List Deed). ds ++ d ∷ []) (ap w.deeds (sym e) ∙ r.1)
              ∙ append_assoc s.before r.0 (d ∷ []),
        ))
        (λ ne. l.snapped s h);
    answers = l.answers;
    made = l.made;
  }

  pub grant_keeps : (w : State) (g : Granted) → IsAllowed decl w (Grant g) → StateLaws decl w
      → StateLaws decl (after_act w (Grant g))
  grant_keeps w g ok l = at_sites w g.site (Grants g.tx g.items g.view) w.life (g ∷ w.granted) w.votes tt tt
      granted
      (λ h i. elim i [ inl same ↦ subst (λ (x : Granted). MayGrant decl x) (sym same) ok.2 | inr old ↦ l.facts h old ])
      (λ h i. counted_more w g.site (Grants g.tx g.items g.view) l h i (λ same alive. tt))
      l.votes (λ h i. inr i) (λ v i. i) l
    where
      granted : (h : Granted) → In h (g ∷ w.granted)
          → GrantedLaw (put w.deeds g.site (w.deeds g.site ++ Grants g.tx g.items g.view ∷ []) h.site) (w.life h.site) h
      granted h (inl same) = subst (λ (x : Granted). GrantedLaw
          (put w.deeds g.site (w.deeds g.site ++ Grants g.tx g.items g.view ∷ []) x.site) (w.life x.site) x) (sym same)
          (put_case (λ (ds : List Deed). GrantedLaw ds (w.life g.site) g) w.deeds g.site
          (w.deeds g.site ++ Grants g.tx g.items g.view ∷ []) g.site
          (λ e. record {
            post = [];
            split = ap (λ (b : List Deed). b ++ Grants g.tx g.items g.view ∷ []) (sym ok.0);
            calm = λ x. tt;
            older = (let x : g.life ≡ w.life g.site = ok.1 in omega arith);
          })
          (λ ne. absurd (ne refl)))
      granted h (inr old) = granted_more w g.site (Grants g.tx g.items g.view) tt l h old

  pub vote_keeps : (w : State) (site : ℕ) (tx : TxId) → IsAllowed decl w (Vote site tx) → StateLaws decl w
      → StateLaws decl (after_act w (Vote site tx))
  vote_keeps w site tx ok l = at_sites w site (Prepares tx) w.life w.granted
      (record { tx = tx; site = site } ∷ w.votes) tt ok.0
      (granted_more w site (Prepares tx) tt l)
      l.facts
      counted
      (λ v h. elim h [
        | inl same ↦ subst (λ (x : YesVote). MayPrepare (w.status x.tx))
            (sym same) ok.0
        | inr old ↦ l.votes v old
      ])
      (λ h i. i) (λ v i. inr i) l
    where
      here : (g : Granted) → In g w.counted → g.site ≡ site → (b : Bool) → same_tx g.tx tx ≡ b
          → CountedLaw (w.deeds g.site ++ Prepares tx ∷ []) (w.life g.site) (w.status g.tx)
          (record { tx = tx; site = site } ∷ w.votes) g
      here g h same true e =
          let its : g.tx ≡ tx = same_tx_is g.tx tx e in
          let life : w.life g.site ≡ g.life = subst (λ (s : ℕ). w.life s ≡ g.life) (sym same)
          (sym (ok.1 g h its same)) in
          subst (λ (t : TxId). CountedLaw (w.deeds g.site ++ Prepares t ∷ []) (w.life g.site) (w.status g.tx)
          (record { tx = tx; site = site } ∷ w.votes) g) its
          (counted_vote (w.deeds g.site) (w.life g.site) (w.status g.tx) w.votes g
          (record { tx = tx; site = site }) life (l.counted g h))
      here g h same false e =
          let k = counted_calm (w.deeds g.site) (w.life g.site) (w.status g.tx) w.votes g (Prepares tx) (λ alive. tt)
          (l.counted g h) in
          counted_other (w.deeds g.site ++ Prepares tx ∷ []) (w.life g.site) (w.status g.tx) w.votes g
          (record { tx = tx; site = site })
          (λ is. let its : g.tx ≡ tx = ap (λ (v : YesVote). v.tx) is in
          let t : same_tx g.tx tx ≡ true = same_tx_test g.tx tx its in cc) k

      counted : (g : Granted) → In g w.counted
          → CountedLaw (put w.deeds site (w.deeds site ++ Prepares tx ∷ []) g.site) (w.life g.site) (w.status g.tx)
          (record { tx = tx; site = site } ∷ w.votes) g
      counted g h = put_case (λ (ds : List Deed). CountedLaw ds (w.life g.site) (w.status g.tx)
          (record { tx = tx; site = site } ∷ w.votes) g) w.deeds site (w.deeds site ++ Prepares tx ∷ []) g.site
          (λ same. subst (λ (s : ℕ). CountedLaw (w.deeds s ++ Prepares tx ∷ []) (w.life g.site) (w.status g.tx)
          (record { tx = tx; site = site } ∷ w.votes) g) same (here g h same (same_tx g.tx tx) refl))
          (λ ne. counted_other (w.deeds g.site) (w.life g.site) (w.status g.tx) w.votes g
          (record { tx = tx; site = site }) (λ is. ne (ap (λ (v : YesVote). v.site) is)) (l.counted g h))

  pub learn_keeps : (w : State) (site : ℕ) (t : Verdict) → In t w.verdicts → StateLaws decl w
      → StateLaws decl (after_act w (Learn site t))
  learn_keeps w site t ok l = at_sites w site (deed_of t) w.life w.granted w.votes
      (outcome_new w.decided (w.deeds site) t.tx t.stamp) (outcome_agrees w.status t.tx t.stamp (l.verdicts t ok))
      (granted_more w site (deed_of t) (outcome_keeps_life t.tx t.stamp) l)
      l.facts
      (λ g h. put_case (λ (ds : List Deed). CountedLaw ds (w.life g.site) (w.status g.tx) w.votes g) w.deeds site
      (w.deeds site ++ deed_of t ∷ []) g.site
      (λ same. subst (λ (s : ℕ). CountedLaw (w.deeds s ++ deed_of t ∷ []) (w.life g.site) (w.status g.tx) w.votes g)
      same (seen_by g h (same_tx t.tx g.tx) refl))
      (λ ne. l.counted g h))
      l.votes (λ h i. i) (λ v i. i) l
    where
      other : (g : Granted) (o : Option Stamp) → (t.tx ≢ g.tx) → IsCalm g.tx (deed_of_outcome t.tx o)
      other g None ne = ne
      other g (Some c) ne = ne

      mine : (g : Granted) → In g w.counted → t.tx ≡ g.tx → (o : Option Stamp) → IsOutcome (w.status t.tx) o
          → CountedLaw (w.deeds g.site ++ deed_of_outcome t.tx o ∷ []) (w.life g.site) (w.status g.tx) w.votes g
      mine g h e None r = counted_calm (w.deeds g.site) (w.life g.site) (w.status g.tx) w.votes g (LearnsAbort t.tx)
          (λ alive. absurd (alive (outcome_aborted (w.status g.tx)
          (subst (λ (x : TxId). IsOutcome (w.status x) None) e r)))) (l.counted g h)
      mine g h e (Some c) r =
          let k = outcome_commit (w.status g.tx) c (subst (λ (x : TxId). IsOutcome (w.status x) (Some c)) e r) in
          counted_borne (w.deeds g.site) (w.life g.site) (w.status g.tx) w.votes g (LearnsCommit t.tx c) tt
          ((l.record_of g.tx k.0 (committed_record (w.status g.tx) k.0 k.1)).agreed g h refl).0 (l.counted g h)

      seen_by : (g : Granted) → In g w.counted → (b : Bool) → same_tx t.tx g.tx ≡ b
          → CountedLaw (w.deeds g.site ++ deed_of t ∷ []) (w.life g.site) (w.status g.tx) w.votes g
      seen_by g h true e = mine g h (same_tx_is t.tx g.tx e) t.stamp (l.verdicts t ok)
      seen_by g h false e = counted_calm (w.deeds g.site) (w.life g.site) (w.status g.tx) w.votes g (deed_of t)
          (λ alive. other g t.stamp
          (λ same. let x : same_tx t.tx g.tx ≡ true = same_tx_test t.tx g.tx same in absurd (cc)))
          (l.counted g h)

  by_site : (w : State) (site : ℕ) (d : Deed) (P : List Deed → ℕ → Type 0) (s : ℕ)
      → (s ≡ site → P (w.deeds site ++ d ∷ []) (suc (w.life site))) → ((s ≢ site) → P (w.deeds s) (w.life s))
      → P (put w.deeds site (w.deeds site ++ d ∷ []) s) (put w.life site (suc (w.life site)) s)
  by_site w site d P s here there = by (s == site) refl
    where
      by : (b : Bool) → (s == site) ≡ b → P (cond b (w.deeds site ++ d ∷ []) (w.deeds s))
          (cond b (suc (w.life site)) (w.life s))
      by true e = here (eqb-true s site e)
      by false e = there (λ same. let t : (s == site) ≡ true = eq-eqb s site same in cc)

  pub rise_keeps : (w : State) (site : ℕ) → StateLaws decl w → StateLaws decl (after_act w (Rise site))
  rise_keeps w site l = at_sites w site Rises (put w.life site (suc (w.life site))) w.granted w.votes tt tt
      (λ g h. by_site w site Rises (λ (ds : List Deed) (n : ℕ). GrantedLaw ds n g) g.site
      (λ same. subst (λ (s : ℕ). GrantedLaw (w.deeds s ++ Rises ∷ []) (suc (w.life s)) g) same
      (granted_rises (w.deeds g.site) (w.life g.site) g (l.granted g h))) (λ ne. l.granted g h))
      l.facts
      (λ g h. by_site w site Rises (λ (ds : List Deed) (n : ℕ). CountedLaw ds n (w.status g.tx) w.votes g) g.site
      (λ same. subst (λ (s : ℕ). CountedLaw (w.deeds s ++ Rises ∷ []) (suc (w.life s)) (w.status g.tx) w.votes g) same
      (counted_rises (w.deeds g.site) (w.life g.site) (w.status g.tx) w.votes g (l.granted g (l.known g h)).older
      (l.counted g h)))
      (λ ne. l.counted g h))
      l.votes (λ h i. i) (λ v i. i) l

  pub close_keeps : (w : State) (site : ℕ) → StateLaws decl w → StateLaws decl (after_act w (Close site))
  close_keeps w site l = at_sites w site Closes (put w.life site (suc (w.life site))) w.granted w.votes tt tt
      (λ g h. by_site w site Closes (λ (ds : List Deed) (n : ℕ). GrantedLaw ds n g) g.site
      (λ same. subst (λ (s : ℕ). GrantedLaw (w.deeds s ++ Closes ∷ []) (suc (w.life s)) g) same
      (granted_closes (w.deeds g.site) (w.life g.site) g (l.granted g h))) (λ ne. l.granted g h))
      l.facts
      (λ g h. by_site w site Closes (λ (ds : List Deed) (n : ℕ). CountedLaw ds n (w.status g.tx) w.votes g) g.site
      (λ same. subst (λ (s : ℕ). CountedLaw (w.deeds s ++ Closes ∷ []) (suc (w.life s)) (w.status g.tx) w.votes g) same
      (counted_closes (w.deeds g.site) (w.life g.site) (w.status g.tx) w.votes g (l.granted g (l.known g h)).older
      (l.counted g h)))
      (λ ne. l.counted g h))
      l.votes (λ h i. i) (λ v i. i) l
