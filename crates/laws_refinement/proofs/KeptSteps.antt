-- What the records of a site give, as its machine's site does one deed more.
use Rattle.std.proofs.Common.{[], ◌≡◌, ◌≤◌, ℕ, suc, max, not, Bool, true, false, ◌⊎◌, inl, inr, List, ◌∷◌, ◌++◌, Option}
use Rattle.std.proofs.Common.{Some, None, refl, sym, ap, ◌∙◌, subst, arith}
use Rattle.std.specs.Option.{option_map_or}
use Rattle.qc_stamp.specs.declared.stamp.TxId.{TxId}
use Rattle.qc_stamp.specs.Vocabulary.{same_tx}
use Rattle.qc_stamp.proofs.Orders.{same_tx_is}
use Rattle.qc_list.specs.Vocabulary.{In}
use Rattle.qc_list.proofs.Members.{In-unfiltered, In-either}
use Rattle.qc_decl.specs.declared.declaration.Declaration.{Declaration}
use Rattle.qc_entry.specs.declared.line.Line.{Line}
use Rattle.qc_entry.specs.declared.record.Prepared.{Prepared}
use Rattle.qc_entry.specs.Vocabulary.{IsAscending, union, without}
use Rattle.qc_msg.specs.declared.record.Record.TheVariants as records
use Rattle.qc_msg.specs.Vocabulary.{start_with}
use Rattle.theory_machine.specs.Vocabulary.{Closes, Deed, DoneRecord, Installs, LearnsCommit, Promise, Rises, Site}
use Rattle.theory_machine.specs.Vocabulary.{Status, after_commit, empty_site, promise_of, site_after}
use Rattle.qc_site.specs.Vocabulary.{SiteState, latest, lines_of, new_site, prepared_of, without_prepared}
use Rattle.qc_site.proofs.Votes.{prepared-without, prepared-without_other}
use Rattle.qc_recover.specs.Vocabulary.{Kept, done_lines, done_stamp, keeps}
use Rattle.laws_refinement.specs.Vocabulary.{IsClosing, IsPlanned, IsPromiseOf, KeptMirrors}
use Rattle.qc_site.proofs.KnownLines.{learned_in}
use Rattle.laws_refinement.proofs.Machine.{done_last, site_more}
use Rattle.laws_refinement.proofs.Apart.{aparts_dropped}
use Rattle.laws_refinement.proofs.Promises.{commit_log, commit_logged, commit_passed, commit_sorted, dropped_promise}
use Rattle.laws_refinement.proofs.SiteSteps.{latest_passes}
use Rattle.laws_refinement.proofs.KeptDeeds.{leaves_epoch, leaves_life, kept_same}
use Rattle.qc_site.proofs.Clocks.{latest_later}
use Rattle.qc_entry.proofs.Members.{in_union}
use Rattle.qc_entry.proofs.Union.{in_either}
use Rattle.theory_machine.proofs.Epochs.{epoch-append, shut-append}

-- it is written that a promised transaction is done
pub kept_finishes : (decl : Declaration) (k : Kept) (status : TxId → Status) (life : ℕ) (ds : List Deed) (tx : TxId)
    (clock : ℕ) (promise : Promise) (p : Prepared) → KeptMirrors decl k status life ds
    → promise_of tx (site_after ds).prepared ≡ Some promise → prepared_of k.promises tx ≡ Some p
    → IsPromiseOf (Some promise) (Some p)
    → KeptMirrors decl (keeps k (records.Done tx clock)) status life (ds ++ LearnsCommit tx (done_stamp tx clock) ∷ [])
kept_finishes decl k status life ds tx clock promise p m some found same = record {
  life_is = m.life_is;
  epoch = (leaves_epoch ds (LearnsCommit tx (done_stamp tx clock)) tt).epoch ∙ m.epoch;
  planned = m.planned;
  shut = (leaves_epoch ds (LearnsCommit tx (done_stamp tx clock)) tt).shut ∙ m.shut;
  closing = m.closing;
  installs =
      λ n c log among. (let c_low : c ≤ k.clock =
      m.installs n c log ((leaves_epoch ds (LearnsCommit tx (done_stamp tx clock)) tt).installs n c log among) in
      omega arith);
  stable =
      λ l among. subst (λ (ls : List Line). In l (union k.began (union k.lines (without ls k.began)))) (sym own)
      (commit_log logged stable_site m.stable tx (done_stamp tx clock) (Some promise) (Some p) same l
      (subst (λ (x : Site). In l x.stable) after among));
  kept =
      λ l among. subst (λ (x : Site). In l x.stable) (sym after)
      (commit_logged logged stable_site m.kept tx (done_stamp tx clock) (Some promise) (Some p) same l
      (subst (λ (ls : List Line). In l (union k.began (union k.lines (without ls k.began)))) own among));
  sorted =
      subst (λ (ls : List Line). IsAscending k.began × IsAscending (union k.lines (without ls k.began))) (sym own)
      (commit_sorted logged tx (done_stamp tx clock) (Some p) m.sorted);
  done = λ x among. elim (done_last ds (LearnsCommit tx (done_stamp tx clock)) empty_site x among) [
    | inl old ↦ (let c : x.stamp.clock ≤ k.clock = m.done x old in omega arith)
    | inr new ↦ (let c : x.stamp.clock ≡ clock = ap (λ (y : DoneRecord). y.stamp.clock) new in omega arith)
  ];
  passed =
      λ l among. commit_passed stable_site (max k.clock clock)
      (λ x h. (let c : x.stamp.clock ≤ k.clock = m.passed x h in omega arith)) tx (done_stamp tx clock) (Some promise)
      (omega arith) l (subst (λ (x : Site). In l x.stable) after among);
  promised =
      λ t. subst (λ (x : Site). IsPromiseOf (promise_of t x.promises) (prepared_of (without_prepared k.promises tx) t))
      (sym after) (dropped_promise tx t (site_after ds).promises k.promises (m.promised t));
  last = last;
  apart = aparts_dropped tx k.promises m.apart;
  lined =
      λ q among l has. learned_in l k.began k.lines (done_lines k.prepares tx clock)
      (inl (m.lined q (In-unfiltered (λ (x : Prepared). not (same_tx x.tx tx)) q k.promises among) l has));
  begun = λ q among. m.begun q (In-unfiltered (λ (x : Prepared). not (same_tx x.tx tx)) q k.promises among);
}
  where
    after : site_after (ds ++ LearnsCommit tx (done_stamp tx clock) ∷ [])
        ≡ after_commit tx (done_stamp tx clock) (Some promise) (site_after ds)
    after =
        site_more ds (LearnsCommit tx (done_stamp tx clock))
        ∙ ap (λ (o : Option Promise). after_commit tx (done_stamp tx clock) o (site_after ds)) some

    -- the stable lines in the place of those that a site knows
    logged : SiteState
    logged = record (new_site 0) { began = k.began; log = k.lines }

    stable_site : Site
    stable_site = record (site_after ds) { volatile = (site_after ds).stable }

    own : done_lines k.prepares tx clock ≡ lines_of (done_stamp tx clock) tx p.own
    own =
        ap (λ (o : Option Prepared). option_map_or (λ (q : Prepared). lines_of (done_stamp tx clock) tx q.own) o [])
        (m.last tx p found)

    last : (t : TxId) (q : Prepared) → prepared_of (without_prepared k.promises tx) t ≡ Some q
        → prepared_of k.prepares t ≡ Some q
    last t q e = by (same_tx tx t) refl
      where
        by : (b : Bool) → same_tx tx t ≡ b → prepared_of k.prepares t ≡ Some q
        by true is =
            let gone : prepared_of (without_prepared k.promises tx) t ≡ None =
            subst (λ (u : TxId). prepared_of (without_prepared k.promises tx) u ≡ None) (same_tx_is tx t is)
            (prepared-without k.promises tx) in
            absurd (let both : Some q ≡ None = sym e ∙ gone in let never : ⊥ = cc in never)
        by false is = m.last t q (sym (prepared-without_other k.promises tx t is) ∙ e)

-- it rises
pub kept_rises : (decl : Declaration) (k : Kept) (status : TxId → Status) (life : ℕ) (ds : List Deed)
    → KeptMirrors decl k status life ds → KeptMirrors decl (keeps k records.Life) status (suc life) (ds ++ Rises ∷ [])
kept_rises decl k status life ds m =
    let r : KeptMirrors decl k status life (ds ++ Rises ∷ []) =
    kept_same decl k status life ds Rises
    (leaves_life ds Rises refl refl (λ n c log. (λ same. (let never : ⊥ = cc in never)))) m refl refl
    (λ x never. absurd never) in
    record {
      life_is = (let e : k.life ≡ life = m.life_is in omega arith);
      epoch = r.epoch;
      planned = r.planned;
      shut = r.shut;
      closing = r.closing;
      installs = r.installs;
      stable = r.stable;
      kept = r.kept;
      sorted = r.sorted;
      done = r.done;
      passed = r.passed;
      promised = r.promised;
      last = r.last;
      apart = r.apart;
      lined = r.lined;
      begun = r.begun;
    }

-- it closes
pub kept_closes : (decl : Declaration) (k : Kept) (status : TxId → Status) (life : ℕ) (ds : List Deed) (epoch : ℕ)
    → KeptMirrors decl k status life ds → IsClosing decl k.epoch (Some epoch)
    → KeptMirrors decl (keeps k (records.Close epoch)) status (suc life) (ds ++ Closes ∷ [])
kept_closes decl k status life ds epoch m closing = record {
  life_is = (let e : k.life ≡ life = m.life_is in omega arith);
  epoch = epoch-append ds (Closes ∷ []) 1 ∙ m.epoch;
  planned = m.planned;
  shut = shut-append ds (Closes ∷ []) false;
  closing = closing;
  installs =
      λ n c log among. elim (In-either (Installs n c log) ds (Closes ∷ []) among) [
        | inl old ↦ m.installs n c log old
        | inr new ↦ elim new
            [ inl same ↦ absurd (let never : ⊥ = cc in never) | inr never ↦ absurd never ]
      ];
  stable = λ l among. m.stable l (subst (λ (s : Site). In l s.stable) (site_more ds Closes) among);
  kept = λ l among. subst (λ (s : Site). In l s.stable) (sym (site_more ds Closes)) (m.kept l among);
  sorted = m.sorted;
  done = λ x among. elim (done_last ds Closes empty_site x among) [ inl old ↦ m.done x old | inr never ↦ absurd never ];
  passed = λ l among. m.passed l (subst (λ (s : Site). In l s.stable) (site_more ds Closes) among);
  promised =
      λ t. subst (λ (s : Site). IsPromiseOf (promise_of t s.promises) (prepared_of k.promises t))
      (sym (site_more ds Closes)) (m.promised t);
  last = m.last;
  apart = m.apart;
  lined = m.lined;
  begun = m.begun;
}

-- it begins another epoch
pub kept_installs : (decl : Declaration) (k : Kept) (status : TxId → Status) (life : ℕ) (ds : List Deed)
    (epoch clock : ℕ) (log : List Line) → KeptMirrors decl k status life ds → IsPlanned decl epoch → IsAscending log
    → KeptMirrors decl (keeps k (records.Install (start_with epoch clock log))) status life
    (ds ++ Installs epoch clock log ∷ [])
kept_installs decl k status life ds epoch clock log m planned ascends = record {
  life_is = m.life_is;
  epoch = epoch-append ds (Installs epoch clock log ∷ []) 1;
  planned = planned;
  shut = shut-append ds (Installs epoch clock log ∷ []) false;
  closing = tt;
  installs = λ n c ls among. by n c ls (In-either (Installs n c ls) ds (Installs epoch clock log ∷ []) among);
  stable =
      λ l among. in_union l log []
      (inl (subst (λ (s : Site). In l s.stable) (site_more ds (Installs epoch clock log)) among));
  kept =
      λ l among. subst (λ (s : Site). In l s.stable) (sym (site_more ds (Installs epoch clock log)))
      (elim (in_either l log [] among) [ inl first ↦ first | inr never ↦ absurd never ]);
  sorted = (ascends, tt);
  done =
      λ x among. elim (done_last ds (Installs epoch clock log) empty_site x among) [
        | inl old ↦
            (let c : x.stamp.clock ≤ k.clock = m.done x old in
            let g : k.clock ≤ latest k.clock log = latest_later k.clock log in omega arith)
        | inr never ↦ absurd never
      ];
  passed =
      λ l among. (let c : l.stamp.clock ≤ latest k.clock log =
      latest_passes k.clock log l
      (subst (λ (s : Site). In l s.stable) (site_more ds (Installs epoch clock log)) among) in
      omega arith);
  promised =
      λ t. subst (λ (s : Site). IsPromiseOf (promise_of t s.promises) None)
      (sym (site_more ds (Installs epoch clock log))) tt;
  last = λ t p never. absurd (let none : ⊥ = cc in none);
  apart = tt;
  lined = λ p never. absurd never;
  begun = λ p never. absurd never;
}
  where
    by : (n c : ℕ) (ls : List Line) → In (Installs n c ls) ds ⊎ In (Installs n c ls) (Installs epoch clock log ∷ [])
        → c ≤ max (latest k.clock log) clock
    by n c ls (inl old) =
        let e : c ≤ k.clock = m.installs n c ls old in
        let g : k.clock ≤ latest k.clock log = latest_later k.clock log in omega arith
    by n c ls (inr (inl same)) = let e : c ≡ clock = cc in omega arith
    by n c ls (inr (inr never)) = absurd never
