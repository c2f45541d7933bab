-- Acts of a client that leave its transaction's status: it counts a grant, and executes an operation.
use Rattle.std.proofs.Common.{Some, None, ◌≡◌, ◌≢◌, ℕ, ◌≤◌, inl, inr, List, ◌∷◌, map, Option, sym, ap, ◌∙◌, subst}
use Rattle.std.proofs.Common.{arith}
use Rattle.std.specs.Prelude.{max}
use Rattle.qc_stamp.specs.declared.stamp.TxId.{TxId}
use Rattle.qc_decl.specs.declared.declaration.Declaration.{Declaration}
use Rattle.qc_list.specs.Vocabulary.{In}
use Rattle.theory_onecopy.specs.Vocabulary.{Executed}
use Rattle.qc_list.proofs.Members.{In-first, In-second}
use Rattle.theory_machine.specs.Vocabulary.{Active, AppendRequest, Count, CountedLaw, Deed, Granted, GrantedLaw, Grants}
use Rattle.theory_machine.specs.Vocabulary.{HasRecord, IsAllowed, MayPrepare, NotBegun, Prepares, State, StateLaws}
use Rattle.theory_machine.specs.Vocabulary.{Status, Voting, after_act, op_of, put}
use Rattle.qc_entry.specs.declared.record.Commit.{Commit as CommitRecord}
use Rattle.theory_machine.proofs.Names.{put_case, put_here}
use Rattle.theory_machine.proofs.Deeds.{calm_all}
use Rattle.theory_machine.proofs.Outcomes.{active_mild, not_active}

-- a transaction isn't voted on, and has no record
pub record IsUnderWay (s : Status) : Type 0 where
  pub unvoted : s ≢ Voting
  pub unrecorded : (c : CommitRecord) → HasRecord s c → ⊥

pub active_under_way : (s : Status) → s ≡ Active → IsUnderWay s
active_under_way s e = record {
  unvoted = λ v. (let x : Active ≡ Voting = sym e ∙ v in absurd (let never : ⊥ = cc in never));
  unrecorded = λ c h. subst (λ (x : Status). HasRecord x c) e h;
}

module _ (decl : Declaration) where
  pub count_keeps : (w : State) (g : Granted) → IsAllowed decl w (Count g) → StateLaws decl w
      → StateLaws decl (after_act w (Count g))
  count_keeps w g ok l = record {
    verdicts = l.verdicts;
    deeds = l.deeds;
    granted = l.granted;
    facts = l.facts;
    known = λ h i. elim i [
      | inl same ↦ subst (λ (x : Granted). In x w.granted)
          (sym same) ok.0
      | inr old ↦ l.known h old
    ];
    counted = λ h i. elim i [
      | inl same ↦ subst
          (λ (x : Granted). CountedLaw (w.deeds x.site) (w.life x.site) (w.status x.tx) w.votes x)
          (sym same) new
      | inr old ↦ l.counted h old
    ];
    votes = l.votes;
    begun = λ h i. elim i [
      | inl same ↦ (λ e. let x : Active ≡ NotBegun = sym ok.1
          ∙ subst (λ (y : Granted). w.status y.tx ≡ NotBegun) same e in cc)
      | inr old ↦ l.begun h old
    ];
    passed = λ h i live. elim i [
      | inl same ↦ subst (λ (x : Granted). x.clock ≤ put w.clock g.tx.client
          (max (w.clock g.tx.client) g.clock) x.tx.client) (sym same) here
      | inr old ↦ let a : h.clock ≤ w.clock h.tx.client = l.passed h old live in
          let b : w.clock h.tx.client ≤ put w.clock g.tx.client (max (w.clock g.tx.client) g.clock) h.tx.client =
          clocks h.tx.client in omega arith
    ];
    seen_by = λ client h. put_case (λ (gs : List Granted). In h gs
        → In h w.granted × (h.clock ≤ put w.clock g.tx.client (max (w.clock g.tx.client) g.clock) client)) w.seen_by
        g.tx.client (g ∷ w.seen_by g.tx.client) client
        (λ e i. elim i [
          | inl same ↦ (
            subst (λ (x : Granted). In x w.granted) (sym same) ok.0,
            subst (λ (x : Granted). x.clock ≤ put w.clock g.tx.client (max (w.clock g.tx.client) g.clock) client)
                (sym same)
                (subst (λ (n : ℕ). g.clock ≤ put w.clock g.tx.client (max (w.clock g.tx.client) g.clock) n)
                (sym e) here),
          )
          | inr old ↦ older client h (subst (λ (n : ℕ). In h (w.seen_by n)) (sym e) old)
        ])
        (λ ne i. older client h i);
    quiet = l.quiet;
    record_of = λ tx c h. (let r = l.record_of tx c h in
        let cl : w.clock tx.client ≤ put w.clock g.tx.client (max (w.clock g.tx.client) g.clock) tx.client =
        clocks tx.client in record {
          named = r.named;
          client = r.client;
          low = (let x : c.stamp.clock ≤ w.clock tx.client = r.low in omega arith);
          ops = r.ops;
          none_chosen = r.none_chosen;
          agreed = λ i m e. elim m [
            | inl same ↦ absurd (not_active w.status g.tx tx c ok.1 h (sym e ∙ ap (λ (x : Granted). x.tx) same))
            | inr old ↦ r.agreed i old e
          ];
        });
    apart = l.apart;
    written = l.written;
    writes = l.writes;
    counts_epoch = λ h i. elim i [
      | inl same ↦ subst (λ (x : Granted). x.epoch ≡ w.epoch x.tx)
          (sym same) ok.2
      | inr old ↦ l.counts_epoch h old
    ];
    planned = l.planned;
    installed = l.installed;
    rising = l.rising;
    snapped = l.snapped;
    answers = l.answers;
    made = l.made;
  }
    where
      clocks : (client : ℕ) → w.clock client ≤ put w.clock g.tx.client (max (w.clock g.tx.client) g.clock) client
      clocks client = put_case (λ (n : ℕ). w.clock client ≤ n) w.clock g.tx.client
          (max (w.clock g.tx.client) g.clock) client
          (λ e. let x : w.clock client ≡ w.clock g.tx.client = ap w.clock e in omega arith) (λ ne. omega arith)

      here : g.clock ≤ put w.clock g.tx.client (max (w.clock g.tx.client) g.clock) g.tx.client
      here = let x : put w.clock g.tx.client (max (w.clock g.tx.client) g.clock) g.tx.client ≡ max
          (w.clock g.tx.client) g.clock = put_here w.clock g.tx.client (max (w.clock g.tx.client) g.clock) in
          omega arith

      older : (client : ℕ) (h : Granted) → In h (w.seen_by client)
          → In h w.granted × (h.clock ≤ put w.clock g.tx.client (max (w.clock g.tx.client) g.clock) client)
      older client h i = let r = l.seen_by client h i in let a : h.clock ≤ w.clock client = r.1 in
          let b : w.clock client ≤ put w.clock g.tx.client (max (w.clock g.tx.client) g.clock) client = clocks client in
          (r.0, omega arith)

      k : GrantedLaw (w.deeds g.site) (w.life g.site) g
      k = l.granted g ok.0

      never_prepares : MayPrepare (w.status g.tx) → ⊥
      never_prepares a = subst (λ (s : Status). MayPrepare s) ok.1 a

      behind : (d : Deed) → In d k.post → In d (w.deeds g.site)
      behind d h = subst (λ (ds : List Deed). In d ds) (sym k.split)
          (In-second d g.before (Grants g.tx g.items g.view ∷ k.post) (inr h))

      new : CountedLaw (w.deeds g.site) (w.life g.site) (w.status g.tx) w.votes g
      new = record {
        post = k.post;
        split = k.split;
        fresh = λ h. never_prepares (l.deeds g.site (Prepares g.tx)
            (subst (λ (ds : List Deed). In (Prepares g.tx) ds) (sym k.split)
            (In-first (Prepares g.tx) g.before (Grants g.tx g.items g.view ∷ k.post) h)));
        unvoted = λ alive e. calm_all g.tx k.post (k.calm e)
            (λ d h. active_mild w.status g.tx ok.1 d (l.deeds g.site d (behind d h)))
            (λ h. never_prepares (l.deeds g.site (Prepares g.tx) (behind (Prepares g.tx) h)));
        voted = λ alive v. absurd (never_prepares (l.votes (record { tx = g.tx; site = g.site }) v));
      }

  -- an operation is chosen, or executed: the transaction is active
  -- one with a chosen operation
  pub chosen_under_way : (w : State) (tx : TxId) (operation : Executed) → w.chosen tx ≡ Some operation
      → StateLaws decl w → IsUnderWay (w.status tx)
  chosen_under_way w tx operation is l = record {
    unvoted = λ v. (let x : None ≡ Some operation = sym (l.quiet tx v) ∙ is in absurd (let never : ⊥ = cc in never));
    unrecorded = λ c h. (let x : None ≡ Some operation = sym ((l.record_of tx c h).none_chosen)
        ∙ is in absurd (let never : ⊥ = cc in never));
  }

  pub executes : (w : State) (tx : TxId) (executed : TxId → List Executed) (chosen : TxId → Option Executed)
      (appends : List AppendRequest) → IsUnderWay (w.status tx) → ((t : TxId) → (t ≢ tx) → w.executed t ≡ executed t)
      → ((t : TxId) → (t ≢ tx) → w.chosen t ≡ chosen t)
      → StateLaws decl w → StateLaws decl (record w { executed = executed; chosen = chosen; appends = appends })
  executes w tx executed chosen appends e same_executed same_chosen l = record {
    verdicts = l.verdicts;
    deeds = l.deeds;
    granted = l.granted;
    facts = l.facts;
    known = l.known;
    counted = l.counted;
    votes = l.votes;
    begun = l.begun;
    passed = l.passed;
    seen_by = l.seen_by;
    quiet = λ t v. sym (same_chosen t (λ same. e.unvoted (ap w.status (sym same) ∙ v))) ∙ l.quiet t v;
    record_of = λ t c h. (let r = l.record_of t c h in
        let ne : t ≢ tx = (λ same. e.unrecorded c (subst (λ (x : TxId). HasRecord (w.status x) c) same h)) in record {
          named = r.named;
          client = r.client;
          low = r.low;
          ops = r.ops ∙ ap (map op_of) (same_executed t ne);
          none_chosen = sym (same_chosen t ne) ∙ r.none_chosen;
          agreed = r.agreed;
        });
    apart = l.apart;
    written = l.written;
    writes = l.writes;
    counts_epoch = l.counts_epoch;
    planned = l.planned;
    installed = l.installed;
    rising = l.rising;
    snapped = l.snapped;
    answers = l.answers;
    made = l.made;
  }
