-- What stays of a client as its transaction's status changes, and the acts that change it.
use Rattle.std.proofs.Common.{◌≡◌, ◌≢◌, ◌≤◌, ◌<◌, ℕ, Bool, true, false, ◌⊎◌, inl, inr, List, ◌∷◌, Option, Some, None}
use Rattle.std.proofs.Common.{refl, sym, ap, ◌∙◌, subst, arith}
use Rattle.qc_stamp.specs.Vocabulary.{same_tx}
use Rattle.qc_stamp.specs.declared.stamp.TxId.{TxId}
use Rattle.qc_stamp.proofs.Orders.{same_tx_is, same_tx_test}
use Rattle.qc_list.specs.Vocabulary.{In}
use Rattle.qc_entry.specs.declared.record.Commit.{Commit as CommitRecord}
use Rattle.qc_plan.specs.declared.plan.Plan.{Plan}
use Rattle.qc_decl.specs.declared.declaration.Declaration.{Declaration}
use Rattle.qc_decl.specs.Vocabulary.{client_actor, plan_in}
use Rattle.qc_msg.specs.declared.message.Envelope.{Envelope}
use Rattle.theory_machine.specs.Vocabulary.{Abort, Aborted, Act, Active, Announce, Begin, Commit, Committed, IsLive}
use Rattle.theory_machine.specs.Vocabulary.{MayCommit, NotBegun, Pending, Prepare, State, Status, Voting, put_tx, state}
use Rattle.theory_machine.proofs.Names.{put_tx_here}
use Rattle.qc_commit.specs.declared.desk.Voting.{Voting as DeskVoting}
use Rattle.qc_commit.specs.Vocabulary.{record_of}
use Rattle.qc_front.specs.declared.transaction.Transaction.{Transaction}
use Rattle.qc_client.specs.Vocabulary.{is_begun}
use Rattle.qc_client.specs.declared.client.Client.{Client}
use Rattle.laws_refinement.specs.Vocabulary.{BegunMirrors, ClientMirrors, IsPlanned, OwnMirrors, RunningMirrors}
use Rattle.laws_refinement.specs.Vocabulary.{TransactionMirrors, name_at, status_by}
use Rattle.laws_refinement.proofs.ClientSteps.{Mid, elsewhere, mid_more, put_tx_other}
use Rattle.laws_refinement.proofs.Machine.{put_other}

live_only : (s : Status) → IsLive s → (s ≡ Active) ⊎ (s ≡ Voting)
live_only NotBegun live = absurd live
live_only Active live = inl refl
live_only Voting live = inr refl
live_only (Pending c) live = absurd live
live_only (Committed c) live = absurd live
live_only Aborted live = absurd live

pub live_by : (o : Option DeskVoting) → IsLive (status_by o)
live_by None = tt
live_by (Some v) = tt

not_committed : (s : Status) (c : CommitRecord) → IsLive s → s ≡ Committed c → ⊥
not_committed s c live e = subst IsLive e live

module _ (decl : Declaration) where
  -- a begun transaction, whatever runs of it
  pub record Ending (w : State) (a : ℕ) (c : Client) (t : Transaction) : Type 0 where
    pub own : OwnMirrors decl w a c (Some t)
    pub begun : TransactionMirrors w c.front t
    pub live : IsLive (w.status t.begun.tx)

  pub ending_of : (w : State) (ms : List Envelope) (a : ℕ) (c : Client) (t : Transaction) → ClientMirrors decl w ms a c
      → c.front.transaction ≡ Some t → Ending w a c t × RunningMirrors decl w ms c t
  ending_of w ms a c t m is =
      let h : TransactionMirrors w c.front t × RunningMirrors decl w ms c t =
      subst (λ (x : Option Transaction). BegunMirrors decl w ms c x) is m.begun in (
        record {
          own = subst (λ (x : Option Transaction). OwnMirrors decl w a c x) is m.own;
          begun = h.0;
          live = subst IsLive (sym h.1.status_is) (live_by c.desk.voting);
        },
        h.1,
      )

  pub ends_mine : (w : State) (a : ℕ) (c : Client) (t : Transaction) → Ending w a c t
      → t.begun.tx.client ≡ c.front.client
  ends_mine w a c t e = ap (λ (u : TxId). u.client) e.begun.named

  -- what stays of a client as its transaction's status changes
  pub record Remains (c d : Client) : Type 0 where
    pub client : d.front.client ≡ c.front.client
    pub life : d.front.life ≡ c.front.life
    pub count : d.front.count ≡ c.front.count
    pub epoch : IsPlanned decl d.front.epoch
    pub desk : d.desk.client ≡ c.desk.client
    pub desk_epoch : IsPlanned decl d.desk.epoch

  -- the client's own, where its transaction's status changes
  pub own_put : (w v : State) (a : ℕ) (c d : Client) (t : Transaction) (s : Status) (begun : Option Transaction)
      → Ending w a c t → v.status ≡ put_tx w.status t.begun.tx s → Remains c d
      → v.clock c.front.client ≤ d.front.clock.value
      → ((r : CommitRecord) → In r d.desk.commits → In r c.desk.commits ⊎ ((r.tx ≡ t.begun.tx) × (s ≡ Committed r)))
      → ((u : TxId) → same_tx t.begun.tx u ≡ true → is_begun u begun ≡ false → record_of d.desk.commits u ≡ None
      → s ≡ Aborted)
      → ((u : TxId) → record_of d.desk.commits u ≡ None → record_of c.desk.commits u ≡ None)
      → OwnMirrors decl v a d begun
  own_put w v a c d t s begun e status r clock commits ends fewer = record {
    actor = e.own.actor ∙ ap (λ (n : ℕ). client_actor decl n) (sym r.client);
    desk = r.desk ∙ e.own.desk ∙ sym r.client;
    epoch = r.epoch;
    desk_epoch = r.desk_epoch;
    clock = subst (λ (n : ℕ). v.clock n ≤ d.front.clock.value) (sym r.client) clock;
    to_come = λ n later. ap (λ (g : TxId → Status). g (name_at d.front n)) status
        ∙ put_tx_other w.status t.begun.tx s (name_at d.front n)
        (λ same. (let k : n ≡ c.front.count = ap (λ (u : TxId). u.number) (same ∙ e.begun.named) in
        let l : c.front.count < n = subst (λ (x : ℕ). x < n) r.count later in absurd (omega arith)))
        ∙ subst (λ (x : ℕ). w.status (record { client = x; life = d.front.life; number = n }) ≡ NotBegun) (sym r.client)
        (subst (λ (x : ℕ). w.status (record { client = c.front.client; life = x; number = n }) ≡ NotBegun)
        (sym r.life) (e.own.to_come n (subst (λ (x : ℕ). x < n) r.count later)));
    lives_to_come = λ u mine later. (let l : c.front.life < u.life = subst (λ (x : ℕ). x < u.life) r.life later in
        ap (λ (g : TxId → Status). g u) status
        ∙ put_tx_other w.status t.begun.tx s u
        (λ same. (let k : u.life ≡ c.front.life = ap (λ (x : TxId). x.life) (same ∙ e.begun.named) in
        absurd (omega arith))) ∙ e.own.lives_to_come u (mine ∙ r.client) l);
    committed = λ x among. elim (commits x among) [
      | inl old ↦ (
        (e.own.committed x old).0 ∙ sym r.client,
        ap (λ (g : TxId → Status). g x.tx) status ∙ put_tx_other w.status t.begun.tx s x.tx
            (λ same. not_committed (w.status t.begun.tx) x e.live (ap w.status (sym same) ∙ (e.own.committed x old).1))
            ∙ (e.own.committed x old).1,
      )
      | inr new ↦ (
        ap (λ (u : TxId). u.client) new.0 ∙ ends_mine w a c t e ∙ sym r.client,
        ap (λ (g : TxId → Status). g x.tx) status ∙ ap (λ (u : TxId). put_tx w.status t.begun.tx s u) new.0
            ∙ put_tx_here w.status t.begun.tx s ∙ new.1,
      )
    ];
    aborted = λ u mine born other none. by u mine born other none (same_tx t.begun.tx u) refl;
  }
    where
      by : (u : TxId) → u.client ≡ d.front.client → v.status u ≢ NotBegun → is_begun u begun ≡ false
          → record_of d.desk.commits u ≡ None → (k : Bool) → same_tx t.begun.tx u ≡ k → v.status u ≡ Aborted
      by u mine born other none true is =
          ap (λ (g : TxId → Status). g u) status
          ∙ ap (λ (x : TxId). put_tx w.status t.begun.tx s x) (sym (same_tx_is t.begun.tx u is))
          ∙ put_tx_here w.status t.begun.tx s ∙ ends u is other none
      by u mine born other none false is =
          let stays : v.status u ≡ w.status u =
          ap (λ (g : TxId → Status). g u) status
          ∙ put_tx_other w.status t.begun.tx s u
          (λ same. (let k : same_tx t.begun.tx u ≡ true = same_tx_test t.begun.tx u (sym same) in
          let never : ⊥ = cc in never)) in
          stays ∙ e.own.aborted u (mine ∙ r.client) (λ k. born (stays ∙ k)) is (fewer u none)

  -- acts that change a live transaction's status

  module _ (w : State) (acts : List Act) (n : ℕ) (m : Mid decl w acts n) where
    pub mid_announce : (tx : TxId) → Mid decl w (Announce tx ∷ acts) n
    mid_announce tx = mid_more decl w acts n (Announce tx) m tt tt
        (λ d other. record {
          status = λ t h. refl;
          epoch = λ t h. refl;
          executed = λ t h. refl;
          chosen = λ t h. refl;
          clock = refl;
          counted = λ g its h. h;
          more = λ g h. h;
          votes = λ x h. h;
          appends = λ s h. h;
        })

    pub mid_abort : (tx : TxId) → tx.client ≡ n → IsLive ((state acts).status tx) → Mid decl w (Abort tx ∷ acts) n
    mid_abort tx its live = mid_more decl w acts n (Abort tx) m (live_only ((state acts).status tx) live) tt
        (λ d other. record {
          status = λ t h. elsewhere (state acts).status tx Aborted t n d its h other;
          epoch = λ t h. refl;
          executed = λ t h. refl;
          chosen = λ t h. refl;
          clock = refl;
          counted = λ g theirs h. h;
          more = λ g h. h;
          votes = λ x h. h;
          appends = λ s h. h;
        })

    pub mid_prepare : (tx : TxId) → tx.client ≡ n → (state acts).status tx ≡ Active → (state acts).chosen tx ≡ None
        → Mid decl w (Prepare tx ∷ acts) n
    mid_prepare tx its active none = mid_more decl w acts n (Prepare tx) m (active, none) tt
        (λ d other. record {
          status = λ t h. elsewhere (state acts).status tx Voting t n d its h other;
          epoch = λ t h. refl;
          executed = λ t h. refl;
          chosen = λ t h. refl;
          clock = refl;
          counted = λ g theirs h. h;
          more = λ g h. h;
          votes = λ x h. h;
          appends = λ s h. h;
        })

    pub mid_commit : (x : CommitRecord) → x.tx.client ≡ n → MayCommit (state acts) x → Mid decl w (Commit x ∷ acts) n
    mid_commit x its may = mid_more decl w acts n (Commit x) m may tt
        (λ d other. record {
          status = λ t h. elsewhere (state acts).status x.tx (Committed x) t n d its h other;
          epoch = λ t h. refl;
          executed = λ t h. refl;
          chosen = λ t h. refl;
          clock = put_other (state acts).clock x.tx.client x.stamp.clock d (λ e. other (e ∙ its));
          counted = λ g theirs h. h;
          more = λ g h. h;
          votes = λ x h. h;
          appends = λ s h. h;
        })

    pub mid_begin : (tx : TxId) (epoch : ℕ) (plan : Plan) → tx.client ≡ n → (state acts).status tx ≡ NotBegun
        → plan_in decl epoch ≡ Some plan → Mid decl w (Begin tx epoch ∷ acts) n
    mid_begin tx epoch plan its fresh planned = mid_more decl w acts n (Begin tx epoch) m (fresh, (plan, planned)) tt
        (λ d other. record {
          status = λ t h. elsewhere (state acts).status tx Active t n d its h other;
          epoch = λ t h. elsewhere (state acts).epoch tx epoch t n d its h other;
          executed = λ t h. refl;
          chosen = λ t h. refl;
          clock = refl;
          counted = λ g theirs h. h;
          more = λ g h. h;
          votes = λ x h. h;
          appends = λ s h. h;
        })
