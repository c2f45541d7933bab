-- How a client's transaction ends: the machine's acts, and what the client is then.
use Rattle.std.proofs.Common.{[], ◌≡◌, ◌≤◌, ℕ, ◌+◌, max, Bool, true, false, cond, inl, inr, List, ◌∷◌, ◌++◌, map}
use Rattle.std.proofs.Common.{Option, Some, None, refl, sym, ap, ◌∙◌, subst, arith}
use Rattle.std.specs.List.{find}
use Rattle.qc_stamp.specs.Vocabulary.{same_tx}
use Rattle.qc_stamp.specs.declared.stamp.TxId.{TxId}
use Rattle.qc_list.specs.Vocabulary.{In}
use Rattle.qc_entry.specs.declared.record.Commit.{Commit as CommitRecord}
use Rattle.qc_decl.specs.declared.declaration.Declaration.{Declaration}
use Rattle.qc_front.specs.declared.front.Front.{Front}
use Rattle.qc_msg.specs.declared.record.Record.{Record}
use Rattle.qc_msg.specs.declared.record.Record.TheVariants as records_of
use Rattle.qc_msg.specs.declared.message.Envelope.{Envelope}
use Rattle.qc_msg.specs.declared.message.Message.TheVariants as messages
use Rattle.qc_msg.specs.declared.message.Outcome.{Outcome}
use Rattle.qc_msg.specs.declared.message.Outcome.TheVariants as outcomes
use Rattle.qc_msg.specs.declared.turn.Posting.{Posting}
use Rattle.qc_msg.specs.Vocabulary.{decisions}
use Rattle.theory_machine.specs.Vocabulary.{Abort, Aborted, Act, Announce, Commit, Committed, Granted, MayCommit, State}
use Rattle.theory_machine.specs.Vocabulary.{Status, Voting, put, put_tx, state, verdict_of}
use Rattle.theory_machine.proofs.Names.{put_here, put_tx_here}
use Rattle.qc_commit.specs.Vocabulary.{commit_of, decides, next_stamp, record_of}
use Rattle.qc_front.specs.declared.doing.Doing.TheVariants.{Idle}
use Rattle.qc_front.specs.declared.transaction.Transaction.{Transaction}
use Rattle.qc_client.specs.Vocabulary.{ClientMove, by_desk}
use Rattle.qc_client.specs.declared.client.Client.{Client}
use Rattle.laws_refinement.specs.Vocabulary.{Backed, BegunMirrors, ClientMirrors, IsPlanned, Net, OwnMirrors}
use Rattle.laws_refinement.specs.Vocabulary.{commits_in}
use Rattle.laws_refinement.proofs.Planned.{planned_max}
use Rattle.laws_refinement.proofs.RequestsSent.{IsAsking}
use Rattle.laws_refinement.proofs.ClientSteps.{Mid, Turned, turns}
use Rattle.laws_refinement.proofs.ClientEnding.{Ending, ends_mine, Remains, own_put, mid_abort, mid_announce}
use Rattle.laws_refinement.proofs.ClientEnding.{mid_commit}
use Rattle.qc_list.proofs.Members.{In-either}

module _ (decl : Declaration) where
  -- decisions

  told_all : (v : State) (ms : List Envelope) (a : ℕ) (tx : TxId) (outcome : Outcome) (sites : List ℕ)
      → ((to : ℕ) → Backed decl v ms a to (messages.Decision tx outcome))
      → (p : Posting) → In p (map (λ (site : ℕ). record { to = site; message = messages.Decision tx outcome }) sites)
      → Backed decl v ms a p.to p.message
  told_all v ms a tx outcome [] backed p among = absurd among
  told_all v ms a tx outcome (site ∷ sites) backed p (inl same) =
      subst (λ (x : Posting). Backed decl v ms a x.to x.message) (sym same) (backed site)
  told_all v ms a tx outcome (site ∷ sites) backed p (inr rest) = told_all v ms a tx outcome sites backed p rest

  told_asks : (c : Client) (tx : TxId) (outcome : Outcome) (sites : List ℕ) (p : Posting)
      → In p (map (λ (site : ℕ). record { to = site; message = messages.Decision tx outcome }) sites)
      → IsAsking decl c p.to p.message
  told_asks c tx outcome [] p among = absurd among
  told_asks c tx outcome (site ∷ sites) p (inl same) =
      subst (λ (x : Posting). IsAsking decl c x.to x.message) (sym same) tt
  told_asks c tx outcome (site ∷ sites) p (inr rest) = told_asks c tx outcome sites p rest

  -- nothing is begun any more
  pub record Gone (c : Client) (move : ClientMove) : Type 0 where
    pub remains : Remains decl c move.client
    pub later : c.front.clock.value ≤ move.client.front.clock.value
    pub transaction : move.client.front.transaction ≡ None
    pub doing : move.client.front.doing ≡ Idle
    pub voting : move.client.desk.voting ≡ None

  gone_mirrors : (w : State) (ms : List Envelope) (a : ℕ) (c : Client) (move : ClientMove) → Gone c move
      → OwnMirrors decl w a move.client None → ClientMirrors decl w ms a move.client
  gone_mirrors w ms a c move g own = record {
    own = subst (λ (x : Option Transaction). OwnMirrors decl w a move.client x) (sym g.transaction) own;
    begun =
        subst (λ (x : Option Transaction). BegunMirrors decl w ms move.client x) (sym g.transaction)
        (record { doing = g.doing; voting = g.voting });
  }

  -- it is given up, and this is told
  pub aborts_it : (w : State) (acts : List Act) (net : Net) (a : ℕ) (c : Client) (t : Transaction) (move : ClientMove)
      → c.front.client ≡ (net.clients a).front.client → Mid decl w acts (net.clients a).front.client
      → (state acts).records ≡ w.records → Ending decl (state acts) a c t
      → Gone c move → move.client.desk.commits ≡ c.desk.commits → move.turn.sends ≡ decisions t.begun outcomes.Aborted
      → commits_in move.turn.write ≡ [] → Turned decl w net a move
  aborts_it w acts net a c t move its m records e gone same sends unwritten =
      turns decl w net a move (Announce tx ∷ Abort tx ∷ acts)
      (mid_announce decl w (Abort tx ∷ acts) (net.clients a).front.client
      (mid_abort decl w acts (net.clients a).front.client m tx (ends_mine decl (state acts) a c t e ∙ its) e.live) tx)
      (records ∙ ap (λ (rs : List CommitRecord). rs ++ w.records) (sym unwritten))
      (gone_mirrors (state (Announce tx ∷ Abort tx ∷ acts)) net.mail a c move gone
      (own_put decl (state acts) (state (Announce tx ∷ Abort tx ∷ acts)) a c move.client t Aborted None e refl
      gone.remains
      (let l : (state acts).clock c.front.client ≤ c.front.clock.value = e.own.clock in
      let k : c.front.clock.value ≤ move.client.front.clock.value = gone.later in omega arith)
      (λ r h. inl (subst (λ (rs : List CommitRecord). In r rs) same h)) (λ u is other none. refl)
      (λ u none. subst (λ (rs : List CommitRecord). record_of rs u ≡ None) same none)))
      (λ p among. told_all (state (Announce tx ∷ Abort tx ∷ acts)) net.mail a tx outcomes.Aborted t.begun.asked
      (λ to. told) p (subst (λ (ps : List Posting). In p ps) sends among))
      (λ p among. told_asks move.client tx outcomes.Aborted t.begun.asked p
      (subst (λ (ps : List Posting). In p ps) sends among))
    where
      tx : TxId
      tx = t.begun.tx

      told : In (record { tx = t.begun.tx; stamp = None })
          (verdict_of t.begun.tx (put_tx (state acts).status t.begun.tx Aborted t.begun.tx) ++ (state acts).verdicts)
      told =
          subst (λ (s : Status). In (record { tx = t.begun.tx; stamp = None })
          (verdict_of t.begun.tx s ++ (state acts).verdicts)) (sym (put_tx_here (state acts).status t.begun.tx Aborted))
          (inl refl)

  find_front : {A : Type 0} (p : A → Bool) (xs ys : List A) → find p (xs ++ ys) ≡ None → find p xs ≡ None
  find_front p [] ys e = refl
  find_front {A = A} p (x ∷ xs) ys e = by (p x) e (find_front p xs ys)
    where
      by : (b : Bool) → cond b (Some x) (find p (xs ++ ys)) ≡ None → (find p (xs ++ ys) ≡ None → find p xs ≡ None)
          → cond b (Some x) (find p xs) ≡ None
      by true k rest = absurd (let never : ⊥ = cc in never)
      by false k rest = rest k

  find_last : {A : Type 0} (p : A → Bool) (xs : List A) (y : A) → p y ≡ true → find p (xs ++ y ∷ []) ≡ None → ⊥
  find_last {A = A} p [] y t e = by (p y) t e
    where
      by : (b : Bool) → b ≡ true → cond b (Some y) None ≡ None → ⊥
      by true k f = let never : ⊥ = cc in never
      by false k f = let never : ⊥ = cc in never
  find_last {A = A} p (x ∷ xs) y t e = by (p x) e (find_last p xs y t)
    where
      by : (b : Bool) → cond b (Some x) (find p (xs ++ y ∷ [])) ≡ None → (find p (xs ++ y ∷ []) ≡ None → ⊥) → ⊥
      by true k rest = let never : ⊥ = cc in never
      by false k rest = rest k

  -- it commits, and this is told
  pub commits_it : (w : State) (acts : List Act) (net : Net) (a : ℕ) (c : Client) (t : Transaction)
      → c.front.client ≡ (net.clients a).front.client → Mid decl w acts (net.clients a).front.client
      → (state acts).records ≡ w.records → Ending decl (state acts) a c t → (state acts).status t.begun.tx ≡ Voting
      → (state acts).clock c.front.client ≤ c.desk.clock.value
      → ((g : Granted) → In g (state acts).counted → g.tx ≡ t.begun.tx
      → In (record { tx = t.begun.tx; site = g.site }) (state acts).votes)
      → Turned decl w net a (by_desk c (decides c.desk t.begun))
  commits_it w acts net a c t its m records e voting clock votes =
      turns decl w net a (by_desk c (decides c.desk t.begun)) (Announce t.begun.tx ∷ Commit x ∷ acts)
      (mid_announce decl w (Commit x ∷ acts) (net.clients a).front.client
      (mid_commit decl w acts (net.clients a).front.client m x (ends_mine decl (state acts) a c t e ∙ its) may)
      t.begun.tx)
      (ap (λ (rs : List CommitRecord). commit_of (next_stamp c.desk) t.begun ∷ rs) records)
      (gone_mirrors (state (Announce t.begun.tx ∷ Commit x ∷ acts)) net.mail a c (by_desk c (decides c.desk t.begun))
      (record { remains = remains; later = omega arith; transaction = refl; doing = refl; voting = refl })
      (own_put decl (state acts) (state (Announce t.begun.tx ∷ Commit (commit_of (next_stamp c.desk) t.begun) ∷ acts)) a
      c
      (by_desk c (decides c.desk t.begun)).client t (Committed (commit_of (next_stamp c.desk) t.begun)) None e refl
      remains clock_is
      (λ r h.
      elim (In-either r c.desk.commits (commit_of (next_stamp c.desk) t.begun ∷ []) h) [
        | inl old ↦ inl old
        | inr new ↦ elim new [
          | inl same ↦ inr (ap (λ (y : CommitRecord). y.tx) same, ap Committed (sym same))
          | inr never ↦ absurd
              never
        ]
      ])
      (λ u same other none. absurd (find_last (λ (r : CommitRecord). same_tx r.tx u) c.desk.commits
      (commit_of (next_stamp c.desk) t.begun) same none))
      (λ u none. find_front (λ (r : CommitRecord). same_tx r.tx u) c.desk.commits
      (commit_of (next_stamp c.desk) t.begun ∷ []) none)))
      (told_all (state (Announce t.begun.tx ∷ Commit (commit_of (next_stamp c.desk) t.begun) ∷ acts)) net.mail a
      t.begun.tx (outcomes.Committed (next_stamp c.desk)) t.begun.asked (λ to. told))
      (told_asks (by_desk c (decides c.desk t.begun)).client t.begun.tx (outcomes.Committed (next_stamp c.desk))
      t.begun.asked)
    where
      x : CommitRecord
      x = commit_of (next_stamp c.desk) t.begun

      mine : t.begun.tx.client ≡ c.front.client
      mine = ends_mine decl (state acts) a c t e

      epochs : IsPlanned decl (max c.front.epoch c.desk.epoch)
      epochs = planned_max decl c.front.epoch c.desk.epoch e.own.epoch e.own.desk_epoch

      remains : Remains decl c (by_desk c (decides c.desk t.begun)).client
      remains =
          record {
            client = refl;
            life = refl;
            count = refl;
            epoch = epochs;
            desk = refl;
            desk_epoch = e.own.desk_epoch;
          }

      may : MayCommit (state acts) (commit_of (next_stamp c.desk) t.begun)
      may = record {
        voting = voting;
        -- AllHaveVoted
        votes = votes;
        client = e.own.desk ∙ sym (ends_mine decl (state acts) a c t e);
        above =
            (let k : (state acts).clock t.begun.tx.client ≡ (state acts).clock c.front.client =
            ap (state acts).clock (ends_mine decl (state acts) a c t e) in
            omega arith);
        ops = e.begun.ops;
      }

      clock_is : put (state acts).clock t.begun.tx.client (c.desk.clock.value + 1) c.front.client
          ≤ max c.front.clock.value (c.desk.clock.value + 1)
      clock_is =
          subst (λ (n : ℕ). put (state acts).clock t.begun.tx.client (c.desk.clock.value + 1) n
          ≤ max c.front.clock.value (c.desk.clock.value + 1)) mine
          (let k : put (state acts).clock t.begun.tx.client (c.desk.clock.value + 1) t.begun.tx.client
          ≡ c.desk.clock.value + 1 =
          put_here (state acts).clock t.begun.tx.client (c.desk.clock.value + 1) in
          omega arith)

      told : In (record { tx = t.begun.tx; stamp = Some (next_stamp c.desk) })
          (verdict_of t.begun.tx
          (put_tx (state acts).status t.begun.tx (Committed (commit_of (next_stamp c.desk) t.begun)) t.begun.tx)
          ++ (state acts).verdicts)
      told =
          subst (λ (s : Status). In (record { tx = t.begun.tx; stamp = Some (next_stamp c.desk) })
          (verdict_of t.begun.tx s ++ (state acts).verdicts))
          (sym (put_tx_here (state acts).status t.begun.tx (Committed (commit_of (next_stamp c.desk) t.begun))))
          (inl refl)

  -- the record that it would have written may commit its transaction
  pub record Pends (w : State) (net : Net) (a : ℕ) (r : Record) : Type 0 where
    pub acts : List Act
    pub client : Client
    pub transaction : Transaction
    pub commit : CommitRecord
    pub is : r ≡ records_of.Commit commit
    pub mid : Mid decl w acts client.front.client
    pub records : (state acts).records ≡ w.records
    pub own : OwnMirrors decl (state acts) a client (Some transaction)
    pub may : MayCommit (state acts) commit
    pub its : commit.tx ≡ transaction.begun.tx
    pub mine : transaction.begun.tx.client ≡ client.front.client
    pub front : client.front ≡ (net.clients a).front
    pub commits : client.desk.commits ≡ (net.clients a).desk.commits

  pub pends_it : (w : State) (acts : List Act) (net : Net) (a : ℕ) (c : Client) (t : Transaction)
      → c.front ≡ (net.clients a).front → c.desk.commits ≡ (net.clients a).desk.commits
      → Mid decl w acts (net.clients a).front.client → (state acts).records ≡ w.records → Ending decl (state acts) a c t
      → (state acts).status t.begun.tx ≡ Voting
      → (state acts).clock c.front.client ≤ c.desk.clock.value
      → ((g : Granted) → In g (state acts).counted → g.tx ≡ t.begun.tx
      → In (record { tx = t.begun.tx; site = g.site }) (state acts).votes)
      → (r : Record) → (by_desk c (decides c.desk t.begun)).turn.write ≡ Some r
      → Pends w net a r × ((by_desk c (decides c.desk t.begun)).turn.failed_sends ≡ [])
  pends_it w acts net a c t front same m records e voting clock votes r wrote = (
    record {
      acts = acts;
      client = c;
      transaction = t;
      commit = commit_of (next_stamp c.desk) t.begun;
      is = (let k : records_of.Commit (commit_of (next_stamp c.desk) t.begun) ≡ r = cc in sym k);
      mid = subst (λ (n : ℕ). Mid decl w acts n) (sym (ap (λ (f : Front). f.client) front)) m;
      records = records;
      own = e.own;
      may = record {
        voting = voting;
        -- AllHaveVoted
        votes = votes;
        client = e.own.desk ∙ sym (ends_mine decl (state acts) a c t e);
        above =
            (let k : (state acts).clock t.begun.tx.client ≡ (state acts).clock c.front.client =
            ap (state acts).clock (ends_mine decl (state acts) a c t e) in
            omega arith);
        ops = e.begun.ops;
      };
      its = refl;
      mine = ends_mine decl (state acts) a c t e;
      front = front;
      commits = same;
    },
    refl,
  )
