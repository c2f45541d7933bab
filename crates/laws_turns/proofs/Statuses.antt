-- How a transaction's status goes on over a client's turns, and that each of their deeds is right for it.
use Rattle.std.proofs.Common.{◌≡◌, ◌≢◌, ℕ, ◌+◌, ◌<◌, ◌⊎◌, inl, inr, Bool, true, false, cond, List, [], ◌∷◌, ◌++◌}
use Rattle.std.proofs.Common.{Option, Some, None, refl, sym, ap, ◌∙◌, arith}
use Rattle.qc_list.specs.Vocabulary.{In}
use Rattle.qc_list.proofs.Members.{In-first, In-last, In-more}
use Rattle.qc_stamp.specs.declared.stamp.Stamp.{Stamp}
use Rattle.qc_stamp.specs.declared.stamp.TxId.{TxId}
use Rattle.qc_stamp.specs.Vocabulary.{same_tx}
use Rattle.qc_stamp.proofs.Orders.{same_tx_is, same_tx_test}
use Rattle.qc_entry.specs.declared.record.Commit.{Commit}
use Rattle.qc_promise.specs.Vocabulary.{Begun, Committed, Dead, Status, Unborn, given_up}
use Rattle.laws_turns.proofs.DealingParts.{HasRecord}

-- what a client keeps of its transactions, as far as their statuses go
pub record Page : Type 0 where
  pub client : ℕ
  pub life : ℕ
  pub count : ℕ
  pub commits : List Commit
  pub name : Option TxId

pub record IsStatus (tx : TxId) (s : Status) (p : Page) : Type 0 where
  pub begun : p.name ≡ Some tx → s ≡ Begun
  pub is_begun : s ≡ Begun → p.name ≡ Some tx
  pub committed : (c : Commit) → In c p.commits → c.tx ≡ tx → s ≡ Committed c.stamp
  pub is_committed : (stamp : Stamp) → s ≡ Committed stamp → HasRecord p.commits tx stamp
  pub unborn : p.life ≡ tx.life → p.client ≡ tx.client → p.count < tx.number → s ≡ Unborn
  pub mine : s ≢ Unborn → tx.client ≡ p.client

pub new_status : (tx : TxId) (client life : ℕ)
    → IsStatus tx Unborn (record { client = client; life = life; count = 0; commits = []; name = None })
new_status tx client life = record {
  begun = λ is. absurd (let no : ⊥ = cc in no);
  is_begun = λ is. absurd (let no : ⊥ = cc in no);
  committed = λ c among its. absurd among;
  is_committed = λ stamp is. absurd (let no : ⊥ = cc in no);
  unborn = λ l c n. refl;
  mine = λ born. absurd (born refl);
}

-- one begins
pub began : (tx : TxId) (s : Status) (p : Page) (x : TxId) → p.name ≡ None
    → x ≡ record { client = p.client; life = p.life; number = p.count + 1 } → IsStatus tx s p
    → IsStatus tx (cond (same_tx x tx) Begun s) (record p { count = p.count + 1; name = Some x })
began tx s p x free named w = by (same_tx x tx) refl where
  fresh : x ≡ tx → s ≡ Unborn
  fresh same =
      let e : tx ≡ record { client = p.client; life = p.life; number = p.count + 1 } = sym same ∙ named in
      w.unborn (sym (ap (λ (t : TxId). t.life) e)) (sym (ap (λ (t : TxId). t.client) e))
      (let n : tx.number ≡ p.count + 1 = ap (λ (t : TxId). t.number) e in omega arith)

  by : (t : Bool) → same_tx x tx ≡ t → IsStatus tx (cond t Begun s) (record p { count = p.count + 1; name = Some x })
  by true is =
      let same : x ≡ tx = same_tx_is x tx is in
      let none : s ≡ Unborn = fresh same in
      record {
        begun = λ e. refl;
        is_begun = λ e. ap (λ (t : TxId). Some t) same;
        committed = λ c among its. absurd (let old : s ≡ Committed c.stamp = w.committed c among its in
            let no : ⊥ = cc in no);
        is_committed = λ stamp e. absurd (let no : ⊥ = cc in no);
        unborn = λ l c n. absurd (let m : tx.number ≡ p.count + 1 = ap (λ (t : TxId). t.number) (sym same ∙ named) in
            let k : p.count + 1 < tx.number = n in omega arith);
        mine = λ born. ap (λ (t : TxId). t.client) (sym same ∙ named);
      }
  by false is = record {
    begun = λ e. absurd (let same : x ≡ tx = cc in let yes : same_tx x tx ≡ true = same_tx_test x tx same in
        let no : ⊥ = cc in no);
    is_begun = λ e. absurd (let old : p.name ≡ Some tx = w.is_begun e in let no : ⊥ = cc in no);
    committed = w.committed;
    is_committed = w.is_committed;
    unborn = λ l c n. w.unborn l c (let k : p.count + 1 < tx.number = n in omega arith);
    mine = w.mine;
  }

-- the begun one is given up

not_begun : (s : Status) → given_up s ≡ Begun → ⊥
not_begun Unborn is = let no : ⊥ = cc in no
not_begun Begun is = let no : ⊥ = cc in no
not_begun (Committed stamp) is = let no : ⊥ = cc in no
not_begun Dead is = let no : ⊥ = cc in no

was_committed : (s : Status) (stamp : Stamp) → given_up s ≡ Committed stamp → s ≡ Committed stamp
was_committed Unborn stamp is = absurd (let no : ⊥ = cc in no)
was_committed Begun stamp is = absurd (let no : ⊥ = cc in no)
was_committed (Committed old) stamp is = is
was_committed Dead stamp is = absurd (let no : ⊥ = cc in no)

pub gave_up : (tx : TxId) (s : Status) (p : Page) → IsStatus tx s p
    → IsStatus tx (given_up s) (record p { name = None })
gave_up tx s p w = record {
  begun = λ e. absurd (let no : ⊥ = cc in no);
  is_begun = λ e. absurd (not_begun s e);
  committed = λ c among its. ap given_up (w.committed c among its);
  is_committed = λ stamp e. w.is_committed stamp (was_committed s stamp e);
  unborn = λ l c n. ap given_up (w.unborn l c n);
  mine = λ born. w.mine (λ e. born (ap given_up e));
}

-- the begun one commits
pub commits_one : (tx : TxId) (s : Status) (p : Page) (x : Commit) → p.name ≡ Some x.tx → IsStatus tx s p
    → IsStatus tx (cond (same_tx x.tx tx) (Committed x.stamp) s)
    (record p { commits = p.commits ++ x ∷ []; name = None })
commits_one tx s p x named w = by (same_tx x.tx tx) refl where
  by : (t : Bool) → same_tx x.tx tx ≡ t → IsStatus tx (cond t (Committed x.stamp) s)
      (record p { commits = p.commits ++ x ∷ []; name = None })
  by true is = record {
    begun = λ e. absurd (let no : ⊥ = cc in no);
    is_begun = λ e. absurd (let no : ⊥ = cc in no);
    committed = λ c among its. one c its (In-more c x p.commits among);
    is_committed = λ stamp e. record { commit = x; listed = In-last x p.commits; named = same; stamped = cc };
    unborn = λ l c n. absurd (let none : s ≡ Unborn = w.unborn l c n in let here : s ≡ Begun = now in let no : ⊥ = cc in
        no);
    mine = λ born. w.mine (λ e. let here : s ≡ Begun = now in let no : ⊥ = cc in no);
  } where
    same : x.tx ≡ tx
    same = same_tx_is x.tx tx is

    now : s ≡ Begun
    now = w.begun (named ∙ ap (λ (t : TxId). Some t) same)

    one : (c : Commit) → c.tx ≡ tx → In c p.commits ⊎ (c ≡ x) → Committed x.stamp ≡ Committed c.stamp
    one c its (inl old) = absurd (let done : s ≡ Committed c.stamp = w.committed c old its in
        let here : s ≡ Begun = now in let no : ⊥ = cc in no)
    one c its (inr new) = ap (λ (y : Commit). Committed y.stamp) (sym new)
  by false is = record {
    begun = λ e. absurd (let no : ⊥ = cc in no);
    is_begun = λ e. absurd (let old : p.name ≡ Some tx = w.is_begun e in let same : x.tx ≡ tx = cc in
        let yes : same_tx x.tx tx ≡ true = same_tx_test x.tx tx same in let no : ⊥ = cc in no);
    committed = λ c among its. one c its (In-more c x p.commits among);
    is_committed = λ stamp e. (let r : HasRecord p.commits tx stamp = w.is_committed stamp e in
        record {
          commit = r.commit;
          listed = In-first r.commit p.commits (x ∷ []) r.listed;
          named = r.named;
          stamped = r.stamped;
        });
    unborn = w.unborn;
    mine = w.mine;
  } where
    one : (c : Commit) → c.tx ≡ tx → In c p.commits ⊎ (c ≡ x) → s ≡ Committed c.stamp
    one c its (inl old) = w.committed c old its
    one c its (inr new) = absurd (let same : x.tx ≡ tx = ap (λ (y : Commit). y.tx) (sym new)
        ∙ its in let yes : same_tx x.tx tx ≡ true = same_tx_test x.tx tx same in let no : ⊥ = cc in no)
