-- What a client was told of a transaction is what it keeps of it: how that stays, as it begins, goes on and ends.
use Rattle.std.proofs.Common.{[], ◌≡◌, ◌<◌, ℕ, ◌+◌, Bool, true, false, cond, ◌⊎◌, inl, inr, List, ◌∷◌, ◌++◌, Option}
use Rattle.std.proofs.Common.{Some, None, refl, sym, ap, ◌∙◌, subst, arith}
use Rattle.std.proofs.lemmas.List.{append-nil}
use Rattle.qc_list.specs.Vocabulary.{In}
use Rattle.qc_list.proofs.Members.{In-first, In-last, In-more, In-second}
use Rattle.qc_stamp.specs.declared.stamp.Stamp.{Stamp}
use Rattle.qc_stamp.specs.declared.stamp.TxId.{TxId}
use Rattle.qc_stamp.specs.Vocabulary.{same_tx}
use Rattle.qc_stamp.proofs.Orders.{same_tx_is, same_tx_test}
use Rattle.qc_entry.specs.declared.line.Op.{Op}
use Rattle.qc_entry.specs.declared.record.Commit.{Commit}
use Rattle.qc_msg.specs.declared.begun.Begun.{Begun}
use Rattle.qc_msg.specs.declared.reply.Reply.{Reply}
use Rattle.qc_msg.specs.declared.reply.Reply.TheVariants as replies
use Rattle.qc_msg.specs.declared.step.Command.{Command}
use Rattle.qc_msg.specs.declared.step.Command.TheVariants as commands
use Rattle.qc_front.specs.Vocabulary.{op_of}
use Rattle.laws_turns.specs.Vocabulary.{Book}
use Rattle.qc_promise.specs.Vocabulary.{Dealing, dealt, ended, is_begun, operation}
use Rattle.laws_turns.proofs.DealingParts.{tx_at, begun_tx, IsNamed, IsBook, IfOps, IsAbort, HasRecord, IsDealing}
use Rattle.laws_turns.proofs.DealingParts.{with_begun}

-- the begun transaction is this one, or another

begun_test : (tx : TxId) (d : Dealing) (b : Begun) → d.begun ≡ Some b.tx → is_begun tx d.begun ≡ same_tx b.tx tx
begun_test tx d b is = ap (λ (o : Option TxId). is_begun tx o) is

not_same : (tx : TxId) (b : Begun) → (b.tx ≡ tx → ⊥) → same_tx b.tx tx ≡ false
not_same tx b other = by (same_tx b.tx tx) refl where
  by : (t : Bool) → same_tx b.tx tx ≡ t → t ≡ false
  by true e = absurd (other (same_tx_is b.tx tx e))
  by false e = refl

module _ (clock : ℕ) (tx : TxId) (d : Dealing) (k : Book) (b : Begun) (is : k.begun ≡ Some b) (book : IsBook clock k)
    (w : IsDealing tx d k) where
  names : IsNamed k (Some b)
  names = subst (IsNamed k) is book.named

  here : d.begun ≡ Some b.tx
  here = w.is ∙ ap begun_tx is

  own_ops : b.tx ≡ tx → (d.ops ≡ b.ops) × (d.ends ≡ [])
  own_ops = subst (IfOps tx d) is w.ops

  not_past : (c : Commit) → In c k.commits → c.tx ≡ tx → b.tx ≡ tx → ⊥
  not_past c among its same =
      let l : c.tx.number < k.count = names.1 c among in
      let e : c.tx.number ≡ k.count = ap (λ (t : TxId). t.number) (its ∙ sym same ∙ names.0) in
      omega arith

  not_new : k.count < tx.number → b.tx ≡ tx → ⊥
  not_new l same = let e : tx.number ≡ k.count = ap (λ (t : TxId). t.number) (sym same ∙ names.0) in omega arith

  -- an operation is told
  pub told_op : (next : Begun) (object inv : ℕ) (resp : Option ℕ) → d.asked ≡ Some (commands.Do object inv)
      → next.tx ≡ b.tx → next.ops ≡ b.ops ++ op_of object inv resp ∷ []
      → IsDealing tx (dealt tx d resp) (with_begun k (Some next))
  told_op next object inv resp asked same ops = record {
    is = here ∙ ap (λ (t : TxId). Some t) (sym same);
    ops =
        λ e. (let r : (d.ops ≡ b.ops) × (d.ends ≡ []) = own_ops (sym same ∙ e) in
        (added (sym same ∙ e) ∙ ap (λ (l : List Op). l ++ op_of object inv resp ∷ []) r.0 ∙ sym ops, r.1));
    done =
        λ c among its. (let r : (d.ops ≡ c.ops) × In (replies.Committed c.stamp) d.ends = w.done c among its in
        (kept (λ e. not_past c among its e) ∙ r.0, r.1));
    told = w.told;
    others = w.others;
    mine = w.mine;
    new = λ l c n. (let r : (d.ops ≡ []) × (d.ends ≡ []) = w.new l c n in (kept (λ e. not_new n e) ∙ r.0, r.1));
  } where
    added : b.tx ≡ tx
        → (d.ops ++ cond (is_begun tx d.begun) (operation d.asked resp) []) ≡ d.ops ++ op_of object inv resp ∷ []
    added e =
        ap (λ (t : Bool). d.ops ++ cond t (operation d.asked resp) []) (begun_test tx d b here ∙ same_tx_test b.tx tx e)
        ∙ ap (λ (o : Option Command). d.ops ++ operation o resp) asked

    kept : (b.tx ≡ tx → ⊥) → (d.ops ++ cond (is_begun tx d.begun) (operation d.asked resp) []) ≡ d.ops
    kept other =
        ap (λ (t : Bool). d.ops ++ cond t (operation d.asked resp) []) (begun_test tx d b here ∙ not_same tx b other)
        ∙ append-nil d.ops

  -- it ends

  pub record IsEnd (reply r : Reply) : Type 0 where
    pub told : r ≡ reply
    pub its : b.tx ≡ tx

  in_ends : (reply r : Reply) → In r (d.ends ++ cond (is_begun tx d.begun) (reply ∷ []) [])
      → In r d.ends ⊎ IsEnd reply r
  in_ends reply r among =
      by (same_tx b.tx tx) refl
      (subst (λ (t : Bool). In r (d.ends ++ cond t (reply ∷ []) [])) (begun_test tx d b here) among) where
        turned : b.tx ≡ tx → In r d.ends ⊎ (r ≡ reply) → In r d.ends ⊎ IsEnd reply r
        turned e (inl old) = inl old
        turned e (inr new) = inr (record { told = new; its = e })

        by : (t : Bool) → same_tx b.tx tx ≡ t → In r (d.ends ++ cond t (reply ∷ []) []) → In r d.ends ⊎ IsEnd reply r
        by true e h = turned (same_tx_is b.tx tx e) (In-more r reply d.ends h)
        by false e h = inl (subst (In r) (append-nil d.ends) h)

  kept_ends : (reply : Reply) → (b.tx ≡ tx → ⊥) → (d.ends ++ cond (is_begun tx d.begun) (reply ∷ []) []) ≡ d.ends
  kept_ends reply other =
      ap (λ (t : Bool). d.ends ++ cond t (reply ∷ []) []) (begun_test tx d b here ∙ not_same tx b other)
      ∙ append-nil d.ends

  more_ends : (reply r : Reply) → In r d.ends → In r (d.ends ++ cond (is_begun tx d.begun) (reply ∷ []) [])
  more_ends reply r old = In-first r d.ends (cond (is_begun tx d.begun) (reply ∷ []) []) old

  pub gave_up : (reply : Reply) → ((stamp : Stamp) → replies.Committed stamp ≡ reply → ⊥)
      → IsDealing tx (ended tx d reply) (with_begun k None)
  gave_up reply no_commit = record {
    is = refl;
    ops = tt;
    done =
        λ c among its. (let r : (d.ops ≡ c.ops) × In (replies.Committed c.stamp) d.ends = w.done c among its in
        (r.0, more_ends reply (replies.Committed c.stamp) r.1));
    told = λ stamp h. told stamp (in_ends reply (replies.Committed stamp) h);
    others = λ r h a c among its. others r a c among its (in_ends reply r h);
    mine = λ r h. mine r (in_ends reply r h);
    new = λ l c n.
        (let r : (d.ops ≡ []) × (d.ends ≡ []) = w.new l c n in (r.0, kept_ends reply (λ e. not_new n e) ∙ r.1));
  } where
    told : (stamp : Stamp) → In (replies.Committed stamp) d.ends ⊎ IsEnd reply (replies.Committed stamp)
        → HasRecord k.commits tx stamp
    told stamp (inl old) = w.told stamp old
    told stamp (inr new) = absurd (no_commit stamp new.told)

    others : (r : Reply) → IsAbort r → (c : Commit) → In c k.commits → c.tx ≡ tx → In r d.ends ⊎ IsEnd reply r → ⊥
    others r a c among its (inl old) = w.others r old a c among its
    others r a c among its (inr new) = not_past c among its new.its

    mine : (r : Reply) → In r d.ends ⊎ IsEnd reply r → tx.client ≡ k.client
    mine r (inl old) = w.mine r old
    mine r (inr new) = ap (λ (t : TxId). t.client) (sym new.its ∙ names.0)

  -- it commits

  abbrev pub with_record : Commit → Book
  with_record x = record k { commits = k.commits ++ x ∷ []; begun = None }

  pub committed_one : (x : Commit) → x.tx ≡ b.tx → x.ops ≡ b.ops
      → IsDealing tx (ended tx d (replies.Committed x.stamp)) (with_record x)
  committed_one x its_tx its_ops = record {
    is = refl;
    ops = tt;
    done = λ c among its. done c its (In-more c x k.commits among);
    told = λ stamp h. told stamp (in_ends reply (replies.Committed stamp) h);
    others = λ r h a c among its. others r a c its (In-more c x k.commits among) (in_ends reply r h);
    mine = λ r h. mine r (in_ends reply r h);
    new = λ l c n.
        (let r : (d.ops ≡ []) × (d.ends ≡ []) = w.new l c n in (r.0, kept_ends reply (λ e. not_new n e) ∙ r.1));
  } where
    reply : Reply
    reply = replies.Committed x.stamp

    done : (c : Commit) → c.tx ≡ tx → In c k.commits ⊎ (c ≡ x)
        → (d.ops ≡ c.ops)
        × In (replies.Committed c.stamp) (d.ends ++ cond (is_begun tx d.begun) (replies.Committed x.stamp ∷ []) [])
    done c its (inl old) =
        (let r : (d.ops ≡ c.ops) × In (replies.Committed c.stamp) d.ends = w.done c old its in
        (r.0, more_ends (replies.Committed x.stamp) (replies.Committed c.stamp) r.1))
    done c its (inr new) =
        let e : b.tx ≡ tx = sym its_tx ∙ sym (ap (λ (y : Commit). y.tx) new) ∙ its in (
          (own_ops e).0 ∙ sym its_ops ∙ sym (ap (λ (y : Commit). y.ops) new),
          subst (λ (y : Commit). In (replies.Committed y.stamp)
              (d.ends ++ cond (is_begun tx d.begun) (replies.Committed x.stamp ∷ []) [])) (sym new)
              (In-second (replies.Committed x.stamp) d.ends
              (cond (is_begun tx d.begun) (replies.Committed x.stamp ∷ []) [])
              (subst (λ (t : Bool). In (replies.Committed x.stamp) (cond t (replies.Committed x.stamp ∷ []) []))
              (sym (begun_test tx d b here ∙ same_tx_test b.tx tx e)) (inl refl))),
        )

    told : (stamp : Stamp)
        → In (replies.Committed stamp) d.ends ⊎ IsEnd (replies.Committed x.stamp) (replies.Committed stamp)
        → HasRecord (k.commits ++ x ∷ []) tx stamp
    told stamp (inl old) =
        let r : HasRecord k.commits tx stamp = w.told stamp old in
        record {
          commit = r.commit;
          listed = In-first r.commit k.commits (x ∷ []) r.listed;
          named = r.named;
          stamped = r.stamped;
        }
    told stamp (inr new) =
        let same : replies.Committed stamp ≡ replies.Committed x.stamp = new.told in
        let e : stamp ≡ x.stamp = cc in
        record { commit = x; listed = In-last x k.commits; named = its_tx ∙ new.its; stamped = sym e }

    others : (r : Reply) → IsAbort r → (c : Commit) → c.tx ≡ tx → In c k.commits ⊎ (c ≡ x)
        → In r d.ends ⊎ IsEnd (replies.Committed x.stamp) r → ⊥
    others r a c its (inl o) (inl old) = w.others r old a c o its
    others r a c its (inr n) (inl old) =
        subst (In r) (own_ops (sym its_tx ∙ sym (ap (λ (y : Commit). y.tx) n) ∙ its)).1 old
    others r a c its among (inr new) = subst IsAbort new.told a

    mine : (r : Reply) → In r d.ends ⊎ IsEnd (replies.Committed x.stamp) r → tx.client ≡ k.client
    mine r (inl old) = w.mine r old
    mine r (inr new) = ap (λ (t : TxId). t.client) (sym new.its ∙ names.0)

-- it begins
pub began_one : (clock : ℕ) (tx : TxId) (d : Dealing) (k : Book) (b : Begun) → k.begun ≡ None → IsBook clock k
    → b.tx ≡ tx_at k (k.count + 1) → b.ops ≡ [] → IsDealing tx d k
    → IsDealing tx (record d { begun = Some b.tx }) (record k { count = k.count + 1; begun = Some b })
began_one clock tx d k b free book named none w = record {
  is = refl;
  ops = λ e. (let x : tx ≡ tx_at k (k.count + 1) = sym e ∙ named in
      let r : (d.ops ≡ []) × (d.ends ≡ []) =
      w.new (sym (ap (λ (t : TxId). t.life) x)) (sym (ap (λ (t : TxId). t.client) x))
      (let n : tx.number ≡ k.count + 1 = ap (λ (t : TxId). t.number) x in omega arith) in
      (r.0 ∙ sym none, r.1));
  done = w.done;
  told = w.told;
  others = w.others;
  mine = w.mine;
  new = λ l c n. w.new l c (let m : k.count + 1 < tx.number = n in omega arith);
}
