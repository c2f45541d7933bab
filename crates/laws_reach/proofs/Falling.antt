-- What clients were told through falls: wrong ends and wrong records are refused, right ones are taken.
use Rattle.std.proofs.Common.{◌≡◌, ◌⊎◌, ◌<◌, inl, inr, ℕ, Bool, true, false, cond, List, [], ◌∷◌, Option, None, refl}
use Rattle.std.proofs.Common.{sym, ap, subst, arith}
use Rattle.qc_entry.specs.declared.line.Op.{Op}
use Rattle.qc_entry.specs.declared.record.Commit.{Commit as CommitRecord}
use Rattle.qc_list.specs.Vocabulary.{In}
use Rattle.laws_turns.specs.Vocabulary.{first, none_read, read_it, second, tx}
use Rattle.laws_reach.specs.Vocabulary.{AreCommitsTold, Deals, Tells, crashed, cut_off, decl, fallen, kept, mine}
use Rattle.laws_reach.specs.Vocabulary.{reading_on, record_of}
use Rattle.qc_msg.specs.Vocabulary.{Entry, deeds}
use Rattle.qc_msg.specs.declared.reply.Reply.{Reply}
use Rattle.qc_msg.specs.declared.reply.Reply.TheVariants as replies
use Rattle.qc_msg.specs.declared.reply.AbortCause.TheVariants as causes
use Rattle.qc_promise.specs.Vocabulary.{HasCommit, committed, deals, endings}
use Rattle.qc_stamp.specs.Vocabulary.{same_tx}
use Rattle.qc_stamp.proofs.Orders.{same_tx_is}
use Rattle.qc_stamp.specs.declared.stamp.Stamp.{Stamp}
use Rattle.qc_stamp.specs.declared.stamp.TxId.{TxId}
use Rattle.laws_turns.proofs.WrongOnes.{none_some}

-- the record of the transaction
abbrev its : List Op → CommitRecord
its ops = record { stamp = first; tx = tx; ops = ops }

low : 0 < decl.clients
low = omega arith

-- wrong ends

pub aborted : Tells (fallen (replies.Aborted causes.Doomed) (mine ∷ [])) → ⊥
aborted t = t.aborted 0 tx causes.Doomed (its (read_it ∷ [])) low (inl refl) (inl refl) refl

pub dropped : Tells (fallen replies.Dropped (mine ∷ [])) → ⊥
dropped t = t.dropped 0 tx (its (read_it ∷ [])) low (inl refl) (inl refl) refl

pub lost : Tells (fallen (replies.Committed first) []) → ⊥
lost t = (t.committed 0 tx first low (inl refl)).listed

same_clock : (c : CommitRecord) → c ≡ its (read_it ∷ []) → c.stamp ≡ second → ⊥
same_clock c is stamped = let one : c.stamp.clock ≡ first.clock = ap (λ (e : CommitRecord). e.stamp.clock) is in
    let two : c.stamp.clock ≡ second.clock = ap (λ (s : Stamp). s.clock) stamped in omega arith

pub other_stamp : Tells (fallen (replies.Committed second) (mine ∷ [])) → ⊥
other_stamp t = by (t.committed 0 tx second low (inl refl))
  where
    by : HasCommit (its (read_it ∷ []) ∷ []) tx second → ⊥
    by r = elim r.listed [ inl is ↦ same_clock r.commit is r.stamped | inr never ↦ never ]

neither : ⊥ ⊎ ⊥ → ⊥
neither (inl never) = never
neither (inr never) = never

pub untold : Tells (crashed (mine ∷ [])) → ⊥
untold t = neither (t.each (its (read_it ∷ [])) (inl refl))

pub post_ends : AreCommitsTold (deeds 1 [] cut_off) → ⊥
post_ends told = told.1.1.1.1.1.0

pub unsaid : Tells cut_off → ⊥
unsaid t = neither (t.each (its (read_it ∷ [])) (inl refl))

-- wrong records

abbrev first_resp : List Op → Option ℕ
first_resp [] = None
first_resp (o ∷ ops) = o.resp

pub other : Deals (fallen replies.Unknown (record_of (none_read ∷ []) ∷ [])) → ⊥
other d = none_some (first_resp (none_read ∷ [])) refl (ap first_resp (d (its (none_read ∷ [])) (inl refl)))

pub less : Deals (fallen replies.Unknown (record_of [] ∷ [])) → ⊥
less d = let e : [] ≡ read_it ∷ [] = d (its []) (inl refl) in let no : ⊥ = cc in no

pub later : Deals (reading_on (record_of (read_it ∷ read_it ∷ []) ∷ [])) → ⊥
later d = let e : read_it ∷ read_it ∷ [] ≡ read_it ∷ [] = d (its (read_it ∷ read_it ∷ [])) (inl refl) in
    let no : ⊥ = cc in no

-- right ones: how the client's transactions ended

only : (b : Bool) (r e : Reply) → In r (cond b (e ∷ []) []) → (b ≡ true) × (r ≡ e)
only true r e (inl is) = (refl, is)
only true r e (inr never) = absurd never
only false r e never = absurd never

abbrev EndWith : List Entry → (TxId → List Reply) → Type 0
EndWith h ends = (n : ℕ) → n < decl.clients → (t : TxId) → endings decl h n t ≡ ends t

first_client : (h : List Entry) (ends : TxId → List Reply) → ((t : TxId) → endings decl h 0 t ≡ ends t) → EndWith h ends
first_client h ends is n below t = let zero : n ≡ 0 = omega arith in
    subst (λ (k : ℕ). endings decl h k t ≡ ends t) (sym zero) (is t)

abbrev by_one : Reply → TxId → List Reply
by_one reply t = cond (same_tx tx t) (reply ∷ []) []

-- one committed record, or none

abbrev one : CommitRecord
one = its (read_it ∷ [])

of_one : (P : CommitRecord → Type 0) → P one → (c : CommitRecord) → In c (one ∷ []) → P c
of_one P is c (inl same) = subst P (sym same) is
of_one P is c (inr never) = absurd never

module _ (h : List Entry) (ends : EndWith h (by_one replies.Unknown)) where
  told_so : (n : ℕ) (t : TxId) (r : Reply) → n < decl.clients → In r (endings decl h n t) → r ≡ replies.Unknown
  told_so n t r below among = (only (same_tx tx t) r replies.Unknown (subst (In r) (ends n below t) among)).1

  unknown_told : ((c : CommitRecord) → In c (committed decl h) → In replies.Unknown (endings decl h c.tx.client c.tx))
      → Tells h
  unknown_told each = record {
    committed = λ n t stamp below among. absurd
        (let is : replies.Committed stamp ≡ replies.Unknown = told_so n t (replies.Committed stamp) below among in
        let no : ⊥ = cc in no);
    aborted = λ n t why c below among listed. absurd
        (let is : replies.Aborted why ≡ replies.Unknown = told_so n t (replies.Aborted why) below among in
        let no : ⊥ = cc in no);
    dropped = λ n t c below among listed. absurd
        (let is : replies.Dropped ≡ replies.Unknown = told_so n t replies.Dropped below among in let no : ⊥ = cc in no);
    each = λ c listed. inr (each c listed);
  }

pub told_unknown : Tells (fallen replies.Unknown (mine ∷ []))
told_unknown =
    let h : List Entry = fallen replies.Unknown (mine ∷ []) in
    unknown_told h (first_client h (by_one replies.Unknown) (λ t. refl))
    (of_one (λ (c : CommitRecord). In replies.Unknown (endings decl h c.tx.client c.tx)) (inl refl))

pub none_rose : Tells (fallen replies.Unknown [])
none_rose =
    let h : List Entry = fallen replies.Unknown [] in
    unknown_told h (first_client h (by_one replies.Unknown) (λ t. refl)) (λ c never. absurd never)

-- it is told that it committed

kept_ends : EndWith kept (by_one (replies.Committed first))
kept_ends = first_client kept (by_one (replies.Committed first)) (λ t. refl)

kept_so : (n : ℕ) (t : TxId) (r : Reply) → n < decl.clients → In r (endings decl kept n t)
    → (same_tx tx t ≡ true) × (r ≡ replies.Committed first)
kept_so n t r below among = only (same_tx tx t) r (replies.Committed first) (subst (In r) (kept_ends n below t) among)

kept_record : (t : TxId) (stamp : Stamp) → (same_tx tx t ≡ true) × (replies.Committed stamp ≡ replies.Committed first)
    → HasCommit (one ∷ []) t stamp
kept_record t stamp is = record {
  commit = one;
  listed = inl refl;
  named = same_tx_is tx t is.0;
  stamped = (let told : replies.Committed stamp ≡ replies.Committed first = is.1 in let same : stamp ≡ first = cc in
      sym same);
}

pub told_committed : Tells kept
told_committed = record {
  committed = λ n t stamp below among. kept_record t stamp (kept_so n t (replies.Committed stamp) below among);
  aborted = λ n t why c below among listed. absurd
      (let is : replies.Aborted why ≡ replies.Committed first = (kept_so n t (replies.Aborted why) below among).1 in
      let no : ⊥ = cc in no);
  dropped = λ n t c below among listed. absurd
      (let is : replies.Dropped ≡ replies.Committed first = (kept_so n t replies.Dropped below among).1 in
      let no : ⊥ = cc in no);
  each = λ c listed. inl (of_one (λ (c : CommitRecord). In (replies.Committed c.stamp)
      (endings decl kept c.tx.client c.tx)) (inl refl) c listed);
}

pub post_tells : AreCommitsTold (deeds 1 [] kept)
post_tells = (tt, (tt, (tt, (tt, (tt, (tt, (tt, (tt, (tt, (tt, tt))))))))))

-- it is told nothing of the end

none_told : (n : ℕ) (t : TxId) (r : Reply) → n < decl.clients → In r (endings decl (crashed []) n t) → ⊥
none_told n t r below among = subst (In r) (first_client (crashed []) (λ (t : TxId). []) (λ t. refl) n below t) among

pub told_nothing : Tells (crashed [])
told_nothing = record {
  committed = λ n t stamp below among. absurd (none_told n t (replies.Committed stamp) below among);
  aborted = λ n t why c below among listed same. none_told n t (replies.Aborted why) below among;
  dropped = λ n t c below among listed same. none_told n t replies.Dropped below among;
  each = λ c never. absurd never;
}

-- the record has what it was told

pub dealt_unknown : Deals (fallen replies.Unknown (mine ∷ []))
dealt_unknown = of_one (λ (c : CommitRecord). c.ops ≡ deals decl (fallen replies.Unknown (mine ∷ [])) c.tx) refl

pub dealt_committed : Deals kept
dealt_committed = of_one (λ (c : CommitRecord). c.ops ≡ deals decl kept c.tx) refl

pub read_later : Deals (reading_on (mine ∷ []))
read_later = of_one (λ (c : CommitRecord). c.ops ≡ deals decl (reading_on (mine ∷ [])) c.tx) refl
