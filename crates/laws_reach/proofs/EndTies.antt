-- How a client's transaction ended, beside its record: what holds of the replies that ended it stays so, move by move.
use Rattle.std.proofs.Common.{◌≡◌, ◌≢◌, ◌⊎◌, inl, inr, ℕ, ◌+◌, ◌≤◌, Bool, true, false, cond, List, [], ◌∷◌, ◌++◌}
use Rattle.std.proofs.Common.{Option, Some, None, option_map, refl, sym, ap, ◌∙◌, subst}
use Rattle.std.proofs.lemmas.List.{append-nil}
use Rattle.qc_list.specs.Vocabulary.{In}
use Rattle.qc_list.proofs.Members.{In-first, In-more, In-second}
use Rattle.qc_stamp.proofs.Orders.{same_tx_is}
use Rattle.qc_stamp.specs.declared.stamp.Stamp.{Stamp}
use Rattle.qc_stamp.specs.declared.stamp.TxId.{TxId}
use Rattle.qc_entry.specs.declared.record.Commit.{Commit as CommitRecord}
use Rattle.qc_msg.specs.declared.record.Record.{Record}
use Rattle.qc_msg.specs.declared.record.Record.TheVariants.{Commit}
use Rattle.qc_msg.specs.declared.reply.Reply.{Reply}
use Rattle.qc_msg.specs.declared.reply.Reply.TheVariants as replies
use Rattle.qc_promise.specs.Vocabulary.{Dealing, ended, is_begun}
use Rattle.laws_reach.specs.Vocabulary.{HasRecord, IsToldOf}
use Rattle.laws_reach.proofs.Gists.{Gist, Going, finished}
use Rattle.laws_reach.proofs.Bases.{Base, IsPast, begun_with, next_past, none_some, not_new, off_past}
use Rattle.laws_reach.proofs.Steps.{past_life, past_risen, risen_with}
use Rattle.qc_list.proofs.Booleans.{not_both}
use Rattle.qc_list.proofs.Options.{some_same}

-- a list with one more item, or as it was
last_in : (es : List Reply) (b : Bool) (e r : Reply) → In r (es ++ cond b (e ∷ []) [])
    → In r es ⊎ ((b ≡ true) × (r ≡ e))
last_in es true e r among = by (In-more r e es among)
  where
    by : In r es ⊎ (r ≡ e) → In r es ⊎ ((true ≡ true) × (r ≡ e))
    by (inl old) = inl old
    by (inr new) = inr (refl, new)
last_in es false e r among = inl (subst (In r) (append-nil es) among)

-- the begun transaction is this one
pub record IsGoing (g : Gist) (tx : TxId) : Type 0 where
  pub going : Going
  pub is : g.begun ≡ Some going
  pub named : going.tx ≡ tx

module _ (c : CommitRecord) where
  -- the transaction isn't begun, and never will be again
  pub record IsOver (off : Bool) (g : Gist) : Type 0 where
    pub past : IsPast c.tx c.ops off g
    pub gone : (o : Going) → g.begun ≡ Some o → o.tx ≢ c.tx

  -- its record is written, and a reply comes next
  pub record AwaitsReply (g : Gist) (x : Dealing) (A : Type 0) : Type 0 where
    pub written : g.written ≡ Some c
    pub begun : x.begun ≡ Some c.tx
    pub next : A

  pub record EndTie (off : Bool) (g : Gist) (x : Dealing) (rs : List Record) (K A : Type 0) : Type 0 where
    pub closed : (r : Reply) → In r x.ends → IsOver off g
    pub single : (r s : Reply) → In r x.ends → In s x.ends → r ≡ s
    pub known : K → IsToldOf c x.ends ⊎ AwaitsReply g x A
    pub written : (e : CommitRecord) → g.written ≡ Some e → In (Commit e) rs
    pub committed : (stamp : Stamp) → In (replies.Committed stamp) x.ends → HasRecord rs c.tx stamp

  -- it stays closed

  pub closed_off : (off next : Bool) (g : Gist) → (next ≡ off) ⊎ (next ≡ true) → IsOver off g → IsOver next g
  closed_off off next g how z = record { past = off_past c.tx c.ops off next g how z.past; gone = z.gone }

  pub closed_begin : (g : Gist) (other : TxId) → other.life ≡ g.life → other.number ≡ g.count + 1 → IsOver false g
      → IsOver false (begun_with c.tx c.ops g other)
  closed_begin g other life number z = record {
    past = next_past c.tx c.ops g other z.past;
    gone = λ o is named. not_new c.tx c.ops g other life number
        (ap (λ (e : Going). e.tx) (some_same (record { tx = other; ops = [] }) o is) ∙ named) z.past;
  }

  pub closed_life : (g : Gist) → IsOver true g → IsOver false (record g { life = g.life + 1 })
  closed_life g z = record { past = past_life c.tx c.ops g z.past; gone = z.gone }

  pub closed_rise : (g : Gist) (life : ℕ) → g.life ≤ life → IsOver true g → IsOver true (risen_with c.tx c.ops g life)
  closed_rise g life up z = record {
    past = past_risen c.tx c.ops g life up z.past;
    gone = λ o is named. none_some o None refl is;
  }

  -- where nothing is awaited it was told
  module _ (g : Gist) (x : Dealing) (A : Type 0) where
    pub told_of : (AwaitsReply g x A → ⊥) → IsToldOf c x.ends ⊎ AwaitsReply g x A → IsToldOf c x.ends
    told_of never (inl told) = told
    told_of never (inr waits) = absurd (never waits)

    waits_on : (B : Type 0) → (A → B) → IsToldOf c x.ends ⊎ AwaitsReply g x A → IsToldOf c x.ends ⊎ AwaitsReply g x B
    waits_on B on (inl told) = inl told
    waits_on B on (inr w) = inr (record { written = w.written; begun = w.begun; next = on w.next })

  -- the moves

  pub ended_as : (off next : Bool) (g k : Gist) (x : Dealing) (rs : List Record) (K L A B : Type 0) → next ≡ off → k ≡ g
      → (L → K) → (A → B) → EndTie off g x rs K A → EndTie next k x rs L B
  ended_as off next g k x rs K L A B is same known on s =
      subst (λ (b : Bool). EndTie b k x rs L B) (sym is)
      (subst (λ (e : Gist). EndTie off e x rs L B) (sym same)
      (record {
        closed = s.closed;
        single = s.single;
        known = λ l. waits_on g x A B on (s.known (known l));
        written = s.written;
        committed = s.committed;
      }))

  recorded_in : (rs ts : List Record) (stamp : Stamp) → ((e : CommitRecord) → In (Commit e) rs → In (Commit e) ts)
      → HasRecord rs c.tx stamp → HasRecord ts c.tx stamp
  recorded_in rs ts stamp keeps h = record
      { commit = h.commit; listed = keeps h.commit h.listed; named = h.named; stamped = h.stamped }

  -- nothing ends the transaction
  pub goes_on : (off next : Bool) (g k : Gist) (x y : Dealing) (rs ts : List Record) (K L A B : Type 0)
      → y.ends ≡ x.ends → (AwaitsReply g x A → ⊥) → (L → K ⊎ AwaitsReply k y B) → (IsOver off g → IsOver next k)
      → ((e : CommitRecord) → k.written ≡ Some e → In (Commit e) ts)
      → ((e : CommitRecord) → In (Commit e) rs → In (Commit e) ts) → EndTie off g x rs K A → EndTie next k y ts L B
  goes_on off next g k x y rs ts K L A B same never known closes writes keeps s = record {
    closed = λ r among. closes (s.closed r (subst (In r) same among));
    single = λ r q first second. s.single r q (subst (In r) same first) (subst (In q) same second);
    known = λ l. by (known l);
    written = writes;
    committed = λ stamp among. recorded_in rs ts stamp keeps
        (s.committed stamp (subst (In (replies.Committed stamp)) same among));
  }
    where
      by : K ⊎ AwaitsReply k y B → IsToldOf c y.ends ⊎ AwaitsReply k y B
      by (inl old) = inl (subst (IsToldOf c) (sym same) (told_of g x A never (s.known old)))
      by (inr new) = inr new

  -- a reply ends it, where it is the begun one

  pub going_one : (off : Bool) (g : Gist) (x : Dealing) → Base c.tx c.ops off g x → is_begun c.tx x.begun ≡ true
      → IsGoing g c.tx
  going_one off g x base is = by g.begun refl (ap (is_begun c.tx) (sym base.begun) ∙ is)
    where
      by : (o : Option Going) → g.begun ≡ o → is_begun c.tx (option_map (λ (e : Going). e.tx) o) ≡ true → IsGoing g c.tx
      by None none begun = absurd (not_both false begun refl)
      by (Some o) some begun = record { going = o; is = some; named = same_tx_is o.tx c.tx begun }

  module _ (off : Bool) (g : Gist) (x : Dealing) (rs : List Record) (K L A B : Type 0) (reply : Reply)
      (base : Base c.tx c.ops off g x) (s : EndTie off g x rs K A) where
    abbrev its : Bool
    its = is_begun c.tx x.begun

    not_yet : (r : Reply) → In r x.ends → its ≡ true → ⊥
    not_yet r among is = let o : IsGoing g c.tx = going_one off g x base is in
        (s.closed r among).gone o.going o.is o.named

    abbrev Last : Reply → Type 0
    Last r = In r x.ends ⊎ ((its ≡ true) × (r ≡ reply))

    last : (r : Reply) → In r (ended c.tx x reply).ends → Last r
    last r among = last_in x.ends its reply r among

    closes : (r : Reply) → Last r → IsOver off (finished g)
    closes r (inl old) = record { past = (s.closed r old).past; gone = λ o is named. none_some o None refl is }
    closes r (inr new) = let o : IsGoing g c.tx = going_one off g x base new.0 in
        record { past = (base.told o.going o.is o.named).1; gone = λ e is named. none_some e None refl is }

    singles : (r q : Reply) → Last r → Last q → r ≡ q
    singles r q (inl one) (inl two) = s.single r q one two
    singles r q (inl one) (inr two) = absurd (not_yet r one two.0)
    singles r q (inr one) (inl two) = absurd (not_yet q two one.0)
    singles r q (inr one) (inr two) = one.1 ∙ sym two.1

    told_more : IsToldOf c x.ends → IsToldOf c (ended c.tx x reply).ends
    told_more (inl one) = inl (In-first (replies.Committed c.stamp) x.ends (cond its (reply ∷ []) []) one)
    told_more (inr one) = inr (In-first replies.Unknown x.ends (cond its (reply ∷ []) []) one)

    told_last : its ≡ true → IsToldOf c (reply ∷ []) → IsToldOf c (ended c.tx x reply).ends
    told_last is (inl one) = inl (subst (λ (b : Bool). In (replies.Committed c.stamp)
        (x.ends ++ cond b (reply ∷ []) [])) (sym is) (In-second (replies.Committed c.stamp) x.ends (reply ∷ []) one))
    told_last is (inr one) = inr (subst (λ (b : Bool). In replies.Unknown (x.ends ++ cond b (reply ∷ []) [])) (sym is)
        (In-second replies.Unknown x.ends (reply ∷ []) one))

    pub finishes : (L → IsToldOf c x.ends ⊎ ((its ≡ true) × IsToldOf c (reply ∷ [])))
        → ((stamp : Stamp) → replies.Committed stamp ≡ reply → its ≡ true → HasRecord rs c.tx stamp)
        → EndTie off (finished g) (ended c.tx x reply) rs L B
    finishes tells new = record {
      closed = λ r among. closes r (last r among);
      single = λ r q one two. singles r q (last r one) (last q two);
      known = λ l. inl (by (tells l));
      written = λ e is. absurd (none_some e None refl is);
      committed = λ stamp among. recorded stamp (last (replies.Committed stamp) among);
    }
      where
        by : IsToldOf c x.ends ⊎ ((its ≡ true) × IsToldOf c (reply ∷ [])) → IsToldOf c (ended c.tx x reply).ends
        by (inl old) = told_more old
        by (inr now) = told_last now.0 now.1

        recorded : (stamp : Stamp) → Last (replies.Committed stamp) → HasRecord rs c.tx stamp
        recorded stamp (inl old) = s.committed stamp old
        recorded stamp (inr now) = new stamp now.1 now.0
