-- What a status, once reached, stays; and what was sent and written shows of it.
use Rattle.std.proofs.Common.{◌≡◌, ◌≢◌, ℕ, ◌⊎◌, inl, inr, Bool, true, false, cond, List, [], ◌∷◌, fold, refl, sym, ap}
use Rattle.std.proofs.Common.{◌∙◌, subst}
use Rattle.std.specs.Prelude.{MatchOption}
use Rattle.std.specs.Option.{option_map_or}
use Rattle.qc_list.specs.Vocabulary.{In}
use Rattle.qc_stamp.specs.declared.stamp.TxId.{TxId}
use Rattle.qc_stamp.specs.Vocabulary.{same_tx}
use Rattle.qc_stamp.proofs.Orders.{same_tx_itself}
use Rattle.qc_msg.specs.declared.message.Message.{Message}
use Rattle.qc_msg.specs.declared.message.Message.TheVariants as messages
use Rattle.qc_msg.specs.declared.message.Outcome.{Outcome}
use Rattle.qc_msg.specs.declared.message.Outcome.TheVariants as outcomes
use Rattle.qc_msg.specs.declared.message.Want.{Want}
use Rattle.qc_msg.specs.declared.record.Record.{Record}
use Rattle.qc_msg.specs.declared.reply.Reply.{Reply}
use Rattle.qc_msg.specs.Vocabulary.{Deed, Falls, Rises, Sends, Takes, Tells, Writes}
use Rattle.qc_msg.specs.Vocabulary.{Decided, began_in, commit_of, decision_in, is_given_up}
use Rattle.qc_promise.specs.Vocabulary.{AreRightFrom, AreRightKept, Begun, Committed, Dead, IsRight, IsRightKept}
use Rattle.qc_promise.specs.Vocabulary.{IsRightVerdict, Status, Unborn, given_up, status_at, status_risen}
use Rattle.qc_promise.specs.Vocabulary.{status_written}
use Rattle.qc_entry.specs.declared.record.Commit.{Commit}
use Rattle.laws_turns.proofs.ReadingCases.{mapped, mapped_by}
use Rattle.laws_turns.proofs.ReplyCases.{reply_cases}

-- a transaction that was begun is never unborn again

still_born : (s : Status) → s ≢ Unborn → given_up s ≢ Unborn
still_born Unborn born is = born refl
still_born Begun born is = let no : ⊥ = cc in no
still_born (Committed stamp) born is = let no : ⊥ = cc in no
still_born Dead born is = let no : ⊥ = cc in no

chosen : (P : Status → Type 0) (t : Bool) (u v : Status) → P u → P v → P (cond t u v)
chosen P true u v first second = first
chosen P false u v first second = second

module _ (tx : TxId) where
  born_written : (s : Status) (w : Record) → s ≢ Unborn → status_at tx s (Writes w) ≢ Unborn
  born_written s w born =
      mapped (λ (v : Status). v ≢ Unborn) (λ (c : Commit). cond (same_tx c.tx tx) (Committed c.stamp) s) s
      (commit_of w)
      (λ c. chosen (λ (v : Status). v ≢ Unborn) (same_tx c.tx tx) (Committed c.stamp) s (λ is. let no : ⊥ = cc in no)
      born) born

  born_sent : (s : Status) (n to : ℕ) (m : Message) → s ≢ Unborn → status_at tx s (Sends n to m) ≢ Unborn
  born_sent s n to m born =
      mapped (λ (v : Status). v ≢ Unborn)
      (λ (d : Decided). status_at tx s (Sends n to (messages.Decision d.tx d.verdict)))
      s (decision_in m)
      (λ d. decided d.tx d.verdict) born
    where
      decided : (other : TxId) (verdict : Outcome)
          → status_at tx s (Sends n to (messages.Decision other verdict)) ≢ Unborn
      decided other (outcomes.Committed stamp) = born
      decided other outcomes.Aborted =
          chosen (λ (v : Status). v ≢ Unborn) (same_tx other tx) (given_up s) s (still_born s born) born
      decided other outcomes.Active = born

  born_told : (s : Status) (r : Reply) → s ≢ Unborn → status_at tx s (Tells r) ≢ Unborn
  born_told s r born =
      mapped (λ (v : Status). v ≢ Unborn) (λ (other : TxId). cond (same_tx other tx) Begun s)
      (cond (is_given_up r) (given_up s) s) (began_in r)
      (λ other. chosen (λ (v : Status). v ≢ Unborn) (same_tx other tx) Begun s (λ is. let no : ⊥ = cc in no) born)
      (chosen (λ (v : Status). v ≢ Unborn) (is_given_up r) (given_up s) s (still_born s born) born)

  born_kept : (s : Status) (kept : List Record) → s ≢ Unborn → fold (status_written tx) s kept ≢ Unborn
  born_kept s [] born = born
  born_kept s (w ∷ kept) born = born_kept (status_written tx s w) kept (born_written s w born)

  pub born_on : (s : Status) (ds : List Deed) → s ≢ Unborn → fold (status_at tx) s ds ≢ Unborn
  born_on s [] born = born
  born_on s (Takes g ∷ ds) born = born_on s ds born
  born_on s (Writes w ∷ ds) born = born_on (status_at tx s (Writes w)) ds (born_written s w born)
  born_on s (Sends n to m ∷ ds) born = born_on (status_at tx s (Sends n to m)) ds (born_sent s n to m born)
  born_on s (Tells r ∷ ds) born = born_on (status_at tx s (Tells r)) ds (born_told s r born)
  born_on s (Falls cause pending ∷ ds) born = born_on s ds born
  born_on s (Rises kept ∷ ds) born = born_on (status_risen tx s kept) ds
      (born_kept (given_up s) kept (still_born s born))

  -- where deeds are right, one that has ended stays so

  abbrev pub HasEnd : Status → Type 0
  HasEnd Unborn = ⊥
  HasEnd Begun = ⊥
  HasEnd (Committed stamp) = Unit {0}
  HasEnd Dead = Unit {0}

  not_live : (s : Status) → HasEnd s → s ≡ Begun → ⊥
  not_live s ends is = subst HasEnd is ends

  not_new : (s : Status) → HasEnd s → s ≡ Unborn → ⊥
  not_new s ends is = subst HasEnd is ends

  stays_ended : (s : Status) → HasEnd s → given_up s ≡ s
  stays_ended Unborn never = absurd never
  stays_ended Begun never = absurd never
  stays_ended (Committed stamp) ends = refl
  stays_ended Dead ends = refl

  by_test : (s v : Status) (t : Bool) → (t ≡ true → v ≡ s) → cond t v s ≡ s
  by_test s v true same = same refl
  by_test s v false same = refl

  ended_written : (s : Status) (w : Record) → HasEnd s → IsRight tx s (Writes w) → status_at tx s (Writes w) ≡ s
  ended_written s w ends right =
      mapped_by (λ (v : Status). v ≡ s) (λ (c : Commit). cond (same_tx c.tx tx) (Committed c.stamp) s) s (Unit {0})
      (λ (c : Commit). same_tx c.tx tx ≡ true → s ≡ Begun) (commit_of w)
      (λ c its. by_test s (Committed c.stamp) (same_tx c.tx tx) (λ same. absurd (not_live s ends (its same))))
      (λ none. refl) right

  ended_sent : (s : Status) (n to : ℕ) (m : Message) → HasEnd s → status_at tx s (Sends n to m) ≡ s
  ended_sent s n to m ends =
      mapped (λ (v : Status). v ≡ s)
      (λ (d : Decided). status_at tx s (Sends n to (messages.Decision d.tx d.verdict)))
      s (decision_in m)
      (λ d. decided d.tx d.verdict) refl
    where
      decided : (other : TxId) (verdict : Outcome) → status_at tx s (Sends n to (messages.Decision other verdict)) ≡ s
      decided other (outcomes.Committed stamp) = refl
      decided other outcomes.Aborted = by_test s (given_up s) (same_tx other tx) (λ same. stays_ended s ends)
      decided other outcomes.Active = refl

  ended_told : (s : Status) (r : Reply) → HasEnd s → IsRight tx s (Tells r) → status_at tx s (Tells r) ≡ s
  ended_told s r ends right =
      reply_cases (λ reply began already gone. MatchOption already
      (MatchOption began (Unit {0}) (λ (other : TxId). same_tx other tx ≡ true → s ≡ Unborn))
      (λ (other : TxId). same_tx other tx ≡ true → s ≡ Begun)
      → option_map_or (λ (other : TxId). cond (same_tx other tx) Begun s) began (cond gone (given_up s) s) ≡ s)
      (λ other its. by_test s Begun (same_tx other tx) (λ same. absurd (not_new s ends (its same))))
      (λ other its. refl) (λ why its. stays_ended s ends) (λ its. stays_ended s ends) (λ reply its. refl) r right

  -- a record that rises, of one that has ended, is the record of it
  ended_risen : (s : Status) (w : Record) → HasEnd s → IsRightKept tx s w → status_written tx s w ≡ s
  ended_risen s w ends right =
      mapped_by (λ (v : Status). v ≡ s) (λ (c : Commit). cond (same_tx c.tx tx) (Committed c.stamp) s) s (Unit {0})
      (λ (c : Commit). same_tx c.tx tx ≡ true → (s ≡ Begun) ⊎ (s ≡ Committed c.stamp)) (commit_of w)
      (λ c its. by_test s (Committed c.stamp) (same_tx c.tx tx)
      (λ same. elim (its same) [ inl live ↦ absurd (not_live s ends live) | inr is ↦ sym is ]))
      (λ none. refl) right

  ended_kept : (s : Status) (kept : List Record) → HasEnd s → AreRightKept tx s kept
      → fold (status_written tx) s kept ≡ s
  ended_kept s [] ends right = refl
  ended_kept s (w ∷ kept) ends right = ap (λ (v : Status). fold (status_written tx) v kept)
      (ended_risen s w ends right.0) ∙ ended_kept s kept ends right.1

  ended_one : (s : Status) (d : Deed) → HasEnd s → IsRight tx s d → status_at tx s d ≡ s
  ended_one s (Takes g) ends right = refl
  ended_one s (Writes w) ends right = ended_written s w ends right
  ended_one s (Sends n to m) ends right = ended_sent s n to m ends
  ended_one s (Tells r) ends right = ended_told s r ends right
  ended_one s (Falls cause pending) ends right = refl
  ended_one s (Rises kept) ends right = ap (λ (v : Status). fold (status_written tx) v kept) (stays_ended s ends)
      ∙ ended_kept s kept ends right

  pub ended_on : (s : Status) (ds : List Deed) → HasEnd s → AreRightFrom tx s ds → fold (status_at tx) s ds ≡ s
  ended_on s [] ends right = refl
  ended_on s (d ∷ ds) ends right =
      let same : status_at tx s d ≡ s = ended_one s d ends right.0 in
      ap (λ (v : Status). fold (status_at tx) v ds) same
      ∙ ended_on s ds ends (subst (λ (v : Status). AreRightFrom tx v ds) same right.1)

  -- a request shows that it was begun; a verdict stays

  pub request_born : (s : Status) (ds : List Deed) (n to epoch life : ℕ) (want : Want) → AreRightFrom tx s ds
      → In (Sends n to (messages.Request tx epoch life want)) ds → fold (status_at tx) s ds ≢ Unborn
  request_born s [] n to epoch life want right among = absurd among
  request_born s (d ∷ ds) n to epoch life want right (inl same) =
      let now : IsRight tx s (Sends n to (messages.Request tx epoch life want)) =
      subst (IsRight tx s) (sym same) right.0 in
      let live : s ≡ Begun = now (same_tx_itself tx) in
      let still : status_at tx s d ≡ s = ap (status_at tx s) (sym same) in
      born_on (status_at tx s d) ds (λ is. let e : Begun ≡ Unborn = sym live ∙ sym still ∙ is in let no : ⊥ = cc in no)
  request_born s (d ∷ ds) n to epoch life want right (inr later) =
      request_born (status_at tx s d) ds n to epoch life want right.1 later

  -- what a verdict comes to
  abbrev pub Came : Outcome → Status → Type 0
  Came (outcomes.Committed stamp) s = s ≡ Committed stamp
  Came outcomes.Aborted s = s ≡ Dead
  Came outcomes.Active s = s ≢ Unborn

  pub verdict_came : (s : Status) (ds : List Deed) (n to : ℕ) (v : Outcome) → AreRightFrom tx s ds
      → In (Sends n to (messages.Decision tx v)) ds → Came v (fold (status_at tx) s ds)
  verdict_came s [] n to v right among = absurd among
  verdict_came s (d ∷ ds) n to v right (inl same) =
      subst (λ (x : Deed). Came v (fold (status_at tx) (status_at tx s x) ds)) same
      (by v (subst (IsRight tx s) (sym same) right.0 (same_tx_itself tx))
      (subst (λ (x : Deed). AreRightFrom tx (status_at tx s x) ds) (sym same) right.1))
    where
      died : (s ≡ Begun) ⊎ (s ≡ Dead) → given_up s ≡ Dead
      died (inl is) = ap given_up is
      died (inr is) = ap given_up is

      by : (v : Outcome) → IsRightVerdict s v → AreRightFrom tx
          (status_at tx s (Sends n to (messages.Decision tx v))) ds
          → Came v (fold (status_at tx) (status_at tx s (Sends n to (messages.Decision tx v))) ds)
      by (outcomes.Committed stamp) is rest = ended_on s ds (subst HasEnd (sym is) tt) rest ∙ is
      by outcomes.Aborted is rest =
          let dead : cond (same_tx tx tx) (given_up s) s ≡ Dead =
          ap (λ (t : Bool). cond t (given_up s) s) (same_tx_itself tx) ∙ died is in
          ended_on (cond (same_tx tx tx) (given_up s) s) ds (subst HasEnd (sym dead) tt) rest ∙ dead
      by outcomes.Active is rest = born_on s ds (λ e. let f : Begun ≡ Unborn = sym is ∙ e in let no : ⊥ = cc in no)
  verdict_came s (d ∷ ds) n to v right (inr later) = verdict_came (status_at tx s d) ds n to v right.1 later
