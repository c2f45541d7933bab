-- A client's turn: its deeds are right for each transaction, and leave its status so.
use Rattle.std.proofs.Common.{[], ◌≡◌, ℕ, ◌+◌, ◌⊎◌, inl, inr, Bool, true, false, cond, List, ◌∷◌, ◌++◌, fold, map, Some}
use Rattle.std.proofs.Common.{None, refl, sym, ap, ◌∙◌, subst, arith}
use Rattle.std.specs.Bool.{MatchBool}
use Rattle.std.specs.Prelude.{MatchOption}
use Rattle.std.specs.Option.{option_map_or}
use Rattle.qc_stamp.specs.declared.stamp.Stamp.{Stamp}
use Rattle.qc_stamp.specs.declared.stamp.TxId.{TxId}
use Rattle.qc_stamp.specs.Vocabulary.{same_tx}
use Rattle.qc_stamp.proofs.Orders.{same_tx_is}
use Rattle.qc_entry.specs.declared.record.Commit.{Commit}
use Rattle.qc_msg.specs.declared.begun.Begun.{Begun as BegunTransaction}
use Rattle.qc_msg.specs.declared.message.Message.TheVariants as messages
use Rattle.qc_msg.specs.declared.message.Outcome.{Outcome}
use Rattle.qc_msg.specs.declared.message.Outcome.TheVariants as outcomes
use Rattle.qc_msg.specs.declared.record.Record.TheVariants as records
use Rattle.qc_msg.specs.declared.reply.Reply.{Reply}
use Rattle.qc_msg.specs.declared.reply.Reply.TheVariants as replies
use Rattle.qc_msg.specs.declared.turn.Posting.{Posting}
use Rattle.qc_msg.specs.declared.turn.Turn.{Turn}
use Rattle.qc_msg.specs.Vocabulary.{Deed, Sends, Tells, sends_of}
use Rattle.qc_promise.specs.Vocabulary.{AreRightFrom, Begun, Committed, Dead, IsRightVerdict, Status, Unborn, given_up}
use Rattle.qc_promise.specs.Vocabulary.{status_at, status_told}
use Rattle.laws_turns.proofs.DealingParts.{IsAbort}
use Rattle.laws_turns.proofs.Statuses.{IsStatus, Page, began, commits_one, gave_up}
use Rattle.laws_turns.proofs.TurnsGoOn.{verdicts_ask, NoInquiries, TurnRight, turn_is}
use Rattle.laws_turns.proofs.ReplyCases.{reply_cases}

-- it is given up: that is told to sites and to the caller

given_twice : (s : Status) → given_up (given_up s) ≡ given_up s
given_twice Unborn = refl
given_twice Begun = refl
given_twice (Committed stamp) = refl
given_twice Dead = refl

abort_told : (tx : TxId) (s : Status) (reply : Reply) → IsAbort reply → status_told tx s reply ≡ given_up s
abort_told tx s reply is =
    reply_cases
    (λ r began already gone. MatchBool gone (Unit {0}) ⊥
    → option_map_or (λ (other : TxId). cond (same_tx other tx) Begun s) began (cond gone (given_up s) s) ≡ given_up s)
    (λ other never. absurd never) (λ other never. absurd never) (λ why its. refl) (λ its. refl)
    (λ r never. absurd never) reply is

abort_right : (tx : TxId) (s : Status) (reply : Reply) → IsAbort reply → AreRightFrom tx s (Tells reply ∷ [])
abort_right tx s reply is =
    reply_cases
    (λ r began already gone. MatchBool gone (Unit {0}) ⊥ → MatchOption already
    (MatchOption began (Unit {0}) (λ (other : TxId). same_tx other tx ≡ true → s ≡ Unborn))
    (λ (other : TxId). same_tx other tx ≡ true → s ≡ Begun) × Unit {0})
    (λ other never. absurd never) (λ other never. absurd never) (λ why its. (tt, tt)) (λ its. (tt, tt))
    (λ r never. absurd never) reply is

abbrev aborts_of : TxId → List ℕ → List Posting
aborts_of x sites = map (λ site. record { to = site; message = messages.Decision x outcomes.Aborted }) sites

module _ (tx x : TxId) (reply : Reply) (abort : IsAbort reply) where
  aborts_same : (s : Status) (n : ℕ) (sites : List ℕ)
      → fold (status_at tx) s (sends_of n (aborts_of x sites) ++ Tells reply ∷ []) ≡ given_up s
  aborts_same s n [] = abort_told tx s reply abort
  aborts_same s n (site ∷ sites) = by (same_tx x tx) (λ v. aborts_same v (n + 1) sites) where
    by : (t : Bool)
        → ((v : Status) → fold (status_at tx) v (sends_of (n + 1) (aborts_of x sites) ++ Tells reply ∷ []) ≡ given_up v)
        → fold (status_at tx) (cond t (given_up s) s) (sends_of (n + 1) (aborts_of x sites) ++ Tells reply ∷ [])
        ≡ given_up s
    by true rest = rest (given_up s) ∙ given_twice s
    by false rest = rest s

  dies : (s : Status) → (s ≡ Begun) ⊎ (s ≡ Dead) → given_up s ≡ Dead
  dies s (inl is) = ap given_up is
  dies s (inr is) = ap given_up is

  aborts_right : (s : Status) (n : ℕ) (sites : List ℕ) → (same_tx x tx ≡ true → (s ≡ Begun) ⊎ (s ≡ Dead))
      → AreRightFrom tx s (sends_of n (aborts_of x sites) ++ Tells reply ∷ [])
  aborts_right s n [] live = abort_right tx s reply abort
  aborts_right s n (site ∷ sites) live = (live, by (same_tx x tx) live (λ v. aborts_right v (n + 1) sites)) where
    by : (t : Bool) → (t ≡ true → (s ≡ Begun) ⊎ (s ≡ Dead))
        → ((v : Status) → (same_tx x tx ≡ true → (v ≡ Begun) ⊎ (v ≡ Dead))
        → AreRightFrom tx v (sends_of (n + 1) (aborts_of x sites) ++ Tells reply ∷ []))
        → AreRightFrom tx (cond t (given_up s) s) (sends_of (n + 1) (aborts_of x sites) ++ Tells reply ∷ [])
    by true now rest = rest (given_up s) (λ is. inr (dies s (now refl)))
    by false now rest = rest s live

pub gives_right : (tx : TxId) (s : Status) (turn : Turn) (p : Page) (b : BegunTransaction) (reply : Reply)
    → IsStatus tx s p → p.name ≡ Some b.tx → IsAbort reply → turn.write ≡ None
    → turn.sends ≡ map (λ site. record { to = site; message = messages.Decision b.tx outcomes.Aborted }) b.asked
    → turn.told ≡ Some reply → TurnRight tx s turn (record p { name = None })
gives_right tx s turn p b reply w named abort unwritten sends told = record {
  asks = subst NoInquiries (sym sends) (verdicts_ask b.tx outcomes.Aborted b.asked);
  right =
      λ n. subst (AreRightFrom tx s)
      (sym (turn_is turn None (aborts_of b.tx b.asked) (Some reply) n unwritten sends told))
      (aborts_right tx b.tx reply abort s n b.asked
      (λ is. inl (w.begun (named ∙ ap (λ (t : TxId). Some t) (same_tx_is b.tx tx is)))));
  status =
      λ n. subst (λ (ds : List Deed). IsStatus tx (fold (status_at tx) s ds) (record p { name = None }))
      (sym (turn_is turn None (aborts_of b.tx b.asked) (Some reply) n unwritten sends told))
      (subst (λ (v : Status). IsStatus tx v (record p { name = None }))
      (sym (aborts_same tx b.tx reply abort s n b.asked)) (gave_up tx s p w));
}

-- one begins
pub begins_right : (tx : TxId) (s : Status) (turn : Turn) (p : Page) (x : TxId) → IsStatus tx s p → p.name ≡ None
    → x ≡ record { client = p.client; life = p.life; number = p.count + 1 } → turn.write ≡ None → turn.sends ≡ []
    → turn.told ≡ Some (replies.Began x) → TurnRight tx s turn (record p { count = p.count + 1; name = Some x })
begins_right tx s turn p x w free named unwritten unsent told = record {
  asks = subst NoInquiries (sym unsent) tt;
  right =
      λ n. subst (AreRightFrom tx s) (sym (turn_is turn None [] (Some (replies.Began x)) n unwritten unsent told))
      ((λ is. fresh (same_tx_is x tx is)), tt);
  status =
      λ n. subst (λ (ds : List Deed). IsStatus tx (fold (status_at tx) s ds)
      (record p { count = p.count + 1; name = Some x }))
      (sym (turn_is turn None [] (Some (replies.Began x)) n unwritten unsent told)) (began tx s p x free named w);
} where
  fresh : x ≡ tx → s ≡ Unborn
  fresh same =
      let e : tx ≡ record { client = p.client; life = p.life; number = p.count + 1 } = sym same ∙ named in
      w.unborn (sym (ap (λ (t : TxId). t.life) e)) (sym (ap (λ (t : TxId). t.client) e))
      (let n : tx.number ≡ p.count + 1 = ap (λ (t : TxId). t.number) e in omega arith)

-- it commits: its record is written, and then that is told

abbrev commits_of : TxId → Stamp → List ℕ → List Posting
commits_of x stamp sites =
    map (λ site. record { to = site; message = messages.Decision x (outcomes.Committed stamp) }) sites

module _ (tx x : TxId) (stamp : Stamp) where
  told_same : (s : Status) (n : ℕ) (sites : List ℕ)
      → fold (status_at tx) s (sends_of n (commits_of x stamp sites) ++ Tells (replies.Committed stamp) ∷ []) ≡ s
  told_same s n [] = refl
  told_same s n (site ∷ sites) = told_same s (n + 1) sites

  told_right : (s : Status) (n : ℕ) (sites : List ℕ) → (same_tx x tx ≡ true → s ≡ Committed stamp)
      → AreRightFrom tx s (sends_of n (commits_of x stamp sites) ++ Tells (replies.Committed stamp) ∷ [])
  told_right s n [] is = (tt, tt)
  told_right s n (site ∷ sites) is = (is, told_right s (n + 1) sites is)

pub commits_right : (tx : TxId) (s : Status) (turn : Turn) (p : Page) (c : Commit) (sites : List ℕ) → IsStatus tx s p
    → p.name ≡ Some c.tx → turn.write ≡ Some (records.Commit c)
    → turn.sends
    ≡ map (λ site. record { to = site; message = messages.Decision c.tx (outcomes.Committed c.stamp) }) sites
    → turn.told ≡ Some (replies.Committed c.stamp)
    → TurnRight tx s turn (record p { commits = p.commits ++ c ∷ []; name = None })
commits_right tx s turn p c sites w named write sends told = record {
  asks = subst NoInquiries (sym sends) (verdicts_ask c.tx (outcomes.Committed c.stamp) sites);
  right =
      λ n. subst (AreRightFrom tx s)
      (sym (turn_is turn (Some (records.Commit c)) (commits_of c.tx c.stamp sites) (Some (replies.Committed c.stamp)) n
      write sends told)) (
        (λ is. w.begun (named ∙ ap (λ (t : TxId). Some t) (same_tx_is c.tx tx is))),
        told_right tx c.tx c.stamp (cond (same_tx c.tx tx) (Committed c.stamp) s) n sites
            (λ is. ap (λ (t : Bool). cond t (Committed c.stamp) s) is),
      );
  status =
      λ n. subst (λ (ds : List Deed). IsStatus tx (fold (status_at tx) s ds)
      (record p { commits = p.commits ++ c ∷ []; name = None }))
      (sym (turn_is turn (Some (records.Commit c)) (commits_of c.tx c.stamp sites) (Some (replies.Committed c.stamp)) n
      write sends told))
      (subst (λ (v : Status). IsStatus tx v (record p { commits = p.commits ++ c ∷ []; name = None }))
      (sym (told_same tx c.tx c.stamp (cond (same_tx c.tx tx) (Committed c.stamp) s) n sites))
      (commits_one tx s p c named w));
}

-- a question is answered by how the transaction stands

abbrev pub IsExact : Status → Outcome → Type 0
IsExact s (outcomes.Committed stamp) = s ≡ Committed stamp
IsExact s outcomes.Aborted = s ≡ Dead
IsExact s outcomes.Active = s ≡ Begun

exact_right : (s : Status) (v : Outcome) → IsExact s v → IsRightVerdict s v
exact_right s (outcomes.Committed stamp) is = is
exact_right s outcomes.Aborted is = inr is
exact_right s outcomes.Active is = is

verdict_same : (tx : TxId) (s : Status) (x : TxId) (n to : ℕ) (v : Outcome) → (same_tx x tx ≡ true → IsExact s v)
    → fold (status_at tx) s (Sends n to (messages.Decision x v) ∷ []) ≡ s
verdict_same tx s x n to (outcomes.Committed stamp) is = refl
verdict_same tx s x n to outcomes.Aborted is = by (same_tx x tx) is where
  by : (t : Bool) → (t ≡ true → s ≡ Dead) → cond t (given_up s) s ≡ s
  by true now = (let dead : s ≡ Dead = now refl in ap given_up dead ∙ sym dead)
  by false now = refl
verdict_same tx s x n to outcomes.Active is = refl

pub verdict_right : (tx : TxId) (s : Status) (turn : Turn) (p : Page) (x : TxId) (to : ℕ) (verdict : Outcome)
    → IsStatus tx s p → turn.write ≡ None → turn.sends ≡ record { to = to; message = messages.Decision x verdict } ∷ []
    → turn.told ≡ None
    → (same_tx x tx ≡ true → IsExact s verdict) → TurnRight tx s turn p
verdict_right tx s turn p x to verdict w unwritten sends told is = record {
  asks = subst NoInquiries (sym sends) (tt, tt);
  right =
      λ n. subst (AreRightFrom tx s)
      (sym (turn_is turn None (record { to = to; message = messages.Decision x verdict } ∷ []) None n unwritten sends
      told)) ((λ same. exact_right s verdict (is same)), tt);
  status =
      λ n. subst (λ (ds : List Deed). IsStatus tx (fold (status_at tx) s ds) p)
      (sym (turn_is turn None (record { to = to; message = messages.Decision x verdict } ∷ []) None n unwritten sends
      told))
      (subst (λ (v : Status). IsStatus tx v p) (sym (verdict_same tx s x n to verdict is)) w);
}
