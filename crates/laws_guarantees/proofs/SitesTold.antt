-- The end of a transaction is told to each site that it asked to hold something.
use Rattle.std.proofs.Common.{[], ◌≡◌, ℕ, ◌==◌, ◌&&◌, inl, inr, Bool, true, false, cond, List, ◌∷◌, map, fold, Option}
use Rattle.std.proofs.Common.{Some, refl, sym, ap, ◌∙◌, subst, eq-eqb, eqb-true}
use Rattle.qc_list.specs.Vocabulary.{In}
use Rattle.qc_stamp.specs.declared.stamp.TxId.{TxId}
use Rattle.qc_stamp.specs.Vocabulary.{same_tx}
use Rattle.qc_msg.specs.declared.begun.Begun.{Begun}
use Rattle.qc_msg.specs.declared.message.Message.{Message}
use Rattle.qc_msg.specs.declared.message.Message.TheVariants as messages
use Rattle.qc_msg.specs.declared.message.Outcome.{Outcome}
use Rattle.qc_msg.specs.declared.message.Want.{Want}
use Rattle.qc_msg.specs.declared.turn.Posting.{Posting}
use Rattle.qc_msg.specs.Vocabulary.{decisions}
use Rattle.qc_promise.specs.Vocabulary.{is_final}
use Rattle.qc_front.specs.declared.transaction.Transaction.{Transaction}
use Rattle.qc_front.specs.Vocabulary.{request_of, with_asked}
use Rattle.laws_turns.specs.Vocabulary.{begun_in}
use Rattle.laws_guarantees.proofs.Joined.{joined_first, joined_second}
use Rattle.laws_guarantees.specs.Vocabulary.{asks_to_hold, open_said}
use Rattle.qc_stamp.proofs.Orders.{same_tx_itself, same_tx_is}

-- whether a transaction is open at a site after messages more

abbrev pub open_sent : ℕ → TxId → Bool → ℕ → Message → Bool
open_sent s x before to m = cond (to == s) (open_said x before m) before

abbrev pub open_posted : ℕ → TxId → Bool → List Posting → Bool
open_posted s x before ps = fold (λ (was : Bool) (p : Posting). open_sent s x was p.to p.message) before ps

-- it is the begun transaction, and knows that it asked the site
pub record HasAsked (s : ℕ) (x : TxId) (o : Option Transaction) : Type 0 where
  pub t : Transaction
  pub is : o ≡ Some t
  pub named : t.begun.tx ≡ x
  pub asked : In s t.begun.asked

module _ (s : ℕ) (x : TxId) where
  abbrev pub Keeps : Option Transaction → Option Transaction → List Posting → Type 0
  Keeps old new ps =
      (before : Bool) → (before ≡ true → HasAsked s x old) → open_posted s x before ps ≡ true → HasAsked s x new

  pub like : (t u : Transaction) → u.begun.tx ≡ t.begun.tx → u.begun.asked ≡ t.begun.asked → HasAsked s x (Some t)
      → HasAsked s x (Some u)
  like t u tx asked h =
      let same : t ≡ h.t = (let is : Some t ≡ Some h.t = h.is in cc) in
      record {
        t = u;
        is = refl;
        named = tx ∙ ap (λ (v : Transaction). v.begun.tx) same ∙ h.named;
        asked = subst (In s) (sym (asked ∙ ap (λ (v : Transaction). v.begun.asked) same)) h.asked;
      }

  pub silent : (old new : Option Transaction) (ps : List Posting) → ps ≡ [] → (HasAsked s x old → HasAsked s x new)
      → Keeps old new ps
  silent old new ps none on before has is = on (has (ap (open_posted s x before) (sym none) ∙ is))

  -- one message

  pub spoken : (before : Bool) (to : ℕ) (m : Message) → (open_said x before m ≡ true → before ≡ true)
      → open_sent s x before to m ≡ true → before ≡ true
  spoken before to m less = by (to == s)
    where
      by : (t : Bool) → cond t (open_said x before m) before ≡ true → before ≡ true
      by true is = less is
      by false is = is

  pub decision_less : (before : Bool) (y : TxId) (v : Outcome) → open_said x before (messages.Decision y v) ≡ true
      → before ≡ true
  decision_less before y v = by (same_tx y x && is_final v)
    where
      by : (t : Bool) → cond t false before ≡ true → before ≡ true
      by true is = absurd (let never : ⊥ = cc in never)
      by false is = is

  -- requests

  asks_from : (b : Begun) (w : Transaction) (want : ℕ → Want) (sites : List ℕ) → w.begun.tx ≡ b.tx
      → ((site : ℕ) → In site sites → In site w.begun.asked)
      → (before : Bool) → (before ≡ true → HasAsked s x (Some w))
      → open_posted s x before (map (request_of b want) sites) ≡ true → HasAsked s x (Some w)
  asks_from b w want [] named all before has is = has is
  asks_from b w want (site ∷ sites) named all before has is =
      asks_from b w want sites named (λ k among. all k (inr among))
      (open_sent s x before site (request_of b want site).message) (one (site == s) refl) is
    where
      one : (t : Bool) → (site == s) ≡ t → cond t (open_said x before (request_of b want site).message) before ≡ true
          → HasAsked s x (Some w)
      one false other now = has now
      one true here now = by (same_tx b.tx x) refl now
        where
          by : (t : Bool) → same_tx b.tx x ≡ t → cond (t && asks_to_hold (want site)) true before ≡ true
              → HasAsked s x (Some w)
          by true same held =
              record {
                t = w;
                is = refl;
                named = named ∙ same_tx_is b.tx x same;
                asked = subst (λ (k : ℕ). In k w.begun.asked) (eqb-true site s here) (all site (inl refl));
              }
          by false other held = has held

  -- the round's requests go to sites that the transaction knows
  pub asks : (t u : Transaction) (want : ℕ → Want) (sites : List ℕ) → u.begun.tx ≡ t.begun.tx
      → u.begun.asked ≡ t.begun.asked
      → Keeps (Some t) (Some (with_asked u sites)) (map (request_of u.begun want) sites)
  asks t u want sites tx asked before has is =
      asks_from u.begun (with_asked u sites) want sites refl
      (λ site among. joined_second site u.begun.asked sites among) before
      (λ was. known (like t u tx asked (has was))) is
    where
      known : HasAsked s x (Some u) → HasAsked s x (Some (with_asked u sites))
      known h =
          let same : u ≡ h.t = (let is : Some u ≡ Some h.t = h.is in cc) in
          record {
            t = with_asked u sites;
            is = refl;
            named = ap (λ (v : Transaction). v.begun.tx) same ∙ h.named;
            asked =
                joined_first s u.begun.asked sites (subst (λ (v : Transaction). In s v.begun.asked) (sym same) h.asked);
          }

  -- verdicts

  record IsPast (y : TxId) (sites : List ℕ) (before : Bool) : Type 0 where
    pub was : before ≡ true
    apart : y ≡ x → In s sites → ⊥

  decided : (y : TxId) (v : Outcome) → is_final v ≡ true → (sites : List ℕ) (before : Bool)
      → open_posted s x before (map (λ site. record { to = site; message = messages.Decision y v }) sites) ≡ true
      → IsPast y sites before
  decided y v final [] before is = record { was = is; apart = λ same never. never }
  decided y v final (site ∷ sites) before is =
      one (site == s) refl (decided y v final sites (open_sent s x before site (messages.Decision y v)) is)
    where
      one : (t : Bool) → (site == s) ≡ t → IsPast y sites (cond t (open_said x before (messages.Decision y v)) before)
          → IsPast y (site ∷ sites) before
      one false other r = record { was = r.was; apart = λ same among. by same among }
        where
          by : y ≡ x → In s (site ∷ sites) → ⊥
          by same (inl here) = let yes : (site == s) ≡ true = eq-eqb site s (sym here) in let never : ⊥ = cc in never
          by same (inr later) = r.apart same later
      one true here r = record { was = decision_less before y v r.was; apart = λ same among. by same }
        where
          by : y ≡ x → ⊥
          by same =
              let yes : same_tx y x ≡ true = subst (λ (k : TxId). same_tx y k ≡ true) same (same_tx_itself y) in
              let shut : open_said x before (messages.Decision y v) ≡ false =
              ap (λ (t : Bool). cond (t && is_final v) false before) yes
              ∙ ap (λ (t : Bool). cond t false before) final in
              let never : ⊥ = (let now : open_said x before (messages.Decision y v) ≡ true = r.was in cc) in never

  -- the end of a transaction is told to each site that it asked
  pub ends : (b : Begun) (v : Outcome) (old new : Option Transaction) → begun_in old ≡ Some b → is_final v ≡ true
      → Keeps old new (decisions b v)
  ends b v old new is final before has now =
      let r : IsPast b.tx b.asked before = decided b.tx v final b.asked before now in
      let h : HasAsked s x old = has r.was in
      let same : b ≡ h.t.begun = (let e : Some b ≡ Some h.t.begun = sym is ∙ ap begun_in h.is in cc) in
      absurd
      (r.apart (ap (λ (c : Begun). c.tx) same ∙ h.named) (subst (λ (c : Begun). In s c.asked) (sym same) h.asked))
