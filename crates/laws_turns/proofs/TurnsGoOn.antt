-- A turn by which a transaction goes on: its deeds are right, and leave its status.
use Rattle.std.proofs.Common.{[], ◌≡◌, ℕ, ◌+◌, List, ◌∷◌, ◌++◌, fold, map, Option, Some, None, refl, sym, ap, ◌∙◌}
use Rattle.std.proofs.Common.{subst, cond, true}
use Rattle.std.specs.List.{AllByRecursion as Every}
use Rattle.std.specs.Prelude.{MatchOption}
use Rattle.std.specs.Option.{option_map_or}
use Rattle.qc_list.proofs.Members.{every-weaker}
use Rattle.qc_stamp.specs.declared.stamp.TxId.{TxId}
use Rattle.qc_stamp.proofs.Orders.{same_tx_is}
use Rattle.qc_stamp.specs.Vocabulary.{same_tx}
use Rattle.qc_msg.specs.declared.message.Message.{Message}
use Rattle.qc_msg.specs.declared.message.Message.TheVariants as messages
use Rattle.qc_msg.specs.declared.message.Outcome.{Outcome}
use Rattle.qc_msg.specs.declared.record.Record.{Record}
use Rattle.qc_msg.specs.declared.reply.Reply.{Reply}
use Rattle.qc_msg.specs.declared.turn.Posting.{Posting}
use Rattle.qc_msg.specs.declared.turn.Turn.{Turn}
use Rattle.qc_msg.specs.Vocabulary.{Deed, Sends, Tells, sends_of, tells_of, turn_deeds, writes_of, Requested}
use Rattle.qc_msg.specs.Vocabulary.{inquiry_in}
use Rattle.qc_promise.specs.Vocabulary.{AreRightFrom, Begun, Status, status_at, status_told, given_up, Unborn}
use Rattle.laws_turns.proofs.FrontGoesOn.{IsRequestFor, ToldNeutral, IsNeutral}
use Rattle.laws_turns.proofs.Statuses.{IsStatus, Page}
use Rattle.laws_turns.proofs.MessageCases.{message_cases}
use Rattle.laws_turns.proofs.ReplyCases.{reply_cases}

-- a client asks nobody how a transaction stands
abbrev pub IsNoInquiry : Message → Type 0
IsNoInquiry m = MatchOption (inquiry_in m) (Unit {0}) (λ (other : TxId). ⊥)

-- a message that is such a request
request_for : (name : Option TxId) (P : Message → Type 0)
    → ((q : Requested) → name ≡ Some q.tx → P (messages.Request q.tx q.epoch q.life q.want)) → (m : Message)
    → IsRequestFor name m → P m
request_for name P each m is =
    message_cases (λ m r a d i. MatchOption r ⊥ (λ (q : Requested). name ≡ Some q.tx) → P m) each
    (λ a never. absurd never) (λ v never. absurd never) (λ tx never. absurd never) (λ m never. absurd never) m is

pub request_asks : (name : Option TxId) (m : Message) → IsRequestFor name m → IsNoInquiry m
request_asks name m is = request_for name IsNoInquiry (λ q its. tt) m is

pub verdicts_ask : (x : TxId) (v : Outcome) (sites : List ℕ)
    → Every (λ (q : Posting). IsNoInquiry q.message)
    (map (λ site. record { to = site; message = messages.Decision x v }) sites)
verdicts_ask x v [] = tt
verdicts_ask x v (site ∷ sites) = (tt, verdicts_ask x v sites)

abbrev pub NoInquiries : List Posting → Type 0
NoInquiries ps = Every (λ (q : Posting). IsNoInquiry q.message) ps

-- a turn: its deeds are right, and leave this status
pub record TurnRight (tx : TxId) (s : Status) (turn : Turn) (p : Page) : Type 0 where
  pub asks : NoInquiries turn.sends
  pub right : (n : ℕ) → AreRightFrom tx s (turn_deeds n turn)
  pub status : (n : ℕ) → IsStatus tx (fold (status_at tx) s (turn_deeds n turn)) p

-- the deeds of a turn that writes, sends and tells this
pub turn_is : (turn : Turn) (w : Option Record) (ps : List Posting) (told : Option Reply) (n : ℕ) → turn.write ≡ w
    → turn.sends ≡ ps → turn.told ≡ told → turn_deeds n turn ≡ writes_of w ++ (sends_of n ps ++ tells_of told)
turn_is turn w ps told n write sends tells = λ i. writes_of (write i) ++ (sends_of n (sends i) ++ tells_of (tells i))

-- requests for the begun transaction, and a reply that begins and ends none

module _ (tx : TxId) (s : Status) (name : Option TxId) (live : name ≡ Some tx → s ≡ Begun) where
  neutral_right : (reply : Reply) → ToldNeutral name (Some reply) → AreRightFrom tx s (Tells reply ∷ [])
  neutral_right reply is =
      reply_cases
      (λ r began already gone. IsNeutral name r → MatchOption already
      (MatchOption began (Unit {0}) (λ (other : TxId). same_tx other tx ≡ true → s ≡ Unborn))
      (λ (other : TxId). same_tx other tx ≡ true → s ≡ Begun) × Unit {0})
      (λ other never. absurd never)
      (λ other its. ((λ same. live (its ∙ ap (λ (t : TxId). Some t) (same_tx_is other tx same))), tt))
      (λ why never. absurd never) (λ never. absurd never) (λ r its. (tt, tt)) reply is

  neutral_same : (reply : Reply) → ToldNeutral name (Some reply) → status_told tx s reply ≡ s
  neutral_same reply is =
      reply_cases
      (λ r began already gone. IsNeutral name r
      → option_map_or (λ (other : TxId). cond (same_tx other tx) Begun s) began (cond gone (given_up s) s) ≡ s)
      (λ other never. absurd never) (λ other its. refl) (λ why never. absurd never) (λ never. absurd never)
      (λ r its. refl) reply is

  talk_right : (n : ℕ) (ps : List Posting) (told : Option Reply)
      → Every (λ (p : Posting). IsRequestFor name p.message) ps → ToldNeutral name told
      → AreRightFrom tx s (sends_of n ps ++ tells_of told)
  talk_right n [] None all is = tt
  talk_right n [] (Some reply) all is = neutral_right reply is
  talk_right n (p ∷ ps) told all is = by p.message all.0 (talk_right (n + 1) ps told all.1 is) where
    by : (m : Message) → IsRequestFor name m → AreRightFrom tx s (sends_of (n + 1) ps ++ tells_of told)
        → AreRightFrom tx s (Sends n p.to m ∷ (sends_of (n + 1) ps ++ tells_of told))
    by m is rest =
        request_for name (λ (m : Message). AreRightFrom tx s (Sends n p.to m ∷ (sends_of (n + 1) ps ++ tells_of told)))
        (λ q its. ((λ same. live (its ∙ ap (λ (t : TxId). Some t) (same_tx_is q.tx tx same))), rest)) m is

  talk_same : (n : ℕ) (ps : List Posting) (told : Option Reply)
      → Every (λ (p : Posting). IsRequestFor name p.message) ps → ToldNeutral name told
      → fold (status_at tx) s (sends_of n ps ++ tells_of told) ≡ s
  talk_same n [] None all is = refl
  talk_same n [] (Some reply) all is = neutral_same reply is
  talk_same n (p ∷ ps) told all is = by p.message all.0 (talk_same (n + 1) ps told all.1 is) where
    by : (m : Message) → IsRequestFor name m → fold (status_at tx) s (sends_of (n + 1) ps ++ tells_of told) ≡ s
        → fold (status_at tx) s (Sends n p.to m ∷ (sends_of (n + 1) ps ++ tells_of told)) ≡ s
    by m is rest =
        request_for name
        (λ (m : Message). fold (status_at tx) s (Sends n p.to m ∷ (sends_of (n + 1) ps ++ tells_of told)) ≡ s)
        (λ q its. rest) m is

-- the transaction goes on: its requests, and such a reply
pub goes_right : (tx : TxId) (s : Status) (turn : Turn) (p : Page) → IsStatus tx s p → turn.write ≡ None
    → Every (λ (q : Posting). IsRequestFor p.name q.message) turn.sends → ToldNeutral p.name turn.told
    → TurnRight tx s turn p
goes_right tx s turn p w unwritten sends told = record {
  asks =
      every-weaker (λ (q : Posting). IsRequestFor p.name q.message) (λ (q : Posting). IsNoInquiry q.message)
      (λ q. request_asks p.name q.message) turn.sends sends;
  right =
      λ n. subst (AreRightFrom tx s) (sym (turn_is turn None turn.sends turn.told n unwritten refl refl))
      (talk_right tx s p.name w.begun n turn.sends turn.told sends told);
  status =
      λ n. subst (λ (ds : List Deed). IsStatus tx (fold (status_at tx) s ds) p)
      (sym (turn_is turn None turn.sends turn.told n unwritten refl refl))
      (subst (λ (v : Status). IsStatus tx v p)
      (sym (talk_same tx s p.name w.begun n turn.sends turn.told sends told)) w);
}
