-- Each event leaves the deeds of clients, the mail and what sites ask right, where the turn that is posted says what
-- it may.
use Rattle.std.proofs.Common.{◌≡◌, ◌≢◌, ℕ, ◌+◌, ◌==◌, Bool, true, false, List, [], ◌∷◌, ◌++◌, fold, length, refl, sym}
use Rattle.std.proofs.Common.{ap, ◌∙◌, subst, eqb-true}
use Rattle.std.specs.List.{AllByRecursion as Every}
use Rattle.std.specs.Prelude.{MatchOption}
use Rattle.std.proofs.lemmas.List.Sums.{fold-append}
use Rattle.qc_list.proofs.Members.{every-append, every-at, every-weaker}
use Rattle.qc_stamp.specs.declared.stamp.TxId.{TxId}
use Rattle.qc_stamp.proofs.Orders.{same_tx_is}
use Rattle.qc_stamp.specs.Vocabulary.{same_tx}
use Rattle.qc_decl.specs.Vocabulary.{client_actor, is_client, is_site}
use Rattle.qc_decl.specs.declared.declaration.Declaration.{Declaration}
use Rattle.qc_entry.specs.declared.record.Prepared.{Prepared}
use Rattle.qc_lock.specs.declared.held.Held.{Held}
use Rattle.qc_msg.specs.declared.message.Envelope.{Envelope}
use Rattle.qc_msg.specs.declared.message.Message.{Message}
use Rattle.qc_msg.specs.declared.step.Input.{Input}
use Rattle.qc_msg.specs.declared.step.Input.TheVariants as inputs
use Rattle.qc_msg.specs.declared.step.Step.{Step}
use Rattle.qc_msg.specs.declared.turn.Posting.{Posting}
use Rattle.qc_msg.specs.declared.turn.Turn.{Turn}
use Rattle.qc_msg.specs.Vocabulary.{Deed, Entry, Takes, WasSentTo, by, deeds, envelopes, mail, marked, posted, quiet}
use Rattle.qc_msg.specs.Vocabulary.{step_of, turn_deeds}
use Rattle.qc_msg.specs.Vocabulary.{Answered, Decided, Requested, answer_in, decision_in, inquiry_in, request_in}
use Rattle.qc_msg.proofs.GrownMail.{mail-append, mail-posted, mail-taken}
use Rattle.qc_msg.proofs.DeedsGrow.{deeds-append, deeds-other}
use Rattle.qc_msg.proofs.Growth.{deeds-posted, deeds-taken}
use Rattle.qc_site.specs.Vocabulary.{SiteMove, moved as site_moved, new_site, site_after, site_does, site_takes}
use Rattle.qc_promise.specs.Vocabulary.{Status, Unborn, status, status_at}
use Rattle.laws_turns.proofs.Bounding.{control-deeds, control-mail, site_posts, turn-posts}
use Rattle.laws_turns.proofs.Events.{IsControl}
use Rattle.laws_turns.proofs.Lasting.{born_on}
use Rattle.laws_turns.proofs.SitesAsk.{Asks, GivenTells, SiteTells, Tells, site_asks}
use Rattle.laws_turns.proofs.KnownDeeds.{IsKnown, IsKnownIn, KnownFrom, known-append, known-posts}
use Rattle.laws_turns.proofs.MessageCases.{message_cases}
use Rattle.laws_turns.proofs.ReadingCases.{matched, matched_by}

-- the transaction was begun, as its client's deeds show
abbrev pub Born : Declaration → List Entry → TxId → Type 0
Born decl h tx = status (deeds (client_actor decl tx.client) [] h) tx ≢ Unborn

pub born_later : (decl : Declaration) (h k : List Entry) (tx : TxId) → Born decl h tx → Born decl (h ++ k) tx
born_later decl h k tx born =
    subst (λ (ds : List Deed). status ds tx ≢ Unborn) (sym (deeds-append (client_actor decl tx.client) [] h k))
    (subst (λ (s : Status). s ≢ Unborn) (sym
    (fold-append (status_at tx) Unborn (deeds (client_actor decl tx.client) [] h)
    (deeds (client_actor decl tx.client) (mail h) k)))
    (born_on tx (status (deeds (client_actor decl tx.client) [] h) tx)
    (deeds (client_actor decl tx.client) (mail h) k) born))

-- a Decision comes from a client
abbrev pub IsFromClient : Declaration → ℕ → Message → Type 0
IsFromClient decl from m =
    MatchOption (decision_in m) (Unit {0}) (λ (v : Decided). is_client decl from ≡ true)

pub from_client : (decl : Declaration) (from : ℕ) (m : Message) → is_client decl from ≡ true → IsFromClient decl from m
from_client decl from m is =
    matched (Unit {0}) (λ (v : Decided). is_client decl from ≡ true) (decision_in m) (λ v. is) tt

module _ (decl : Declaration) where
  -- where more transactions are begun

  tells_later : (h k : List Entry) (to : ℕ) (m : Message) → Tells decl (Born decl h) to m
      → Tells decl (Born decl (h ++ k)) to m
  tells_later h k to m here =
      matched_by (MatchOption (request_in m) (Unit {0}) (λ (q : Requested). Born decl h q.tx))
      (MatchOption (request_in m) (Unit {0}) (λ (q : Requested). Born decl (h ++ k) q.tx))
      (λ (tx : TxId). (to ≡ client_actor decl tx.client) × Born decl h tx)
      (λ (tx : TxId). (to ≡ client_actor decl tx.client) × Born decl (h ++ k) tx) (inquiry_in m)
      (λ tx its. (its.0, born_later decl h k tx its.1))
      (matched_by (Unit {0}) (Unit {0}) (λ (q : Requested). Born decl h q.tx)
      (λ (q : Requested). Born decl (h ++ k) q.tx) (request_in m)
      (λ q its. born_later decl h k q.tx its) (λ none. none))
      here

  site_tells_later : (h k : List Entry) (to : ℕ) (m : Message) → SiteTells decl (Born decl h) to m
      → SiteTells decl (Born decl (h ++ k)) to m
  site_tells_later h k to m here =
      matched_by (MatchOption (answer_in m) ⊥ (λ (a : Answered). Unit {0}))
      (MatchOption (answer_in m) ⊥ (λ (a : Answered). Unit {0}))
      (λ (tx : TxId). (to ≡ client_actor decl tx.client) × Born decl h tx)
      (λ (tx : TxId). (to ≡ client_actor decl tx.client) × Born decl (h ++ k) tx) (inquiry_in m)
      (λ tx its. (its.0, born_later decl h k tx its.1)) (λ none. none) here

  pub asks_later : (h k : List Entry) (m : SiteMove) → Asks decl (Born decl h) m → Asks decl (Born decl (h ++ k)) m
  asks_later h k m a = record {
    held = every-weaker (λ (x : Held). Born decl h x.tx) (λ (x : Held). Born decl (h ++ k) x.tx)
        (λ x. born_later decl h k x.tx) m.site.held a.held;
    prepared = every-weaker (λ (p : Prepared). Born decl h p.tx) (λ (p : Prepared). Born decl (h ++ k) p.tx)
        (λ p. born_later decl h k p.tx) m.site.prepared a.prepared;
    sends = every-weaker (λ (p : Posting). SiteTells decl (Born decl h) p.to p.message)
        (λ (p : Posting). SiteTells decl (Born decl (h ++ k)) p.to p.message)
        (λ p. site_tells_later h k p.to p.message) m.turn.sends a.sends;
  }

  pub site_tells : (B : TxId → Type 0) (to : ℕ) (m : Message) → SiteTells decl B to m → Tells decl B to m
  site_tells B to m here =
      message_cases
      (λ m r a d i. MatchOption i (MatchOption a ⊥ (λ (x : Answered). Unit {0}))
      (λ (tx : TxId). (to ≡ client_actor decl tx.client) × B tx)
      → MatchOption i (MatchOption r (Unit {0}) (λ (q : Requested). B q.tx))
      (λ (tx : TxId). (to ≡ client_actor decl tx.client) × B tx))
      (λ q never. absurd never) (λ a its. tt) (λ v its. tt) (λ tx its. its) (λ m its. tt) m here

  pub site_decides_not : (B : TxId → Type 0) (from to : ℕ) (m : Message) → SiteTells decl B to m
      → IsFromClient decl from m
  site_decides_not B from to m here =
      message_cases
      (λ m r a d i. MatchOption i (MatchOption a ⊥ (λ (x : Answered). Unit {0}))
      (λ (tx : TxId). (to ≡ client_actor decl tx.client) × B tx)
      → MatchOption d (Unit {0}) (λ (v : Decided). is_client decl from ≡ true))
      (λ q its. tt) (λ a its. tt) (λ v never. absurd never) (λ tx its. tt) (λ m its. tt) m here

  -- what is in the mail: as its sender may say
  pub record IsMail (h : List Entry) (e : Envelope) : Type 0 where
    pub tells : Tells decl (Born decl h) e.to e.message
    pub from : IsFromClient decl e.from e.message

  mail_later : (h k : List Entry) (es : List Envelope) → Every (IsMail h) es → Every (IsMail (h ++ k)) es
  mail_later h k es = every-weaker (IsMail h) (IsMail (h ++ k))
      (λ e w. record { tells = tells_later h k e.to e.message w.tells; from = w.from }) es

  pub record IsSaid (h : List Entry) (from : ℕ) (p : Posting) : Type 0 where
    pub tells : Tells decl (Born decl h) p.to p.message
    pub sender : IsFromClient decl from p.message

  posted_mail : (h : List Entry) (from n : ℕ) (ps : List Posting) → Every (IsSaid h from) ps
      → Every (IsMail h) (envelopes from n ps)
  posted_mail h from n [] all = tt
  posted_mail h from n (p ∷ ps) all = (
    record { tells = all.0.tells; from = all.0.sender },
    posted_mail h from (n + 1) ps all.1,
  )

  pub record Good (h : List Entry) : Type 0 where
    pub known : (a : ℕ) → is_client decl a ≡ true → (tx : TxId) → KnownFrom tx Unborn (deeds a [] h)
    pub mail_is : Every (IsMail h) (mail h)
    pub sites : (a : ℕ) → is_site decl a ≡ true → Asks decl (Born decl h) (site_after decl a (deeds a [] h))

  -- an actor takes an input

  module _ (h : List Entry) (good : Good h) (b : ℕ) (g : Input) (sent : WasSentTo b (mail h) g) where
    given_tells : (g : Input) → WasSentTo b (mail h) g → GivenTells decl (Born decl h) g
    given_tells (inputs.Called command) was = tt
    given_tells (inputs.Got e) was = (let m : IsMail h e = every-at (IsMail h) (mail h) e.number e good.mail_is was.0 in
        m.tells)
    given_tells (inputs.Lost number) was = tt

    known_in : (tx : TxId) (to : ℕ) (m : Message) → to ≡ b → Tells decl (Born decl h) to m
        → IsKnownIn tx (status (deeds b [] h) tx) m
    known_in tx to m at tells =
        matched_by (MatchOption (request_in m) (Unit {0}) (λ (q : Requested). Born decl h q.tx)) (Unit {0})
        (λ (other : TxId). (to ≡ client_actor decl other.client) × Born decl h other)
        (λ (other : TxId). same_tx other tx ≡ true → status (deeds b [] h) tx ≢ Unborn) (inquiry_in m)
        (λ other its same. (let is : other ≡ tx = same_tx_is other tx same in
        let born : Born decl h tx = subst (Born decl h) is its.1 in
        let actor : client_actor decl tx.client ≡ b = ap (λ (t : TxId). client_actor decl t.client) (sym is)
        ∙ sym its.0 ∙ at in
        subst (λ (a : ℕ). status (deeds a [] h) tx ≢ Unborn) actor born))
        (λ none. tt) tells

    known_given : (tx : TxId) (g : Input) → WasSentTo b (mail h) g → IsKnown tx (status (deeds b [] h) tx) g
    known_given tx (inputs.Called command) was = tt
    known_given tx (inputs.Got e) was = (let m : IsMail h e =
        every-at (IsMail h) (mail h) e.number e good.mail_is was.0 in known_in tx e.to e.message was.1 m.tells)
    known_given tx (inputs.Lost number) was = tt

    pub takes_good : Good (h ++ marked b (step_of g) ∷ [])
    takes_good = record {
      known = λ a named tx. known_by a named tx (b == a) refl;
      mail_is = subst (Every (IsMail (h ++ marked b (step_of g) ∷ []))) (sym (mail-taken h b g))
          (mail_later h (marked b (step_of g) ∷ []) (mail h) good.mail_is);
      sites = λ a is. sites_by a is (b == a) refl;
    } where
      known_by : (a : ℕ) → is_client decl a ≡ true → (tx : TxId) (t : Bool) → (b == a) ≡ t
          → KnownFrom tx Unborn (deeds a [] (h ++ marked b (step_of g) ∷ []))
      known_by a named tx true same =
          subst (λ (k : ℕ). KnownFrom tx Unborn (deeds k [] (h ++ marked b (step_of g) ∷ []))) (eqb-true b a same)
          (subst (KnownFrom tx Unborn) (sym (deeds-taken b h g sent))
          (known-append tx Unborn (deeds b [] h) (Takes g ∷ [])
          (good.known b (ap (is_client decl) (eqb-true b a same) ∙ named) tx) (known_given tx g sent, tt)))
      known_by a named tx false other = subst (KnownFrom tx Unborn) (sym (deeds-other b a [] h (step_of g ∷ []) other))
          (good.known a named tx)

      own : is_site decl b ≡ true → Asks decl (Born decl (h ++ marked b (step_of g) ∷ []))
          (site_after decl b (deeds b [] (h ++ marked b (step_of g) ∷ [])))
      own is =
          subst (Asks decl (Born decl (h ++ marked b (step_of g) ∷ [])))
          (sym (ap (site_after decl b) (deeds-taken b h g sent)
          ∙ fold-append (site_does decl) (site_moved (new_site b) quiet) (deeds b [] h) (Takes g ∷ [])))
          (asks_later h (marked b (step_of g) ∷ []) (site_takes decl (site_after decl b (deeds b [] h)).site g)
          (site_asks decl (Born decl h) (site_after decl b (deeds b [] h)).site g (good.sites b is).held
          (good.sites b is).prepared (given_tells g sent)))

      sites_by : (a : ℕ) → is_site decl a ≡ true → (t : Bool) → (b == a) ≡ t
          → Asks decl (Born decl (h ++ marked b (step_of g) ∷ []))
          (site_after decl a (deeds a [] (h ++ marked b (step_of g) ∷ [])))
      sites_by a is true same = subst (λ (k : ℕ). Asks decl (Born decl (h ++ marked b (step_of g) ∷ []))
          (site_after decl k (deeds k [] (h ++ marked b (step_of g) ∷ [])))) (eqb-true b a same)
          (own (ap (is_site decl) (eqb-true b a same) ∙ is))
      sites_by a is false other =
          subst (λ (ds : List Deed). Asks decl (Born decl (h ++ marked b (step_of g) ∷ [])) (site_after decl a ds))
          (sym (deeds-other b a [] h (step_of g ∷ []) other))
          (asks_later h (marked b (step_of g) ∷ []) (site_after decl a (deeds a [] h)) (good.sites a is))

  -- an actor posts its turn, which says what it may

  module _ (h : List Entry) (good : Good h) (b : ℕ) (turn : Turn) where
    pub known_posts : (a : ℕ) → is_client decl a ≡ true → (tx : TxId)
        → KnownFrom tx Unborn (deeds a [] (h ++ by b (posted (length (mail h)) turn)))
    known_posts a named tx = on (b == a) refl where
      on : (t : Bool) → (b == a) ≡ t → KnownFrom tx Unborn (deeds a [] (h ++ by b (posted (length (mail h)) turn)))
      on true same =
          subst (λ (j : ℕ). KnownFrom tx Unborn (deeds j [] (h ++ by b (posted (length (mail h)) turn))))
          (eqb-true b a same)
          (subst (KnownFrom tx Unborn) (sym (deeds-posted b (length (mail h)) h turn))
          (known-append tx Unborn (deeds b [] h) (turn_deeds (length (mail h)) turn)
          (good.known b (ap (is_client decl) (eqb-true b a same) ∙ named) tx)
          (known-posts tx (fold (status_at tx) Unborn (deeds b [] h)) (turn_deeds (length (mail h)) turn)
          (turn-posts (length (mail h)) turn))))
      on false other = subst (KnownFrom tx Unborn) (sym (deeds-other b a [] h (posted (length (mail h)) turn) other))
          (good.known a named tx)

    pub posts_good : Every (IsSaid (h ++ by b (posted (length (mail h)) turn)) b) turn.sends
        → Good (h ++ by b (posted (length (mail h)) turn))
    posts_good said = record {
      known = known_posts;
      mail_is = subst (Every (IsMail (h ++ by b (posted (length (mail h)) turn))))
          (sym (mail-append h (by b (posted (length (mail h)) turn))
          ∙ ap (λ (v : List Envelope). mail h ++ v) (mail-posted b (length (mail h)) turn)))
          (every-append (IsMail (h ++ by b (posted (length (mail h)) turn))) (mail h)
          (envelopes b (length (mail h)) turn.sends)
          (mail_later h (by b (posted (length (mail h)) turn)) (mail h) good.mail_is)
          (posted_mail (h ++ by b (posted (length (mail h)) turn)) b (length (mail h)) turn.sends said));
      sites = λ a is. sites_by a is (b == a) refl;
    } where
      own : is_site decl b ≡ true → Asks decl (Born decl (h ++ by b (posted (length (mail h)) turn)))
          (site_after decl b (deeds b [] (h ++ by b (posted (length (mail h)) turn))))
      own is =
          subst (Asks decl (Born decl (h ++ by b (posted (length (mail h)) turn))))
          (sym (ap (site_after decl b) (deeds-posted b (length (mail h)) h turn)
          ∙ fold-append (site_does decl) (site_moved (new_site b) quiet) (deeds b [] h)
          (turn_deeds (length (mail h)) turn)
          ∙ site_posts decl (site_after decl b (deeds b [] h)) (turn_deeds (length (mail h)) turn)
          (turn-posts (length (mail h)) turn)))
          (asks_later h (by b (posted (length (mail h)) turn)) (site_after decl b (deeds b [] h)) (good.sites b is))

      sites_by : (a : ℕ) → is_site decl a ≡ true → (t : Bool) → (b == a) ≡ t
          → Asks decl (Born decl (h ++ by b (posted (length (mail h)) turn)))
          (site_after decl a (deeds a [] (h ++ by b (posted (length (mail h)) turn))))
      sites_by a is true same = subst (λ (j : ℕ). Asks decl (Born decl (h ++ by b (posted (length (mail h)) turn)))
          (site_after decl j (deeds j [] (h ++ by b (posted (length (mail h)) turn))))) (eqb-true b a same)
          (own (ap (is_site decl) (eqb-true b a same) ∙ is))
      sites_by a is false other =
          subst (λ (ds : List Deed). Asks decl (Born decl (h ++ by b (posted (length (mail h)) turn)))
          (site_after decl a ds)) (sym (deeds-other b a [] h (posted (length (mail h)) turn) other))
          (asks_later h (by b (posted (length (mail h)) turn)) (site_after decl a (deeds a [] h)) (good.sites a is))

  -- the controller acts
  pub control_good : (h : List Entry) (b : ℕ) (step : Step) → IsControl b step → Good h → Good (h ++ marked b step ∷ [])
  control_good h b step is good = record {
    known = λ a named tx. subst (KnownFrom tx Unborn) (sym (control-deeds a b h step is)) (good.known a named tx);
    mail_is = subst (Every (IsMail (h ++ marked b step ∷ []))) (sym (control-mail b h step is))
        (mail_later h (marked b step ∷ []) (mail h) good.mail_is);
    sites = λ a site. subst (λ (ds : List Deed). Asks decl (Born decl (h ++ marked b step ∷ [])) (site_after decl a ds))
        (sym (control-deeds a b h step is)) (asks_later h (marked b step ∷ []) (site_after decl a (deeds a [] h))
        (good.sites a site));
  }
