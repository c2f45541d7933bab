-- A client begins a transaction, gives it up, and tells how one stands.
use Rattle.std.proofs.Common.{[], ◌≡◌, ◌≢◌, ℕ, ◌+◌, Bool, true, false, inl, inr, List, ◌∷◌, ◌++◌, Option, Some, None}
use Rattle.std.proofs.Common.{refl, sym, ap, ◌∙◌, subst, arith}
use Rattle.std.proofs.lemmas.List.{append-nil}
use Rattle.qc_stamp.specs.Vocabulary.{same_tx}
use Rattle.qc_stamp.specs.declared.stamp.Stamp.{Stamp}
use Rattle.qc_stamp.specs.declared.stamp.TxId.{TxId}
use Rattle.qc_stamp.proofs.Orders.{same_tx_is}
use Rattle.qc_list.specs.Vocabulary.{In}
use Rattle.qc_entry.specs.declared.record.Commit.{Commit as CommitRecord}
use Rattle.qc_decl.specs.declared.declaration.Declaration.{Declaration}
use Rattle.qc_decl.specs.Vocabulary.{client_actor, is_client}
use Rattle.qc_msg.specs.declared.message.Envelope.{Envelope}
use Rattle.qc_msg.specs.declared.message.Answer.TheVariants.{Answered}
use Rattle.qc_msg.specs.declared.message.Message.{Message}
use Rattle.qc_msg.specs.declared.message.Message.TheVariants as messages
use Rattle.qc_msg.specs.declared.message.Outcome.TheVariants as outcomes
use Rattle.qc_msg.specs.declared.turn.Posting.{Posting}
use Rattle.qc_msg.specs.Vocabulary.{sending}
use Rattle.theory_machine.specs.Vocabulary.{Aborted, Act, Announce, Committed, IsRun, NotBegun, Status, state}
use Rattle.theory_machine.specs.Vocabulary.{verdict_of}
use Rattle.qc_commit.specs.Vocabulary.{known_by, record_of}
use Rattle.qc_client.specs.Vocabulary.{is_begun, moved, outcome_by, outcome_of}
use Rattle.laws_refinement.specs.Vocabulary.{Backed, ClientMirrors, IsMessage, Mirrors, Net, OwnMirrors, Refines}
use Rattle.laws_refinement.specs.Vocabulary.{after_client}
use Rattle.laws_refinement.proofs.ClientEnding.{mid_announce}
use Rattle.laws_refinement.proofs.RequestsSent.{IsAsking}
use Rattle.laws_refinement.proofs.ClientSteps.{mid_first, refined, turns}
use Rattle.laws_refinement.proofs.Frames.{keep_client}
use Rattle.laws_refinement.proofs.ClientGivesUp.{find_in}

module _ (decl : Declaration) (acts : List Act) (net : Net) (a : ℕ) (run : IsRun decl acts)
    (m : Mirrors decl (state acts) net) (client : is_client decl a ≡ true) (up : net.up a ≡ true) where
  -- an Inquiry: a final status is told, else that it is active

  tells : (from : ℕ) (tx : TxId) (message : Message) → Backed decl (state (Announce tx ∷ acts)) net.mail a from message
      → IsAsking decl (net.clients a) from message
      → Refines decl
      (after_client net a (moved (net.clients a) (sending (record { to = from; message = message } ∷ []))))
  tells from tx message backed asks =
      refined decl (state acts) net a (moved (net.clients a) (sending (record { to = from; message = message } ∷ []))) m
      client up
      (turns decl (state acts) net a (moved (net.clients a) (sending (record { to = from; message = message } ∷ [])))
      (Announce tx ∷ acts)
      (mid_announce decl (state acts) acts (net.clients a).front.client
      (mid_first decl acts (net.clients a).front.client run) tx) refl
      (subst (λ (ms : List Envelope). ClientMirrors decl (state (Announce tx ∷ acts)) ms a (net.clients a))
      (append-nil net.mail)
      (keep_client decl (state acts) (state (Announce tx ∷ acts)) (net.clients a).front.client
      (record {
        status = λ t h. refl;
        epoch = λ t h. refl;
        executed = λ t h. refl;
        chosen = λ t h. refl;
        clock = refl;
        counted = λ g its h. h;
        more = λ g h. h;
        votes = λ x h. h;
        appends = λ s h. h;
      }) net.mail [] a (net.clients a) refl (m.clients a client up)))
      turn asking)
    where
      turn : (p : Posting) → In p (record { to = from; message = message } ∷ [])
          → Backed decl (state (Announce tx ∷ acts)) net.mail a p.to p.message
      turn p (inl same) =
          subst (λ (x : Posting). Backed decl (state (Announce tx ∷ acts)) net.mail a x.to x.message) (sym same) backed
      turn p (inr never) = absurd never

      asking : (p : Posting) → In p (record { to = from; message = message } ∷ [])
          → IsAsking decl (net.clients a) p.to p.message
      asking p (inl same) = subst (λ (x : Posting). IsAsking decl (net.clients a) x.to x.message) (sym same) asks
      asking p (inr never) = absurd never

  pub inquiry_case : (from : ℕ) (tx : TxId) → a ≡ client_actor decl tx.client → (state acts).status tx ≢ NotBegun
      → Refines decl
      (after_client net a
      (moved (net.clients a)
      (sending (record { to = from; message = messages.Decision tx (outcome_of (net.clients a) tx) } ∷ []))))
  inquiry_case from tx to born =
      by (record_of (net.clients a).desk.commits tx) (is_begun tx (net.clients a).front.transaction) refl refl
    where
      own : OwnMirrors decl (state acts) a (net.clients a) (net.clients a).front.transaction
      own = (m.clients a client up).own

      mine : tx.client ≡ (net.clients a).front.client
      mine =
          (let e : client_actor decl tx.client ≡ client_actor decl (net.clients a).front.client =
          sym to ∙ (m.clients a client up).own.actor in
          let k : decl.sites + tx.client ≡ decl.sites + (net.clients a).front.client = e in omega arith)

      told : (s : Status) (outcome : Option Stamp) → (state acts).status tx ≡ s
          → In (record { tx = tx; stamp = outcome }) (verdict_of tx s ++ (state acts).verdicts)
          → In (record { tx = tx; stamp = outcome }) (verdict_of tx ((state acts).status tx) ++ (state acts).verdicts)
      told s outcome is h =
          subst (λ (x : Status). In (record { tx = tx; stamp = outcome }) (verdict_of tx x ++ (state acts).verdicts))
          (sym is) h

      by : (r : Option CommitRecord) (active : Bool) → record_of (net.clients a).desk.commits tx ≡ r
          → is_begun tx (net.clients a).front.transaction ≡ active
          → Refines decl
          (after_client net a
          (moved (net.clients a)
          (sending (record { to = from; message = messages.Decision tx (outcome_by (known_by r) active) } ∷ []))))
      by (Some r) active found is =
          let k : In r (net.clients a).desk.commits × (same_tx r.tx tx ≡ true) =
          find_in (λ (x : CommitRecord). same_tx x.tx tx) (net.clients a).desk.commits r found in
          let same : r.tx ≡ tx = same_tx_is r.tx tx k.1 in
          tells from tx (messages.Decision tx (outcomes.Committed r.stamp))
          (told (Committed r) (Some r.stamp) (ap (state acts).status (sym same) ∙ (own.committed r k.0).1)
          (inl refl)) tt
      by None true found is = tells from tx (messages.Decision tx outcomes.Active) tt tt
      by None false found is =
          tells from tx (messages.Decision tx outcomes.Aborted)
          (told Aborted None (own.aborted tx mine born is found) (inl refl)) tt

  -- an Ask is answered alike
  pub ask_case : (from number : ℕ) (tx : TxId) → IsMessage net.mail number a (messages.Ask tx)
      → a ≡ client_actor decl tx.client → (state acts).status tx ≢ NotBegun
      → Refines decl
      (after_client net a
      (moved (net.clients a)
      (sending (record {
        to = from;
        message = messages.Answer number (Answered (outcome_of (net.clients a) tx));
      } ∷ []))))
  ask_case from number tx asked to born =
      by (record_of (net.clients a).desk.commits tx) (is_begun tx (net.clients a).front.transaction) refl refl
    where
      own : OwnMirrors decl (state acts) a (net.clients a) (net.clients a).front.transaction
      own = (m.clients a client up).own

      mine : tx.client ≡ (net.clients a).front.client
      mine =
          (let e : client_actor decl tx.client ≡ client_actor decl (net.clients a).front.client =
          sym to ∙ (m.clients a client up).own.actor in
          let k : decl.sites + tx.client ≡ decl.sites + (net.clients a).front.client = e in omega arith)

      told : (s : Status) (outcome : Option Stamp) → (state acts).status tx ≡ s
          → In (record { tx = tx; stamp = outcome }) (verdict_of tx s ++ (state acts).verdicts)
          → In (record { tx = tx; stamp = outcome }) (verdict_of tx ((state acts).status tx) ++ (state acts).verdicts)
      told s outcome is h =
          subst (λ (x : Status). In (record { tx = tx; stamp = outcome }) (verdict_of tx x ++ (state acts).verdicts))
          (sym is) h

      by : (r : Option CommitRecord) (active : Bool) → record_of (net.clients a).desk.commits tx ≡ r
          → is_begun tx (net.clients a).front.transaction ≡ active
          → Refines decl
          (after_client net a
          (moved (net.clients a)
          (sending (record {
            to = from;
            message = messages.Answer number (Answered (outcome_by (known_by r) active));
          } ∷ []))))
      by (Some r) active found is =
          let k : In r (net.clients a).desk.commits × (same_tx r.tx tx ≡ true) =
          find_in (λ (x : CommitRecord). same_tx x.tx tx) (net.clients a).desk.commits r found in
          let same : r.tx ≡ tx = same_tx_is r.tx tx k.1 in
          tells from tx (messages.Answer number (Answered (outcomes.Committed r.stamp)))
          (record {
            tx = tx;
            asked = asked;
            backed = told (Committed r) (Some r.stamp)
                (ap (state acts).status (sym same) ∙ (own.committed r k.0).1) (inl refl);
          }) tt
      by None true found is =
          tells from tx (messages.Answer number (Answered outcomes.Active))
          (record { tx = tx; asked = asked; backed = tt }) tt
      by None false found is =
          tells from tx (messages.Answer number (Answered outcomes.Aborted))
          (record { tx = tx; asked = asked; backed = told Aborted None (own.aborted tx mine born is found) (inl refl) })
          tt
