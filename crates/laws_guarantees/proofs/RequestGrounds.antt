-- What the running command asks for is of the begun transaction, and has grounds in the deeds; so has a reply.
use Rattle.std.proofs.Common.{[], ◌≡◌, ℕ, ◌==◌, ◌&&◌, true, false, List, ◌∷◌, ◌++◌, inl, inr, Option, Some, None}
use Rattle.std.proofs.Common.{option_map, refl, sym, ap, ◌∙◌, subst, append_assoc}
use Rattle.std.specs.Prelude.{fold}
use Rattle.std.specs.Option.{option_map_or}
use Rattle.std.proofs.lemmas.List.{append-nil}
use Rattle.qc_stamp.specs.Vocabulary.{same_tx}
use Rattle.qc_stamp.specs.declared.stamp.TxId.{TxId}
use Rattle.qc_stamp.proofs.Orders.{same_tx_is}
use Rattle.qc_list.specs.Vocabulary.{In}
use Rattle.qc_list.proofs.Members.{In-first, In-last, In-more}
use Rattle.qc_decl.specs.declared.declaration.Declaration.{Declaration}
use Rattle.qc_msg.specs.declared.begun.LifeAt.{LifeAt}
use Rattle.qc_msg.specs.declared.message.Message.{Message}
use Rattle.qc_msg.specs.declared.message.Message.TheVariants as messages
use Rattle.qc_msg.specs.declared.message.Want.{Want}
use Rattle.qc_msg.specs.declared.reply.Half.{Half}
use Rattle.qc_msg.specs.declared.reply.Half.TheVariants as halves
use Rattle.qc_msg.specs.declared.reply.Reply.{Reply}
use Rattle.qc_msg.specs.declared.step.Command.{Command}
use Rattle.qc_msg.specs.declared.step.Input.TheVariants as inputs
use Rattle.qc_msg.specs.Vocabulary.{Deed, Falls, Rises, Sends, Takes, Tells, Writes, has_granted}
use Rattle.qc_promise.specs.Vocabulary.{Account, ClientRequest, Current, account_at, account_sent, account_told_in}
use Rattle.qc_promise.specs.Vocabulary.{answer_of, command_asks, found_absent, is_asked_for, is_of, new_account}
use Rattle.qc_promise.specs.Vocabulary.{new_current, refused, responded, short_of, with_response, with_absent}
use Rattle.laws_guarantees.proofs.Accounts.{HasGrounds, WasGranted, WasSent, granted_more, same_grounds, sent_more}
use Rattle.laws_guarantees.proofs.Accounts.{taken_more}
use Rattle.laws_guarantees.proofs.TakenGrounds.{take_grounds, written_grounds}
use Rattle.laws_guarantees.proofs.AccountCases.{absent_cases, reply_cases, responded_cases, sent_cases}
use Rattle.qc_list.proofs.Booleans.{and_first}

module _ (decl : Declaration) where
  -- a request

  -- what the running command asks for is of the begun transaction
  pub asked_current : (d : Account) (to : ℕ) (tx : TxId) (epoch life : ℕ) (want : Want)
      → is_asked_for decl d to tx epoch life want ≡ true → (t : Current) × (d.current ≡ Some t) × (t.tx ≡ tx)
  asked_current d to tx epoch life want is = by d.current refl is
    where
      by : (o : Option Current) → d.current ≡ o
          → option_map_or (λ (t : Current). is_of t to tx epoch life && command_asks decl d t to want d.command) o false
          ≡ true → (t : Current) × (d.current ≡ Some t) × (t.tx ≡ tx)
      by None at asked = absurd (let never : ⊥ = cc in never)
      by (Some t) at asked = (
        t,
        at,
        same_tx_is t.tx tx
            (and_first (same_tx t.tx tx) ((epoch == t.epoch) && (life == _))
            (and_first (is_of t to tx epoch life) (command_asks decl d t to want d.command) asked)),
      )

  abbrev more_requests : Account → ℕ → ℕ → ℕ → Want → Account
  more_requests d n to life want =
      record d
      { requests = d.requests ++ record { number = n; site = to; life = life; want = want; taken = None } ∷ [] }

  asked_grounds : (ds : List Deed) (d : Account) (n to : ℕ) (tx : TxId) (epoch life : ℕ) (want : Want)
      → HasGrounds ds d → is_asked_for decl d to tx epoch life want ≡ true
      → HasGrounds (ds ++ Sends n to (messages.Request tx epoch life want) ∷ []) (more_requests d n to life want)
  asked_grounds ds d n to tx epoch life want k is = record {
    sent =
        λ q among. elim (In-more q (record { number = n; site = to; life = life; want = want; taken = None })
        d.requests among) [
          | inl old ↦
              (let s : (t : Current) × (d.current ≡ Some t) × WasSent ds q t.tx = k.sent q old in
              (s.0, s.1, sent_more ds (Sends n to (messages.Request tx epoch life want)) q s.0.tx s.2))
          | inr new ↦ (let c : (t : Current) × (d.current ≡ Some t) × (t.tx ≡ tx) =
              asked_current d to tx epoch life want is in (
                c.0,
                c.1,
                subst
                    (λ (y : ClientRequest). WasSent (ds ++ Sends n to (messages.Request tx epoch life want) ∷ []) y
                    c.0.tx)
                    (sym new)
                    (record {
                      epoch = epoch;
                      is = subst (λ (y : TxId). In (Sends n to (messages.Request y epoch life want))
                          (ds ++ Sends n to (messages.Request tx epoch life want) ∷ [])) (sym c.2)
                          (In-last (Sends n to (messages.Request tx epoch life want)) ds);
                    }),
              ))
        ];
    taken =
        λ q answer among it. elim (In-more q
        (record { number = n; site = to; life = life; want = want; taken = None }) d.requests among) [
          | inl old ↦
              taken_more ds (Sends n to (messages.Request tx epoch life want)) q.number answer (k.taken q answer old it)
          | inr new ↦
              absurd (let none : None ≡ Some (Some answer) = sym (ap (λ (y : ClientRequest). y.taken) new) ∙ it in
              let never : ⊥ = cc in never)
        ];
    granted =
        λ t site it has. granted_more ds (Sends n to (messages.Request tx epoch life want)) t.tx site
        (k.granted t site it has);
    called =
        λ c it. In-first (Takes (inputs.Called c)) ds (Sends n to (messages.Request tx epoch life want) ∷ [])
        (k.called c it);
  }

  sent_grounds : (ds : List Deed) (d : Account) (n to : ℕ) (m : Message) → HasGrounds ds d
      → HasGrounds (ds ++ Sends n to m ∷ []) (account_sent decl d n to m)
  sent_grounds ds d n to m k = sent_cases decl d n to (λ m e. HasGrounds (ds ++ Sends n to m ∷ []) e)
      (λ m. same_grounds ds (Sends n to m) d d refl refl refl k)
      (λ tx epoch life want is. asked_grounds ds d n to tx epoch life want k is) m

  -- a reply

  -- the begun transaction has the lives that it had, or none
  pub record KeepsLives (d e : Account) : Type 0 where
    pub lives : (t : Current) (site : ℕ) → e.current ≡ Some t → has_granted t.lives site ≡ true
        → (old : Current) × (d.current ≡ Some old) × (t.tx ≡ old.tx) × (has_granted old.lives site ≡ true)

  kept : (d e : Account) → e.current ≡ d.current → KeepsLives d e
  kept d e same = record { lives = λ t site is has. (t, sym same ∙ is, refl, has) }

  none_now : (d e : Account) → e.current ≡ None → KeepsLives d e
  none_now d e none =
      record { lives = λ t site is has. absurd (let n : None ≡ Some t = sym none ∙ is in let never : ⊥ = cc in never) }

  kept_by : (d : Account) (change : Current → Current)
      → ((x : Current) → ((change x).tx ≡ x.tx) × ((change x).lives ≡ x.lives))
      → KeepsLives d (record d { current = option_map change d.current })
  kept_by d change keeps = record { lives = λ t site is has. by d.current refl t site is has }
    where
      by : (o : Option Current) → d.current ≡ o → (t : Current) (site : ℕ) → option_map change o ≡ Some t
          → has_granted t.lives site ≡ true
          → (old : Current) × (d.current ≡ Some old) × (t.tx ≡ old.tx) × (has_granted old.lives site ≡ true)
      by None at t site is has = absurd (let never : ⊥ = cc in never)
      by (Some x) at t site is has =
          let same : t ≡ change x = cc in (
            x,
            at,
            ap (λ (y : Current). y.tx) same ∙ (keeps x).0,
            subst (λ (ls : List LifeAt). has_granted ls site ≡ true)
                (ap (λ (y : Current). y.lives) same ∙ (keeps x).1) has,
          )

  response_keeps : (object inv : ℕ) (o : Option ℕ) (x : Current)
      → ((with_response decl x object inv o).tx ≡ x.tx) × ((with_response decl x object inv o).lives ≡ x.lives)
  response_keeps object inv None x = (refl, refl)
  response_keeps object inv (Some event) x = (refl, refl)

  responded_kept : (d : Account) (c : Option Command) → KeepsLives d (responded decl d c)
  responded_kept d c = responded_cases decl d (KeepsLives d) (kept d d refl)
      (λ object inv. kept_by d (λ (t : Current). with_response decl t object inv (answer_of decl t object inv))
      (λ x. response_keeps object inv (answer_of decl x object inv) x)) c

  absent_kept : (d : Account) (c : Option Command) → KeepsLives d (found_absent d c)
  absent_kept d c = absent_cases d (KeepsLives d) (kept d d refl)
      (λ object inv. kept_by d (λ (t : Current). with_absent t object inv) (λ x. (refl, refl))) c

  short_kept : (d : Account) (half : Half) → KeepsLives d (short_of d half)
  short_kept d halves.Read = kept d d refl
  short_kept d halves.Append = kept_by d _ (λ x. (refl, refl))
  short_kept d halves.Close = kept d d refl

  refused_kept : (d : Account) → KeepsLives d (refused d)
  refused_kept d = kept_by d _ (λ x. (refl, refl))

  pub told_kept : (d : Account) (reply : Reply) → KeepsLives d (account_told_in decl d reply)
  told_kept d reply = reply_cases decl d (λ r e. KeepsLives d e) (λ r. kept d d refl)
      (λ tx. record {
        lives = λ t site is has. absurd (let same : t ≡ new_current tx d.known = cc in
            let none : has_granted t.lives site ≡ false = ap (λ (y : Current). has_granted y.lives site) same in
            let never : ⊥ = cc in never);
      }) (λ stamp. none_now d (record d { current = None; clock = stamp.clock }) refl)
      (λ r. none_now d (record d { current = None }) refl) (λ r. refused_kept d) (λ r half. short_kept d half)
      (λ r. absent_kept d d.command) (λ r. responded_kept d d.command) reply

  told_grounds : (ds : List Deed) (d : Account) (reply : Reply) → HasGrounds ds d
      → HasGrounds (ds ++ Tells reply ∷ []) (account_at decl d (Tells reply))
  told_grounds ds d reply k = record {
    sent = λ q never. absurd never;
    taken = λ q answer never is. absurd never;
    granted = λ t site is has. (let o : (old : Current) × (d.current ≡ Some old) × (t.tx ≡ old.tx)
        × (has_granted old.lives site ≡ true) = (told_kept d reply).lives t site is has in
        subst (λ (y : TxId). WasGranted (ds ++ Tells reply ∷ []) y site) (sym o.2)
        (granted_more ds (Tells reply) o.0.tx site (k.granted o.0 site o.1 o.3)));
    called = λ c is. absurd (let never : ⊥ = cc in never);
  }

  one_more : (ds : List Deed) (d : Account) (x : Deed) → HasGrounds ds d
      → HasGrounds (ds ++ x ∷ []) (account_at decl d x)
  one_more ds d (Takes g) k = take_grounds ds d g k
  one_more ds d (Writes w) k = written_grounds ds d w k
  one_more ds d (Sends n to m) k = sent_grounds ds d n to m k
  one_more ds d (Tells reply) k = told_grounds ds d reply k
  one_more ds d (Falls cause pending) k = record {
    sent = λ q never. absurd never;
    taken = λ q answer never is. absurd never;
    granted = λ t site is has. absurd (let never : ⊥ = cc in never);
    called = λ c is. absurd (let never : ⊥ = cc in never);
  }
  one_more ds d (Rises kept) k = record {
    sent = λ q never. absurd never;
    taken = λ q answer never is. absurd never;
    granted = λ t site is has. absurd (let never : ⊥ = cc in never);
    called = λ c is. absurd (let never : ⊥ = cc in never);
  }

  all_more : (ds more : List Deed) (d : Account) → HasGrounds ds d
      → HasGrounds (ds ++ more) (fold (account_at decl) d more)
  all_more ds [] d k = subst (λ (v : List Deed). HasGrounds v d) (sym (append-nil ds)) k
  all_more ds (x ∷ more) d k =
      subst (λ (v : List Deed). HasGrounds v (fold (account_at decl) (account_at decl d x) more))
      (append_assoc ds (x ∷ []) more) (all_more (ds ++ x ∷ []) more (account_at decl d x) (one_more ds d x k))

  pub has_grounds : (client : ℕ) (ds : List Deed) → HasGrounds ds (fold (account_at decl) (new_account client) ds)
  has_grounds client ds = all_more [] ds (new_account client) (record {
    sent = λ q never. absurd never;
    taken = λ q answer never is. absurd never;
    granted = λ t site is has. absurd (let never : ⊥ = cc in never);
    called = λ c is. absurd (let never : ⊥ = cc in never);
  })
