-- What stands behind an account: its requests were sent for its transaction, what counts was taken, each life is of a
-- site that granted, and the running command was called.
use Rattle.std.proofs.Common.{◌≡◌, ◌⊎◌, ℕ, ◌==◌, ◌||◌, Bool, true, false, cond, List, [], ◌∷◌, ◌++◌, inl, inr, Option}
use Rattle.std.proofs.Common.{Some, None, option_map, refl, sym, ap, ◌∙◌, subst, eqb-true}
use Rattle.std.specs.Prelude.{is_none}
use Rattle.std.specs.List.{find}
use Rattle.std.proofs.lemmas.List.Folds.{list_any-append}
use Rattle.qc_stamp.specs.declared.stamp.TxId.{TxId}
use Rattle.qc_list.specs.Vocabulary.{In}
use Rattle.qc_list.proofs.Members.{In-first}
use Rattle.qc_msg.specs.declared.begun.LifeAt.{LifeAt}
use Rattle.qc_msg.specs.declared.message.Answer.{Answer}
use Rattle.qc_msg.specs.declared.message.Answer.TheVariants as answers
use Rattle.qc_msg.specs.declared.message.Envelope.{Envelope}
use Rattle.qc_msg.specs.declared.message.Message.TheVariants as messages
use Rattle.qc_msg.specs.declared.message.Want.{Want}
use Rattle.qc_msg.specs.declared.message.Want.TheVariants.{Read, Append, Prepare}
use Rattle.qc_msg.specs.declared.payload.Grant.{Grant}
use Rattle.qc_msg.specs.declared.step.Command.{Command}
use Rattle.qc_msg.specs.declared.step.Input.TheVariants as inputs
use Rattle.qc_msg.specs.Vocabulary.{Deed, Sends, Takes, has_granted, with_life}
use Rattle.qc_promise.specs.Vocabulary.{Account, ClientRequest, Current, granted, is_open, lived, promised, taken_for}
use Rattle.qc_promise.specs.Vocabulary.{told_by, with_read}
use Rattle.laws_guarantees.proofs.AccountCases.{told_cases}
use Rattle.qc_list.proofs.Booleans.{and_first, and_second}

-- the request was sent for this transaction
pub record WasSent (ds : List Deed) (q : ClientRequest) (tx : TxId) : Type 0 where
  pub epoch : ℕ
  pub is : In (Sends q.number q.site (messages.Request tx epoch q.life q.want)) ds

-- this answer to the request of this number was taken
pub record WasTaken (ds : List Deed) (number : ℕ) (answer : Answer) : Type 0 where
  pub envelope : Envelope
  pub taken : In (Takes (inputs.Got envelope)) ds
  pub is : envelope.message ≡ messages.Answer number answer

-- something was asked of the site for this transaction, and its grant was taken
pub record WasGranted (ds : List Deed) (tx : TxId) (site : ℕ) : Type 0 where
  pub number : ℕ
  pub epoch : ℕ
  pub named : ℕ
  pub want : Want
  pub asked : In (Sends number site (messages.Request tx epoch named want)) ds
  pub grant : Grant
  pub taken : WasTaken ds number (answers.Granted grant)

pub record HasGrounds (ds : List Deed) (d : Account) : Type 0 where
  pub sent : (q : ClientRequest) → In q d.requests → (t : Current) × (d.current ≡ Some t) × WasSent ds q t.tx
  pub taken : (q : ClientRequest) (answer : Answer) → In q d.requests → q.taken ≡ Some (Some answer)
      → WasTaken ds q.number answer
  pub granted : (t : Current) (site : ℕ) → d.current ≡ Some t → has_granted t.lives site ≡ true
      → WasGranted ds t.tx site
  pub called : (command : Command) → d.command ≡ Some command → In (Takes (inputs.Called command)) ds

-- more deeds

pub sent_more : (ds : List Deed) (x : Deed) (q : ClientRequest) (tx : TxId) → WasSent ds q tx
    → WasSent (ds ++ x ∷ []) q tx
sent_more ds x q tx s = record {
  epoch = s.epoch;
  is = In-first (Sends q.number q.site (messages.Request tx s.epoch q.life q.want)) ds (x ∷ []) s.is;
}

pub taken_more : (ds : List Deed) (x : Deed) (number : ℕ) (answer : Answer) → WasTaken ds number answer
    → WasTaken (ds ++ x ∷ []) number answer
taken_more ds x number answer t = record
    { envelope = t.envelope; taken = In-first (Takes (inputs.Got t.envelope)) ds (x ∷ []) t.taken; is = t.is }

pub granted_more : (ds : List Deed) (x : Deed) (tx : TxId) (site : ℕ) → WasGranted ds tx site
    → WasGranted (ds ++ x ∷ []) tx site
granted_more ds x tx site g = record {
  number = g.number;
  epoch = g.epoch;
  named = g.named;
  want = g.want;
  asked = In-first (Sends g.number site (messages.Request tx g.epoch g.named g.want)) ds (x ∷ []) g.asked;
  grant = g.grant;
  taken = taken_more ds x g.number (answers.Granted g.grant) g.taken;
}

-- the same account
pub same_grounds : (ds : List Deed) (x : Deed) (d e : Account) → e.requests ≡ d.requests → e.current ≡ d.current
    → e.command ≡ d.command → HasGrounds ds d → HasGrounds (ds ++ x ∷ []) e
same_grounds ds x d e requests current command k = record {
  sent = λ q among. (let s : (t : Current) × (d.current ≡ Some t)
      × WasSent ds q t.tx = k.sent q (subst (In q) requests among) in
      (s.0, current ∙ s.1, sent_more ds x q s.0.tx s.2));
  taken = λ q answer among is. taken_more ds x q.number answer (k.taken q answer (subst (In q) requests among) is);
  granted = λ t site is has. granted_more ds x t.tx site (k.granted t site (sym current ∙ is) has);
  called = λ c is. In-first (Takes (inputs.Called c)) ds (x ∷ []) (k.called c (sym command ∙ is));
}

-- something is taken for a request

-- it was there, or is one that was open, and this was taken for it
pub record IsTakenNow (qs : List ClientRequest) (number : ℕ) (answer : Option Answer) (q : ClientRequest) : Type 0 where
  pub old : ClientRequest
  pub among : In old qs
  pub open_still : is_open number old ≡ true
  pub is : q ≡ record old { taken = Some answer }

pub after_taken : (number : ℕ) (answer : Option Answer) (q : ClientRequest) (qs : List ClientRequest)
    → In q (taken_for number answer qs) → In q qs ⊎ IsTakenNow qs number answer q
after_taken number answer q [] among = absurd among
after_taken number answer q (p ∷ qs) among = by (is_open number p) refl among (after_taken number answer q qs)
  where
    later : In q qs ⊎ IsTakenNow qs number answer q → In q (p ∷ qs) ⊎ IsTakenNow (p ∷ qs) number answer q
    later (inl old) = inl (inr old)
    later (inr now) = inr (record { old = now.old; among = inr now.among; open_still = now.open_still; is = now.is })

    by : (o : Bool) → is_open number p ≡ o → (q ≡ cond o (record p { taken = Some answer }) p)
        ⊎ In q (taken_for number answer qs) → (In q (taken_for number answer qs)
        → In q qs ⊎ IsTakenNow qs number answer q)
        → In q (p ∷ qs) ⊎ IsTakenNow (p ∷ qs) number answer q
    by true at (inl same) more = inr (record { old = p; among = inl refl; open_still = at; is = same })
    by false at (inl same) more = inl (inl same)
    by o at (inr there) more = later (more there)

granted_requests : (d : Account) (site : ℕ) (g : Grant) (w : Want)
    → ((granted d site g w).requests ≡ d.requests) × ((granted d site g w).command ≡ d.command)
granted_requests d site g (Read read) = (refl, refl)
granted_requests d site g (Append object view own) = (refl, refl)
granted_requests d site g Prepare = (refl, refl)

pub promised_requests : (d : Account) (clock : ℕ) (w : Want)
    → ((promised d clock w).requests ≡ d.requests) × ((promised d clock w).command ≡ d.command)
    × ((promised d clock w).current ≡ d.current)
promised_requests d clock (Read read) = (refl, refl, refl)
promised_requests d clock (Append object view own) = (refl, refl, refl)
promised_requests d clock Prepare = (refl, refl, refl)

pub told_requests : (d : Account) (p : ClientRequest) (answer : Option Answer)
    → ((told_by d p answer).requests ≡ d.requests) × ((told_by d p answer).command ≡ d.command)
told_requests d p answer = told_cases d p (λ a e. (e.requests ≡ d.requests) × (e.command ≡ d.command))
    (λ a. (refl, refl)) (λ g. granted_requests d p.site g p.want) (λ epoch. (refl, refl))
    (λ clock.
    let r : ((promised d clock p.want).requests ≡ d.requests) × ((promised d clock p.want).command ≡ d.command)
    × ((promised d clock p.want).current ≡ d.current) = promised_requests d clock p.want in (r.0, r.1)) answer

-- the answer grants
pub record IsGrant (answer : Option Answer) : Type 0 where
  pub grant : Grant
  pub is : answer ≡ Some (answers.Granted grant)

-- the transaction is the same, and its lives too, but for the site of a request that is granted
pub record IsSameBut (o : Option Current) (site : ℕ) (answer : Option Answer) (t : Current) : Type 0 where
  pub old : Current
  pub was : o ≡ Some old
  pub tx : t.tx ≡ old.tx
  pub lives : (s : ℕ) → has_granted t.lives s ≡ true → (has_granted old.lives s ≡ true) ⊎ ((site ≡ s) × IsGrant answer)

same_but : (o : Option Current) (site : ℕ) (answer : Option Answer) (t : Current) → o ≡ Some t
    → IsSameBut o site answer t
same_but o site answer t is = record { old = t; was = is; tx = refl; lives = λ s has. inl has }

one_life : (lives : List LifeAt) (site life s : ℕ) → has_granted (with_life lives site life) s ≡ true
    → (has_granted lives s ≡ true) ⊎ (site ≡ s)
one_life lives site life s has = by (has_granted lives site) has
  where
    either : (x y : Bool) → (x || y) ≡ true → (x ≡ true) ⊎ (y ≡ true)
    either true y is = inl refl
    either false y is = inr is

    last : (x : Bool) → (site == s) ≡ x → (x || false) ≡ true → site ≡ s
    last true same is = eqb-true site s same
    last false same is = absurd (let never : ⊥ = cc in never)

    by : (b : Bool) → has_granted (cond b lives (lives ++ record { site = site; life = life } ∷ [])) s ≡ true
        → (has_granted lives s ≡ true) ⊎ (site ≡ s)
    by true is = inl is
    by false is = elim (either (has_granted lives s) (has_granted (record { site = site; life = life } ∷ []) s)
        (sym (list_any-append (λ (l : LifeAt). l.site == s) lives (record { site = site; life = life } ∷ [])) ∙ is)) [
          | inl old ↦ inl old
          | inr new ↦ inr (last (site == s) refl new)
        ]

changed : (o : Option Current) (site : ℕ) (g : Grant) (change : Current → Current)
    → ((x : Current) → ((change x).tx ≡ x.tx) × ((change x).lives ≡ with_life x.lives site g.life)) → (t : Current)
    → option_map change o ≡ Some t → IsSameBut o site (Some (answers.Granted g)) t
changed None site g change keeps t is = absurd (let never : ⊥ = cc in never)
changed (Some x) site g change keeps t is =
    let same : t ≡ change x = cc in
    record {
      old = x;
      was = refl;
      tx = ap (λ (y : Current). y.tx) same ∙ (keeps x).0;
      lives = λ s has. elim (one_life x.lives site g.life s
          (subst (λ (ls : List LifeAt). has_granted ls s ≡ true)
          (ap (λ (y : Current). y.lives) same ∙ (keeps x).1) has)) [
            | inl old ↦ inl old
            | inr here ↦ inr (here, record { grant = g; is = refl })
          ];
    }

pub told_current : (d : Account) (p : ClientRequest) (answer : Option Answer) (t : Current)
    → (told_by d p answer).current ≡ Some t → IsSameBut d.current p.site answer t
told_current d p answer t is = told_cases d p (λ a e. e.current ≡ Some t → IsSameBut d.current p.site a t)
    (λ a is. same_but d.current p.site a t is) (λ g is. by g p.want is)
    (λ epoch is. same_but d.current p.site (Some (answers.Closed epoch)) t is)
    (λ clock is. same_but d.current p.site (Some (answers.Yes clock)) t
    (sym (promised_requests d clock p.want).2 ∙ is)) answer is
  where
    by : (g : Grant) (w : Want) → (granted d p.site g w).current ≡ Some t
        → IsSameBut d.current p.site (Some (answers.Granted g)) t
    by g (Read read) is = changed d.current p.site g
        (λ (x : Current). with_read (lived x p.site g.life) read.object g.log) (λ x. (refl, refl)) t is
    by g (Append object view own) is = changed d.current p.site g
        (λ (x : Current). lived x p.site g.life) (λ x. (refl, refl)) t is
    by g Prepare is = same_but d.current p.site (Some (answers.Granted g)) t is

-- a request that is open has the number, and nothing was taken for it

pub open_number : (number : ℕ) (q : ClientRequest) → is_open number q ≡ true → q.number ≡ number
open_number number q is = eqb-true q.number number (and_first (q.number == number) (is_none q.taken) is)

pub open_untaken : (number : ℕ) (q : ClientRequest) → is_open number q ≡ true → q.taken ≡ None
open_untaken number q is = by q.taken (and_second (q.number == number) (is_none q.taken) is)
  where
    by : (o : Option (Option Answer)) → is_none o ≡ true → o ≡ None
    by None is = refl
    by (Some x) is = absurd (let never : ⊥ = cc in never)

pub found_in : (number : ℕ) (q : ClientRequest) (qs : List ClientRequest) → find (is_open number) qs ≡ Some q
    → In q qs × (is_open number q ≡ true)
found_in number q [] is = absurd (let never : ⊥ = cc in never)
found_in number q (p ∷ qs) is = by (is_open number p) refl is (found_in number q qs)
  where
    by : (o : Bool) → is_open number p ≡ o → cond o (Some p) (find (is_open number) qs) ≡ Some q
        → (find (is_open number) qs ≡ Some q → In q qs × (is_open number q ≡ true))
        → In q (p ∷ qs) × (is_open number q ≡ true)
    by true at e more = let same : q ≡ p = cc in
        (inl same, subst (λ (x : ClientRequest). is_open number x ≡ true) (sym same) at)
    by false at e more = (inr (more e).0, (more e).1)
