-- What an answer or a loss does to an account keeps its grounds.
use Rattle.std.proofs.Common.{◌≡◌, ℕ, true, List, [], ◌∷◌, ◌++◌, inl, inr, Option, Some, None, option_map, refl, sym}
use Rattle.std.proofs.Common.{ap, ◌∙◌, subst}
use Rattle.std.specs.List.{find}
use Rattle.qc_stamp.specs.declared.stamp.TxId.{TxId}
use Rattle.qc_list.specs.Vocabulary.{In}
use Rattle.qc_list.proofs.Members.{In-first, In-last}
use Rattle.qc_msg.specs.declared.message.Answer.{Answer}
use Rattle.qc_msg.specs.declared.message.Answer.TheVariants as answers
use Rattle.qc_msg.specs.declared.message.Envelope.{Envelope}
use Rattle.qc_msg.specs.declared.message.Message.TheVariants as messages
use Rattle.qc_msg.specs.declared.message.Want.{Want}
use Rattle.qc_msg.specs.declared.message.Want.TheVariants.{Read, Append, Prepare}
use Rattle.qc_msg.specs.declared.payload.Grant.{Grant}
use Rattle.qc_msg.specs.declared.step.Input.TheVariants as inputs
use Rattle.qc_msg.specs.Vocabulary.{Deed, Sends, Takes, has_granted}
use Rattle.qc_promise.specs.Vocabulary.{Account, ClientRequest, Current, counted, counted_for, granted, is_open, lived}
use Rattle.qc_promise.specs.Vocabulary.{promised, taken_for, told_by, with_read}
use Rattle.laws_guarantees.proofs.Accounts.{HasGrounds, IsGrant, IsSameBut, WasGranted, WasSent, WasTaken, after_taken}
use Rattle.laws_guarantees.proofs.Accounts.{found_in, granted_more, open_number, promised_requests, same_grounds}
use Rattle.laws_guarantees.proofs.Accounts.{sent_more, taken_more, told_current, told_requests}
use Rattle.laws_guarantees.proofs.AccountCases.{told_cases}

-- the deed that takes it
abbrev pub IsTakeOf : Deed → ℕ → Option Answer → Type 0
IsTakeOf x number answer = (a : Answer) → answer ≡ Some a
    → (e : Envelope) × (x ≡ Takes (inputs.Got e)) × (e.message ≡ messages.Answer number a)

pub counted_grounds : (ds : List Deed) (x : Deed) (d : Account) (number : ℕ) (answer : Option Answer)
    → IsTakeOf x number answer → HasGrounds ds d → HasGrounds (ds ++ x ∷ []) (counted d number answer)
counted_grounds ds x d number answer takes k = by (find (is_open number) d.requests) refl
  where
    now_taken : (a : Answer) → answer ≡ Some a → WasTaken (ds ++ x ∷ []) number a
    now_taken a is = let t : (e : Envelope) × (x ≡ Takes (inputs.Got e))
        × (e.message ≡ messages.Answer number a) = takes a is in
        record { envelope = t.0; taken = subst (λ (y : Deed). In y (ds ++ x ∷ [])) t.1 (In-last x ds); is = t.2 }

    by : (o : Option ClientRequest) → find (is_open number) d.requests ≡ o
        → HasGrounds (ds ++ x ∷ []) (counted_for d number answer o)
    by None is = same_grounds ds x d d refl refl refl k
    by (Some p) found = record {
      sent = sent;
      taken = taken;
      granted = granted_now;
      called = λ c is. In-first (Takes (inputs.Called c)) ds (x ∷ [])
          (k.called c (sym (told_requests d_taken p answer).1 ∙ is));
    }
      where
        d_taken : Account
        d_taken = record d { requests = taken_for number answer d.requests }

        -- the same of an old request
        old_sent : (q : ClientRequest) → In q d.requests
            → (t : Current) × ((told_by (record d { requests = taken_for number answer d.requests }) p answer).current
            ≡ Some t) × WasSent (ds ++ x ∷ []) q t.tx
        old_sent q among =
            let s : (t : Current) × (d.current ≡ Some t) × WasSent ds q t.tx = k.sent q among in
            at (told_by (record d { requests = taken_for number answer d.requests }) p answer).current refl s.0 s.1 s.2
          where
            some_now : (o : Option Current) (t : Current) → d.current ≡ Some t
                → (told_by (record d { requests = taken_for number answer d.requests }) p answer).current ≡ o → o ≡ None
                → ⊥
            some_now o t was is none = never_none (record d { requests = taken_for number answer d.requests }) p answer
                t was (is ∙ none)
              where
                mapped : (o : Option Current) (change : Current → Current) (t : Current) → o ≡ Some t
                    → option_map change o ≡ None → ⊥
                mapped None change t was is = let never : ⊥ = cc in never
                mapped (Some y) change t was is = let never : ⊥ = cc in never

                by_want : (d : Account) (site : ℕ) (g : Grant) (w : Want) (t : Current)
                    → d.current ≡ Some t → (granted d site g w).current ≡ None → ⊥
                by_want d site g (Read read) t was is =
                    mapped d.current (λ (y : Current). with_read (lived y site g.life) read.object g.log) t was is
                by_want d site g (Append object view own) t was is =
                    mapped d.current (λ (y : Current). lived y site g.life) t was is
                by_want d site g Prepare t was is = let never : ⊥ = cc in never

                never_none : (d : Account) (p : ClientRequest) (answer : Option Answer) (t : Current)
                    → d.current ≡ Some t → (told_by d p answer).current ≡ None → ⊥
                never_none d p answer t was is = told_cases d p (λ a e. e.current ≡ None → ⊥)
                    (λ a none. let never : ⊥ = cc in never)
                    (λ g none. by_want d p.site g p.want t was none)
                    (λ epoch none. let never : ⊥ = cc in never)
                    (λ clock none.
                    let same : (promised d clock p.want).current ≡ d.current = (promised_requests d clock p.want).2 in
                    let never : ⊥ = cc in never) answer is

            at : (o : Option Current) → (told_by (record d { requests = taken_for number answer d.requests }) p
                answer).current ≡ o → (t : Current) → d.current ≡ Some t → WasSent ds q t.tx
                → (u : Current) × ((told_by (record d { requests = taken_for number answer d.requests }) p
                answer).current ≡ Some u) × WasSent (ds ++ x ∷ []) q u.tx
            at None is t was s = absurd (some_now None t was is refl)
            at (Some u) is t was s =
                let b : IsSameBut d.current p.site answer u =
                told_current (record d { requests = taken_for number answer d.requests }) p answer u is in
                let same : b.old ≡ t = (let e : Some b.old ≡ Some t = sym b.was ∙ was in cc) in
                (u, is, sent_more ds x q u.tx (subst (WasSent ds q) (sym (b.tx ∙ ap (λ (y : Current). y.tx) same)) s))

        sent : (q : ClientRequest) → In q (told_by
            (record d { requests = taken_for number answer d.requests }) p answer).requests
            → (t : Current) × ((told_by (record d { requests = taken_for number answer d.requests }) p answer).current
            ≡ Some t) × WasSent (ds ++ x ∷ []) q t.tx
        sent q among = elim (after_taken number answer q d.requests
            (subst (In q) (told_requests (record d { requests = taken_for number answer d.requests }) p answer).0
            among)) [
              | inl old ↦ old_sent q old
              | inr now ↦ (let s : (t : Current) × ((told_by
                  (record d { requests = taken_for number answer d.requests }) p answer).current ≡ Some t)
                  × WasSent (ds ++ x ∷ []) now.old t.tx = old_sent now.old now.among in (
                    s.0,
                    s.1,
                    subst (λ (y : ClientRequest). WasSent (ds ++ x ∷ []) y s.0.tx) (sym now.is)
                        (record { epoch = s.2.epoch; is = s.2.is }),
                  ))
            ]

        taken : (q : ClientRequest) (a : Answer)
            → In q (told_by (record d { requests = taken_for number answer d.requests }) p answer).requests
            → q.taken ≡ Some (Some a) → WasTaken (ds ++ x ∷ []) q.number a
        taken q a among is = elim (after_taken number answer q d.requests
            (subst (In q) (told_requests (record d { requests = taken_for number answer d.requests }) p answer).0
            among)) [
              | inl old ↦ taken_more ds x q.number a (k.taken q a old is)
              | inr now ↦ (let e : Some answer ≡ Some (Some a) =
                  sym (ap (λ (y : ClientRequest). y.taken) now.is) ∙ is in
                  let it : answer ≡ Some a = cc in
                  subst (λ (n : ℕ). WasTaken (ds ++ x ∷ []) n a)
                  (sym (ap (λ (y : ClientRequest). y.number) now.is ∙ open_number number now.old now.open_still))
                  (now_taken a it))
            ]

        granted_now : (t : Current) (site : ℕ) →
            (told_by (record d { requests = taken_for number answer d.requests }) p answer).current ≡ Some t
            → has_granted t.lives site ≡ true → WasGranted (ds ++ x ∷ []) t.tx site
        granted_now t site is has =
            let b : IsSameBut d.current p.site answer t =
            told_current (record d { requests = taken_for number answer d.requests }) p answer t is in
            subst (λ (y : TxId). WasGranted (ds ++ x ∷ []) y site) (sym b.tx) (elim (b.lives site has) [
              | inl old ↦ granted_more ds x b.old.tx site (k.granted b.old site b.was old)
              | inr new ↦ (
                  let f : In p d.requests × (is_open number p ≡ true) = found_in number p d.requests found in
                  let s : (u : Current) × (d.current ≡ Some u) × WasSent ds p u.tx = k.sent p f.0 in
                  let same : s.0 ≡ b.old = (let e : Some s.0 ≡ Some b.old = sym s.1 ∙ b.was in cc) in
                  let w : WasSent ds p b.old.tx = subst (λ (y : Current). WasSent ds p y.tx) same s.2 in
                  let g : IsGrant answer = new.1 in
                  record {
                    number = number;
                    epoch = w.epoch;
                    named = p.life;
                    want = p.want;
                    asked = In-first (Sends number site (messages.Request b.old.tx w.epoch p.life p.want)) ds (x ∷ [])
                        (subst (λ (n : ℕ). In (Sends n site (messages.Request b.old.tx w.epoch p.life p.want)) ds)
                        (open_number number p f.1) (subst (λ (n : ℕ). In
                        (Sends p.number n (messages.Request b.old.tx w.epoch p.life p.want)) ds) new.0 w.is));
                    grant = g.grant;
                    taken = now_taken (answers.Granted g.grant) g.is;
                  })
            ])
