-- What is taken and counts keeps what stands behind the lives of a begun transaction.
use Rattle.std.proofs.Common.{[], ◌≡◌, ℕ, ◌==◌, Bool, true, false, List, ◌∷◌, ◌++◌, inl, inr, Option, Some, None}
use Rattle.std.proofs.Common.{refl, sym, ap, ◌∙◌, subst, eqb-true}
use Rattle.std.specs.Prelude.{is_none}
use Rattle.std.specs.List.{find}
use Rattle.qc_stamp.specs.declared.stamp.TxId.{TxId}
use Rattle.qc_list.specs.Vocabulary.{In}
use Rattle.qc_list.proofs.Members.{In-last}
use Rattle.qc_msg.specs.declared.begun.LifeAt.{LifeAt}
use Rattle.qc_msg.specs.declared.message.Answer.{Answer}
use Rattle.qc_msg.specs.declared.message.Message.{Message}
use Rattle.qc_msg.specs.declared.message.Message.TheVariants as messages
use Rattle.qc_msg.specs.declared.message.Want.{Want}
use Rattle.qc_msg.specs.declared.step.Input.{Input}
use Rattle.qc_msg.specs.declared.step.Input.TheVariants as inputs
use Rattle.qc_msg.specs.Vocabulary.{Deed, Takes, has_granted, life_of}
use Rattle.qc_promise.specs.Vocabulary.{Account, ClientRequest, Current, account_heard, account_taken, counted}
use Rattle.qc_promise.specs.Vocabulary.{counted_for, is_open, taken_for, told_by}
use Rattle.qc_msg.specs.declared.message.Answer.TheVariants as answers
use Rattle.qc_msg.specs.declared.message.Envelope.{Envelope}
use Rattle.qc_msg.specs.declared.message.Want.TheVariants.{Prepare}
use Rattle.qc_msg.specs.declared.payload.Grant.{Grant}
use Rattle.laws_guarantees.proofs.Accounts.{HasGrounds, WasSent, WasTaken, after_taken, found_in, sent_more}
use Rattle.laws_guarantees.proofs.Accounts.{told_requests}
use Rattle.laws_guarantees.proofs.SiteMoves.{IsFull}
use Rattle.laws_guarantees.proofs.FirstGrants.{life_added}
use Rattle.laws_votes.proofs.LivesAdded.{IsToldLife, HasParticipant, HasLifeGrounds, told_more, same_now, same_grounds}
use Rattle.laws_votes.proofs.LivesAdded.{bare_grounds, not_yet, HasOneMore}
use Rattle.laws_votes.proofs.LivesTold.{IsChangedBy, told_changed, told_forward}
use Rattle.qc_list.proofs.Booleans.{and_first}

-- something is taken, and counts

module _ (ds : List Deed) (x : Deed) (d : Account) (n : ℕ) (answer : Option Answer) (grounds : HasGrounds ds d)
    (k : HasLifeGrounds ds d)
    (taken_now : (a : Answer) → answer ≡ Some a
    → (e : Envelope) × (x ≡ Takes (inputs.Got e)) × (e.message ≡ messages.Answer n a)) where
  now_full : (q : ClientRequest) → In q (taken_for n answer d.requests) → IsFull q.want
  now_full q among = elim (after_taken n answer q d.requests among) [
    | inl old ↦ k.full q old
    | inr now ↦
        subst (λ (w : Want). IsFull w) (sym (ap (λ (y : ClientRequest). y.want) now.is)) (k.full now.old now.among)
  ]

  now_voting : (p : ClientRequest) (q : ClientRequest) → In q (taken_for n answer d.requests) → q.want ≡ Prepare
      → HasParticipant (told_by (record d { requests = taken_for n answer d.requests }) p answer).current q
  now_voting p q among want = elim (after_taken n answer q d.requests among) [
    | inl old ↦ moved_on q (k.votes q old want)
    | inr now ↦ (
        let was : HasParticipant d.current now.old =
        k.votes now.old now.among (sym (ap (λ (y : ClientRequest). y.want) now.is) ∙ want) in
        moved_on q (
          was.0,
          was.1,
          subst (λ (n : ℕ). has_granted was.0.lives n ≡ true) (sym (ap (λ (y : ClientRequest). y.site) now.is)) was.2,
          ap (λ (y : ClientRequest). y.life) now.is ∙ was.3
              ∙ ap (life_of was.0.lives) (sym (ap (λ (y : ClientRequest). y.site) now.is)),
        ))
  ]
    where
      moved_on : (q : ClientRequest) → HasParticipant d.current q
          → HasParticipant (told_by (record d { requests = taken_for n answer d.requests }) p answer).current q
      moved_on q (t, was, has, life) =
          let on = told_forward (record d { requests = taken_for n answer d.requests }) p answer t was in
          (on.0, on.1, (on.2 q.site has).0, life ∙ sym (on.2 q.site has).1)

  now_taken : (a : Answer) → answer ≡ Some a → WasTaken (ds ++ x ∷ []) n a
  now_taken a is =
      (let e = taken_now a is in
      record { envelope = e.0; taken = subst (λ (y : Deed). In y (ds ++ x ∷ [])) e.1 (In-last x ds); is = e.2 })

  now_told : (p : ClientRequest) → In p d.requests → p.number ≡ n → (t : Current) (site : ℕ)
      → (told_by (record d { requests = taken_for n answer d.requests }) p answer).current ≡ Some t
      → has_granted t.lives site ≡ true
      → IsToldLife (ds ++ x ∷ []) t.tx site (life_of t.lives site)
  now_told p among number t site at has =
      by (told_changed (record d { requests = taken_for n answer d.requests }) p answer t at)
    where
      added_here : (g : Grant) → answer ≡ Some (answers.Granted g)
          → (m : HasOneMore d.current p.site g.life t) → (b : Bool) → has_granted m.old.lives site ≡ b
          → IsToldLife (ds ++ x ∷ []) t.tx site (life_of t.lives site)
      added_here g is m true before_it =
          subst (λ (tx : TxId). IsToldLife (ds ++ x ∷ []) tx site (life_of t.lives site)) (sym m.its)
          (subst (λ (l : ℕ). IsToldLife (ds ++ x ∷ []) m.old.tx site l)
          (sym (ap (λ (ls : List LifeAt). life_of ls site) m.lives
          ∙ (life_added m.old.lives p.site g.life site before_it).1))
          (told_more ds x m.old.tx site (life_of m.old.lives site) (k.told m.old site m.was before_it)))
      added_here g is m false before_it =
          let new =
          not_yet m.old.lives p.site g.life site before_it
          (subst (λ (ls : List LifeAt). has_granted ls site ≡ true) m.lives has) in
          let s : (c : Current) × (d.current ≡ Some c) × WasSent ds p c.tx = grounds.sent p among in
          let same : s.0 ≡ m.old = (let both : Some s.0 ≡ Some m.old = sym s.1 ∙ m.was in cc) in
          let sent : WasSent ds p t.tx =
          subst (λ (tx : TxId). WasSent ds p tx) (ap (λ (y : Current). y.tx) same ∙ sym m.its) s.2 in
          subst (λ (l : ℕ). IsToldLife (ds ++ x ∷ []) t.tx site l)
          (sym (ap (λ (ls : List LifeAt). life_of ls site) m.lives ∙ new.1))
          (record {
            q = p;
            sent = sent_more ds x p t.tx sent;
            at = new.0;
            full = k.full p among;
            grant = g;
            its = refl;
            taken =
                subst (λ (number : ℕ). WasTaken (ds ++ x ∷ []) number (answers.Granted g)) (sym number)
                (now_taken (answers.Granted g) is);
          })

      by : IsChangedBy d.current p.site answer t → IsToldLife (ds ++ x ∷ []) t.tx site (life_of t.lives site)
      by (inl (old, was, its, lives)) =
          subst (λ (ls : List LifeAt). IsToldLife (ds ++ x ∷ []) t.tx site (life_of ls site)) (sym lives)
          (subst (λ (tx : TxId). IsToldLife (ds ++ x ∷ []) tx site (life_of old.lives site)) (sym its)
          (told_more ds x old.tx site (life_of old.lives site)
          (k.told old site was (subst (λ (ls : List LifeAt). has_granted ls site ≡ true) lives has))))
      by (inr (g, is, m)) = added_here g is m (has_granted m.old.lives site) refl

  counted_grounds : HasLifeGrounds (ds ++ x ∷ []) (counted d n answer)
  counted_grounds = by (find (is_open n) d.requests) refl
    where
      by : (o : Option ClientRequest) → find (is_open n) d.requests ≡ o
          → HasLifeGrounds (ds ++ x ∷ []) (counted_for d n answer o)
      by None at = same_grounds ds x d d refl refl k
      by (Some p) at =
          let found = found_in n p d.requests at in
          record {
            votes =
                λ q among want. now_voting p q
                (subst (In q) (told_requests (record d { requests = taken_for n answer d.requests }) p answer).0 among)
                want;
            full =
                λ q among. now_full q
                (subst (In q) (told_requests (record d { requests = taken_for n answer d.requests }) p answer).0 among);
            told = now_told p found.0 (eqb-true p.number n (and_first (p.number == n) (is_none p.taken) found.1));
          }

pub take_grounds : (ds : List Deed) (d : Account) (g : Input) → HasGrounds ds d → HasLifeGrounds ds d
    → HasLifeGrounds (ds ++ Takes g ∷ []) (account_taken d g)
take_grounds ds d (inputs.Called command) grounds k =
    bare_grounds ds (Takes (inputs.Called command)) d
    (record d { command = Some command; requests = []; written = None }) refl (same_now d.current d.current refl) k
take_grounds ds d (inputs.Lost number) grounds k =
    counted_grounds ds (Takes (inputs.Lost number)) d number None grounds k
    (λ a is. absurd (let never : ⊥ = cc in never))
take_grounds ds d (inputs.Got e) grounds k = by e.message refl
  where
    same : HasLifeGrounds (ds ++ Takes (inputs.Got e) ∷ []) d
    same = same_grounds ds (Takes (inputs.Got e)) d d refl refl k

    by : (m : Message) → e.message ≡ m → HasLifeGrounds (ds ++ Takes (inputs.Got e) ∷ []) (account_heard d m)
    by (messages.Request tx epoch life want) is = same
    by (messages.Answer to answer) is =
        counted_grounds ds (Takes (inputs.Got e)) d to (Some answer) grounds k
        (λ a it. (e, refl, is ∙ ap (λ (y : Answer). messages.Answer to y) (let just : answer ≡ a = cc in just)))
    by (messages.Decision tx verdict) is = same
    by (messages.Inquiry tx) is = same
    by (messages.Ask tx) is = same
    by (messages.Close epoch) is = same
    by (messages.Install start) is = same
