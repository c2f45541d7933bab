-- No answer to an open vote says that its site has forgotten: what that takes of an event, whatever it is.
use Rattle.std.proofs.Common.{◌≡◌, ◌⊎◌, ◌<◌, ◌≤◌, ◌+◌, ◌-◌, ◌==◌, ℕ, Bool, true, false, List, [], ◌∷◌, ◌++◌, inl, inr}
use Rattle.std.proofs.Common.{length, length-append, Option, refl, sym, ap, ◌∙◌, subst, arith, eqb-true}
use Rattle.std.specs.Prelude.{fold}
use Rattle.std.proofs.lemmas.List.{append-nil}
use Rattle.std.proofs.lemmas.List.Sums.{fold-append}
use Rattle.qc_decl.specs.Vocabulary.{is_client}
use Rattle.qc_decl.specs.declared.declaration.Declaration.{Declaration}
use Rattle.laws_guarantees.proofs.Grounds.{open_before, turn_old}
use Rattle.laws_guarantees.proofs.ForgettingAnswers.{Forgets}
use Rattle.laws_guarantees.proofs.AccountsStay.{IsAnswered, account_other}
use Rattle.laws_guarantees.specs.Vocabulary.{IsOpenVote}
use Rattle.qc_list.specs.Vocabulary.{In}
use Rattle.qc_msg.specs.Vocabulary.{Deed, Entry, Falls, Rises, Takes, by, deeds, deeds_as, envelopes, mail, sends_of}
use Rattle.qc_msg.specs.Vocabulary.{tells_of}
use Rattle.qc_msg.specs.declared.message.Answer.{Answer}
use Rattle.qc_msg.specs.declared.message.Envelope.{Envelope}
use Rattle.qc_msg.specs.declared.message.Message.TheVariants as messages
use Rattle.qc_msg.specs.declared.record.Record.{Record}
use Rattle.qc_msg.specs.declared.step.Fall.{Fall}
use Rattle.qc_msg.specs.declared.step.Fall.TheVariants as causes
use Rattle.qc_msg.specs.declared.step.Input.{Input}
use Rattle.qc_msg.specs.declared.step.Step.{Step}
use Rattle.qc_msg.specs.declared.turn.Appended.{Appended}
use Rattle.qc_msg.specs.declared.turn.Appended.TheVariants.{Done, Failed, Stopped}
use Rattle.qc_msg.specs.declared.turn.Posting.{Posting}
use Rattle.qc_msg.specs.declared.turn.Turn.{Turn}
use Rattle.laws_refinement.proofs.Posts.{Place, placed}
use Rattle.qc_promise.specs.Vocabulary.{Account, ClientRequest, account, account_at, new_account}
use Rattle.qc_list.proofs.Members.{In-either}

module _ (decl : Declaration) where
  pub record Unforgotten (h : List Entry) : Type 0 where
    pub low : (n : ℕ) (x : Answer) → IsAnswered (mail h) n x → Forgets x → n < length (mail h)
    pub votes : (a : ℕ) (q : ClientRequest) (x : Answer) → is_client decl a ≡ true → IsOpenVote (account decl a h) q
        → IsAnswered (mail h) q.number x → Forgets x → ⊥

  -- an event: what is posted, which votes are open after it, and that nothing that is posted says that a site has
  -- forgotten, to a vote that is open, or to a message that isn't sent
  pub record IsMindful (h : List Entry) (c : ℕ) (xs : List Step) : Type 0 where
    pub posted : List Posting
    pub mail_is : mail (h ++ by c xs) ≡ mail h ++ envelopes c (length (mail h)) posted
    pub opens : (a : ℕ) (q : ClientRequest) → IsOpenVote (account decl a (h ++ by c xs)) q
        → IsOpenVote (account decl a h) q ⊎ (length (mail h) ≤ q.number)
    pub low : (p : Posting) (n : ℕ) (x : Answer) → In p posted → p.message ≡ messages.Answer n x → Forgets x
        → n < length (mail h)
    pub remembers : (a : ℕ) (q : ClientRequest) → is_client decl a ≡ true → IsOpenVote (account decl a h) q
        → (p : Posting) (x : Answer) → In p posted → p.message ≡ messages.Answer q.number x → Forgets x → ⊥

  module _ (h : List Entry) (c : ℕ) (xs : List Step) (e : IsMindful h c xs) (u : Unforgotten h) where
    record IsNew (n : ℕ) (x : Answer) : Type 0 where
      posting : Posting
      among : In posting e.posted
      is : posting.message ≡ messages.Answer n x

    old_or_new : (n : ℕ) (x : Answer) → IsAnswered (mail (h ++ by c xs)) n x → IsAnswered (mail h) n x ⊎ IsNew n x
    old_or_new n x k = elim (In-either k.envelope (mail h) (envelopes c (length (mail h)) e.posted)
        (subst (In k.envelope) e.mail_is k.sent)) [
          | inl old ↦ inl (record { envelope = k.envelope; sent = old; is = k.is })
          | inr new ↦ (let p : Place c e.posted (mail h ++ envelopes c (length (mail h)) e.posted) k.envelope =
              placed (mail h) c (length (mail h)) e.posted k.envelope refl new in
              inr (record { posting = p.posting; among = p.among; is = sym p.message ∙ k.is }))
        ]

    below : (n : ℕ) (x : Answer) → Forgets x → IsAnswered (mail h) n x ⊎ IsNew n x → n < length (mail h)
    below n x forgets (inl old) = u.low n x old forgets
    below n x forgets (inr new) = e.low new.posting n x new.among new.is forgets

    longer : (n : ℕ) → n < length (mail h) → n < length (mail (h ++ by c xs))
    longer n low =
        let sum : length (mail h ++ envelopes c (length (mail h)) e.posted) ≡ length (mail h) + length
        (envelopes c (length (mail h)) e.posted) =
        length-append (mail h) (envelopes c (length (mail h)) e.posted) in
        subst (λ (ms : List Envelope). n < length ms) (sym e.mail_is) (omega arith)

    never : (a : ℕ) (q : ClientRequest) (x : Answer) → is_client decl a ≡ true → Forgets x
        → IsAnswered (mail h) q.number x ⊎ IsNew q.number x
        → IsOpenVote (account decl a h) q ⊎ (length (mail h) ≤ q.number) → ⊥
    never a q x client forgets (inl old) (inl open_vote) = u.votes a q x client open_vote old forgets
    never a q x client forgets (inr new) (inl open_vote) =
        e.remembers a q client open_vote new.posting x new.among new.is forgets
    never a q x client forgets k (inr high) = let low : q.number < length (mail h) = below q.number x forgets k in
        let no : ⊥ = omega arith in no

    pub grown : Unforgotten (h ++ by c xs)
    grown = record {
      low = λ n x k forgets. longer n (below n x forgets (old_or_new n x k));
      votes = λ a q x client vote k forgets. never a q x client forgets (old_or_new q.number x k) (e.opens a q vote);
    }

  -- which votes are open after an event, by the deeds of its actor

  abbrev OpensSo : Account → ℕ → Account → Type 0
  OpensSo d n after = (q : ClientRequest) → IsOpenVote after q → IsOpenVote d q ⊎ (n ≤ q.number)

  account_grown : (a : ℕ) (h k : List Entry) (new : List Deed) → deeds a [] k ≡ deeds a [] h ++ new
      → account decl a k ≡ fold (account_at decl) (account decl a h) new
  account_grown a h k new same = ap (fold (account_at decl) (new_account (a - decl.sites))) same
      ∙ fold-append (account_at decl) (new_account (a - decl.sites)) (deeds a [] h) new

  pub opens_by : (c : ℕ) (h : List Entry) (xs : List Step) (new : List Deed) (n : ℕ)
      → deeds c [] (h ++ by c xs) ≡ deeds c [] h ++ new
      → OpensSo (account decl c h) n (fold (account_at decl) (account decl c h) new)
      → (a : ℕ) → OpensSo (account decl a h) n (account decl a (h ++ by c xs))
  opens_by c h xs new n same own a = at (c == a) refl
    where
      here : OpensSo (account decl c h) n (account decl c (h ++ by c xs))
      here q vote = own q (subst (λ (d : Account). IsOpenVote d q) (account_grown c h (h ++ by c xs) new same) vote)

      at : (t : Bool) → (c == a) ≡ t → OpensSo (account decl a h) n (account decl a (h ++ by c xs))
      at true is = subst (λ (k : ℕ). OpensSo (account decl k h) n (account decl k (h ++ by c xs)))
          (eqb-true c a is) here
      at false other = λ q vote. inl (subst (λ (d : Account). IsOpenVote d q) (account_other decl c a h xs other) vote)

  -- an input opens none
  pub opens_taken : (d : Account) (n : ℕ) (g : Input) → OpensSo d n (fold (account_at decl) d (Takes g ∷ []))
  opens_taken d n g q vote = inl (record {
    among = open_before decl d g q vote.untaken vote.among;
    want = vote.want;
    untaken = vote.untaken;
  })

  -- none is open after a fall

  bare : (d : Account) (n : ℕ) (after : Account) → after.requests ≡ [] → OpensSo d n after
  bare d n after none q vote = absurd (subst (In q) none vote.among)

  pub opens_fallen : (d : Account) (n : ℕ) (cause : Fall) (pending : Option Record)
      → OpensSo d n (fold (account_at decl) d (Falls cause pending ∷ []))
  opens_fallen d n cause pending = bare d n (fold (account_at decl) d (Falls cause pending ∷ [])) refl

  last_falls : (d : Account) (ds : List Deed) (cause : Fall) (pending : Option Record)
      → (fold (account_at decl) d (ds ++ Falls cause pending ∷ [])).requests ≡ []
  last_falls d ds cause pending = ap (λ (e : Account). e.requests)
      (fold-append (account_at decl) d ds (Falls cause pending ∷ []))

  -- a turn asks for promises under numbers of its own
  pub opens_posted : (end : Appended) (d : Account) (n : ℕ) (turn : Turn)
      → OpensSo d n (fold (account_at decl) d (deeds_as end n turn))
  opens_posted Done d n turn = λ q vote. elim (turn_old decl d n turn q vote.among) [
    | inl old ↦ inl (record { among = old; want = vote.want; untaken = vote.untaken })
    | inr new ↦ inr new.0
  ]
  opens_posted Failed d n turn =
      bare d n (fold (account_at decl) d (deeds_as Failed n turn))
      (ap (λ (e : Account). e.requests) (fold-append (account_at decl) d (sends_of n turn.failed_sends)
      (tells_of turn.failed_told ++ Falls causes.Disk turn.write ∷ []))
      ∙ last_falls (fold (account_at decl) d (sends_of n turn.failed_sends))
      (tells_of turn.failed_told) causes.Disk turn.write)
  opens_posted Stopped d n turn = bare d n (fold (account_at decl) d (deeds_as Stopped n turn))
      (last_falls d (tells_of turn.failed_told) causes.Stop turn.write)

  -- as it rises, an actor asks for none
  pub opens_risen : (end : Appended) (d : Account) (n : ℕ) (records : List Record) (turn : Turn)
      → OpensSo d n (fold (account_at decl) d (Rises records ∷ deeds_as end n turn))
  opens_risen end d n records turn q vote = elim (opens_posted end (account_at decl d (Rises records)) n turn q vote) [
    | inl never ↦ absurd never.among
    | inr high ↦ inr high
  ]

  -- an event that posts nothing
  pub quiet_event : (h : List Entry) (c : ℕ) (xs : List Step) → mail (h ++ by c xs) ≡ mail h
      → ((a : ℕ) → OpensSo (account decl a h) (length (mail h)) (account decl a (h ++ by c xs))) → IsMindful h c xs
  quiet_event h c xs same opens = record {
    posted = [];
    mail_is = same ∙ sym (append-nil (mail h));
    opens = opens;
    low = λ p n x never is forgets. absurd never;
    remembers = λ a q client vote p x never is forgets. never;
  }
