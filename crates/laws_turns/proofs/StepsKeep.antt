-- Each step of a turn leaves the unanswered requests somewhere, and adds some.
use Rattle.std.proofs.Common.{[], ◌≡◌, ℕ, ◌+◌, ◌<◌, ◌≤◌, ◌==◌, ◌⊎◌, Bool, true, false, if◌then◌else◌, inl, inr, List}
use Rattle.std.proofs.Common.{◌∷◌, ◌++◌, Option, Some, None, refl, sym, ap, ◌∙◌, subst, arith, eqb-true, eq-eqb}
use Rattle.std.proofs.Common.{append_assoc}
use Rattle.std.specs.Prelude.{MatchOption}
use Rattle.std.specs.Bool.{MatchBool}
use Rattle.std.proofs.lemmas.List.Sums.{fold-append}
use Rattle.std.proofs.lemmas.List.{append-nil}
use Rattle.qc_list.specs.Vocabulary.{In}
use Rattle.qc_list.proofs.Members.{In-first, In-second}
use Rattle.qc_decl.specs.declared.declaration.Declaration.{Declaration}
use Rattle.qc_msg.specs.declared.message.Envelope.{Envelope}
use Rattle.qc_msg.specs.declared.message.Message.{Message}
use Rattle.qc_msg.specs.declared.message.Message.TheVariants as messages
use Rattle.qc_msg.specs.declared.record.Record.{Record}
use Rattle.qc_msg.specs.declared.reply.Reply.{Reply}
use Rattle.qc_msg.specs.declared.step.Step.{Step}
use Rattle.qc_msg.specs.declared.step.Step.TheVariants as steps
use Rattle.qc_msg.specs.declared.turn.Posting.{Posting}
use Rattle.qc_msg.specs.declared.turn.Turn.{Turn}
use Rattle.qc_msg.specs.Vocabulary.{Entry, by, envelopes, mail, marked, posted, sents, told, wrote}
use Rattle.qc_msg.specs.Vocabulary.{Requested, wants_answer}
use Rattle.qc_msg.proofs.GrownMail.{mail-append}
use Rattle.qc_script.specs.declared.script.Script.{Script}
use Rattle.qc_script.specs.Vocabulary.{Inbox, SentRequest, comes_at_once, empty_inbox, everybody, inbox, inbox_at}
use Rattle.qc_script.specs.Vocabulary.{is_request, reply_told, request_numbers}
use Rattle.qc_script.proofs.AllUp.{Stays, step_up, wrote_up}
use Rattle.qc_script.proofs.Inboxes.{one_fate}
use Rattle.laws_turns.proofs.Answering.{copies_stay, copy_made, others_fewer, own_fate, own_new, silent_fewer}
use Rattle.laws_turns.proofs.SiteReplies.{IsMailProper, IsProperFrom}
use Rattle.laws_turns.proofs.MessageCases.{message_cases}
use Rattle.laws_turns.proofs.Rounds.{IsProper}
use Rattle.qc_link.specs.Vocabulary.{most_actors}

-- The steps of a turn, one by one: the requests that are unanswered before it stay somewhere, and those that it adds
-- are ready at their sites. Here for any predicate of where else a request may be, which no step of the turn touches.

pub record IsSomewhere (script : Script) (X : Envelope → Type 0) (h : List Entry) (a n : ℕ) : Type 0 where
  pub envelope : Envelope
  pub number : envelope.number ≡ n
  pub from : envelope.from ≡ a
  pub request : is_request envelope.message ≡ true
  pub proper : In envelope (mail h)
  pub place : In envelope (inbox script envelope.to h).copies ⊎ X envelope

abbrev pub AreSomewhere : Script → (Envelope → Type 0) → List Entry → ℕ → Type 0
AreSomewhere script X h a = (n : ℕ) → In n (request_numbers (inbox script a h).unanswered) → IsSomewhere script X h a n

module _ (script : Script) (X : Envelope → Type 0) (a : ℕ) where
  inbox_one : (s : ℕ) (h : List Entry) (b : ℕ) (step : Step)
      → inbox script s (h ++ marked b step ∷ []) ≡ inbox_at script s (inbox script s h) b step
  inbox_one s h b step =
      fold-append (λ (i : Inbox) (e : Entry). inbox_at script s i e.actor e.step) empty_inbox h (marked b step ∷ [])

  -- in each inbox everybody is up

  abbrev pub AllUp : List Entry → Type 0
  AllUp h = (s : ℕ) → (inbox script s h).up ≡ everybody

  up_on : (h : List Entry) (b : ℕ) (step : Step) → Stays step → AllUp h → AllUp (h ++ marked b step ∷ [])
  up_on h b step stays up s =
      ap (λ (i : Inbox). i.up) (inbox_one s h b step) ∙ step_up script s (inbox script s h) b step stays (up s)

  -- a step that leaves what is unanswered, and no copy less
  pub somewhere_still : (h : List Entry) (b : ℕ) (step : Step)
      → (inbox_at script a (inbox script a h) b step).unanswered ≡ (inbox script a h).unanswered
      → ((s : ℕ) (x : Envelope) → In x (inbox script s h).copies
      → In x (inbox_at script s (inbox script s h) b step).copies)
      → ((x : Envelope) → In x (mail h) → In x (mail (h ++ marked b step ∷ [])))
      → AreSomewhere script X h a → AreSomewhere script X (h ++ marked b step ∷ []) a
  somewhere_still h b step same copies mails are n member =
      let r : IsSomewhere script X h a n =
      are n
      (subst (λ (rs : List SentRequest). In n (request_numbers rs)) same
      (subst (λ (i : Inbox). In n (request_numbers i.unanswered)) (inbox_one a h b step) member)) in
      record {
        envelope = r.envelope;
        number = r.number;
        from = r.from;
        request = r.request;
        proper = mails r.envelope r.proper;
        place = at r.envelope r.place;
      }
    where
      at : (x : Envelope) → In x (inbox script x.to h).copies ⊎ X x
          → In x (inbox script x.to (h ++ marked b step ∷ [])).copies ⊎ X x
      at x (inl there) =
          inl (subst (λ (i : Inbox). In x i.copies) (sym (inbox_one x.to h b step)) (copies x.to x there))
      at x (inr taken) = inr taken

  pub mail_first : (h k : List Entry) (x : Envelope) → In x (mail h) → In x (mail (h ++ k))
  mail_first h k x member = subst (In x) (sym (mail-append h k)) (In-first x (mail h) (mail k) member)

  -- a message of another, or one that asks nothing
  sent_still : (h : List Entry) (b n to : ℕ) (m : Message)
      → ((k : ℕ) → In k (request_numbers (inbox_at script a (inbox script a h) b (steps.Sent n to m)).unanswered)
      → In k (request_numbers (inbox script a h).unanswered))
      → AreSomewhere script X h a → AreSomewhere script X (h ++ marked b (steps.Sent n to m) ∷ []) a
  sent_still h b n to m fewer are k member =
      moved_on h b n to m k
      (are k
      (fewer k
      (subst (λ (i : Inbox). In k (request_numbers i.unanswered)) (inbox_one a h b (steps.Sent n to m)) member)))
    where
      moved_on : (h : List Entry) (b n to : ℕ) (m : Message) (k : ℕ) → IsSomewhere script X h a k
          → IsSomewhere script X (h ++ marked b (steps.Sent n to m) ∷ []) a k
      moved_on h b n to m k r =
          record {
            envelope = r.envelope;
            number = r.number;
            from = r.from;
            request = r.request;
            proper = mail_first h (marked b (steps.Sent n to m) ∷ []) r.envelope r.proper;
            place = at r.place;
          }
        where
          at : In r.envelope (inbox script r.envelope.to h).copies ⊎ X r.envelope
              → In r.envelope (inbox script r.envelope.to (h ++ marked b (steps.Sent n to m) ∷ [])).copies
              ⊎ X r.envelope
          at (inl there) =
              inl (subst (λ (i : Inbox). In r.envelope i.copies) (sym (inbox_one r.envelope.to h b (steps.Sent n to m)))
              (copies_stay script r.envelope.to (inbox script r.envelope.to h)
              (record { number = n; from = b; to = to; message = m }) r.envelope there))
          at (inr taken) = inr taken

  -- a request of the actor's own
  sent_new : (h : List Entry) (n to : ℕ) (m : Message) → AllUp h → a < most_actors → to < most_actors
      → (to == a) ≡ false → is_request m ≡ true → AreSomewhere script X h a
      → AreSomewhere script X (h ++ marked a (steps.Sent n to m) ∷ []) a
  sent_new h n to m up a_low to_low away request are k member =
      at (own_new script a (inbox script a h) e away (eq-eqb a a refl) k
      (subst (λ (i : Inbox). In k (request_numbers i.unanswered)) (inbox_one a h a (steps.Sent n to m)) member))
    where
      e : Envelope
      e = record { number = n; from = a; to = to; message = m }

      back : (a == to) ≡ false
      back = on (a == to) refl
        where
          on : (t : Bool) → (a == to) ≡ t → t ≡ false
          on true same =
              absurd
              (let yes : (to == a) ≡ true = eq-eqb to a (sym (eqb-true a to same)) in let never : ⊥ = cc in never)
          on false other = refl

      at : In k (request_numbers (inbox script a h).unanswered)
          ⊎ ((k ≡ n)
          × ((is_request m ≡ true)
          × (comes_at_once (own_fate script a (inbox script a h)
          (record { number = n; from = a; to = to; message = m })) ≡ true)))
          → IsSomewhere script X (h ++ marked a (steps.Sent n to m) ∷ []) a k
      at (inl old) = older (are k old)
        where
          older : IsSomewhere script X h a k → IsSomewhere script X (h ++ marked a (steps.Sent n to m) ∷ []) a k
          older r =
              record {
                envelope = r.envelope;
                number = r.number;
                from = r.from;
                request = r.request;
                proper = mail_first h (marked a (steps.Sent n to m) ∷ []) r.envelope r.proper;
                place = spot r.place;
              }
            where
              spot : In r.envelope (inbox script r.envelope.to h).copies ⊎ X r.envelope
                  → In r.envelope (inbox script r.envelope.to (h ++ marked a (steps.Sent n to m) ∷ [])).copies
                  ⊎ X r.envelope
              spot (inl there) =
                  inl (subst (λ (i : Inbox). In r.envelope i.copies)
                  (sym (inbox_one r.envelope.to h a (steps.Sent n to m)))
                  (copies_stay script r.envelope.to (inbox script r.envelope.to h)
                  (record { number = n; from = a; to = to; message = m }) r.envelope there))
              spot (inr taken) = inr taken
      at (inr new) = record {
        envelope = e;
        number = sym new.0;
        from = refl;
        request = request;
        proper =
            subst (In e) (sym (mail-append h (marked a (steps.Sent n to m) ∷ [])))
            (In-second e (mail h) (e ∷ []) (inl refl));
        place = inl (subst (λ (i : Inbox). In e i.copies) (sym (inbox_one to h a (steps.Sent n to m)))
            (copy_made script to (inbox script to h) e (up to) (eq-eqb to to refl) back
            (ap comes_at_once (one_fate script to a h to_low a_low) ∙ new.1.1)));
      }

  -- a turn

  module _ (decl : Declaration) (few : decl.sites ≤ 16) (a_low : a < most_actors) where
    one_sent : (h : List Entry) (b n to : ℕ) (m : Message) → AllUp h → IsProperFrom decl b to m
        → AreSomewhere script X h a → AreSomewhere script X (h ++ marked b (steps.Sent n to m) ∷ []) a
    one_sent h b n to m up proper are = on (b == a) refl (is_request m) refl
      where
        apart : (c : ℕ) → (m2 : Message) → is_request m2 ≡ true → IsProperFrom decl c to m2
            → (to < decl.sites) × (decl.sites ≤ c)
        apart c m2 is p =
            message_cases (λ m r a d i. is_request m ≡ true → MatchOption r (MatchBool (wants_answer m) ⊥ (Unit {0}))
            (λ (q : Requested). (decl.sites ≤ c) × IsProper decl to (messages.Request q.tx q.epoch q.life q.want))
            → (to < decl.sites) × (decl.sites ≤ c))
            (λ q is p. (p.1.0, p.0)) (λ a is p. absurd (let never : ⊥ = cc in never))
            (λ v is p. absurd (let never : ⊥ = cc in never)) (λ tx is p. absurd (let never : ⊥ = cc in never))
            (λ m is p. absurd (subst (λ (t : Bool). MatchBool t ⊥ (Unit {0})) is p)) m2 is p

        on : (t : Bool) → (b == a) ≡ t → (q : Bool) → is_request m ≡ q
            → AreSomewhere script X (h ++ marked b (steps.Sent n to m) ∷ []) a
        on false other q is =
            sent_still h b n to m
            (others_fewer script a (inbox script a h) (record { number = n; from = b; to = to; message = m }) other) are
        on true mine false is =
            sent_still h b n to m
            (silent_fewer script a (inbox script a h) (record { number = n; from = b; to = to; message = m }) is) are
        on true mine true is =
            let both : (to < decl.sites) × (decl.sites ≤ b) = apart b m is proper in
            let b_is : b ≡ a = eqb-true b a mine in
            let low : to < decl.sites = both.0 in
            let high : decl.sites ≤ b = both.1 in
            subst (λ (c : ℕ). AreSomewhere script X (h ++ marked c (steps.Sent n to m) ∷ []) a) (sym b_is)
            (sent_new h n to m up a_low (omega arith) (differ (omega arith)) is are)
          where
            differ : to < a → (to == a) ≡ false
            differ less = by (to == a) refl
              where
                by : (t : Bool) → (to == a) ≡ t → t ≡ false
                by true same = let it : to ≡ a = eqb-true to a same in absurd (omega arith)
                by false other = refl

    told_somewhere : (h : List Entry) (b : ℕ) (reply : Option Reply) → AreSomewhere script X h a
        → AreSomewhere script X (h ++ by b (told reply)) a
    told_somewhere h b None are = subst (λ (k : List Entry). AreSomewhere script X k a) (sym (append-nil h)) are
    told_somewhere h b (Some reply) are =
        somewhere_still h b (steps.Told reply) (on (b == a)) (λ s x member. stay s x (b == s) member)
        (λ x member. mail_first h (marked b (steps.Told reply) ∷ []) x member) are
      where
        on : (t : Bool)
            → (if t then reply_told (inbox script a h) else inbox script a h).unanswered ≡ (inbox script a h).unanswered
        on true = refl
        on false = refl

        stay : (s : ℕ) (x : Envelope) (t : Bool) → In x (inbox script s h).copies
            → In x (if t then reply_told (inbox script s h) else inbox script s h).copies
        stay s x true member = member
        stay s x false member = member

    sents_somewhere : (h : List Entry) (b n : ℕ) (ps : List Posting) (reply : Option Reply) → AllUp h
        → IsMailProper decl (envelopes b n ps) → AreSomewhere script X h a
        → AreSomewhere script X (h ++ by b (sents n ps ++ told reply)) a
    sents_somewhere h b n [] reply up proper are = told_somewhere h b reply are
    sents_somewhere h b n (p ∷ ps) reply up proper are =
        subst (λ (k : List Entry). AreSomewhere script X k a)
        (append_assoc h (marked b (steps.Sent n p.to p.message) ∷ []) (by b (sents (n + 1) ps ++ told reply)))
        (sents_somewhere (h ++ marked b (steps.Sent n p.to p.message) ∷ []) b (n + 1) ps reply
        (up_on h b (steps.Sent n p.to p.message) tt up) proper.1 (one_sent h b n p.to p.message up proper.0 are))

    pub turn_somewhere : (h : List Entry) (b n : ℕ) (turn : Turn) → AllUp h
        → IsMailProper decl (envelopes b n turn.sends) → AreSomewhere script X h a
        → AreSomewhere script X (h ++ by b (posted n turn)) a
    turn_somewhere h b n turn up proper are = on turn.write
      where
        on : (w : Option Record)
            → AreSomewhere script X (h ++ by b (wrote w ++ (sents n turn.sends ++ told turn.told))) a
        on None = sents_somewhere h b n turn.sends turn.told up proper are
        on (Some written) =
            subst (λ (k : List Entry). AreSomewhere script X k a)
            (append_assoc h (marked b (steps.Wrote written) ∷ []) (by b (sents n turn.sends ++ told turn.told)))
            (sents_somewhere (h ++ marked b (steps.Wrote written) ∷ []) b n turn.sends turn.told
            (up_on h b (steps.Wrote written) tt up) proper
            (somewhere_still h b (steps.Wrote written)
            (ap (λ (i : Inbox). i.unanswered) (wrote_up a (inbox script a h) b (up a)))
            (λ s x member. subst (λ (i : Inbox). In x i.copies) (sym (wrote_up s (inbox script s h) b (up s)))
            member) (λ x member. mail_first h (marked b (steps.Wrote written) ∷ []) x member) are))
