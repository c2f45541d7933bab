-- Each unanswered request stays somewhere, step by step: a copy of it is ready at its receiver, or it is wherever else
-- requests may be, which no step here touches.
use Rattle.std.proofs.Common.{◌≡◌, ℕ, ◌+◌, ◌<◌, ◌==◌, ◌⊎◌, Bool, true, false, inl, inr, List, [], ◌∷◌, ◌++◌, Option}
use Rattle.std.proofs.Common.{Some, None, refl, sym, ap, ◌∙◌, subst}
use Rattle.std.specs.List.{AllByRecursion as Every}
use Rattle.std.proofs.lemmas.Bool.{eq-eqb, eqb-true}
use Rattle.qc_list.specs.Vocabulary.{In}
use Rattle.qc_list.proofs.Members.{In-first, In-second}
use Rattle.qc_link.specs.Vocabulary.{fate, most_actors}
use Rattle.qc_msg.specs.declared.message.Envelope.{Envelope}
use Rattle.qc_msg.specs.declared.message.Message.{Message}
use Rattle.qc_msg.specs.declared.record.Record.{Record}
use Rattle.qc_msg.specs.declared.reply.Reply.{Reply}
use Rattle.qc_msg.specs.declared.step.Step.{Step}
use Rattle.qc_msg.specs.declared.step.Step.TheVariants as steps
use Rattle.qc_msg.specs.declared.turn.Appended.{Appended}
use Rattle.qc_msg.specs.declared.turn.Appended.TheVariants.{Done, Failed, Stopped}
use Rattle.qc_msg.specs.declared.turn.Posting.{Posting}
use Rattle.qc_msg.specs.declared.turn.Turn.{Turn}
use Rattle.qc_msg.specs.Vocabulary.{Entry, by, fell, mail, marked, posted_as, sends_as, sents, told, wrote, Mailed}
use Rattle.qc_msg.specs.Vocabulary.{commanded_in, lost_in, mailed_in, received_in}
use Rattle.qc_msg.proofs.GrownMail.{mail-append}
use Rattle.qc_script.proofs.Inboxes.{inboxes_have_in_common, one_fate}
use Rattle.qc_script.specs.declared.script.Script.{Script}
use Rattle.qc_script.specs.Vocabulary.{Inbox, SentRequest, comes_at_once, count_of, inbox, inbox_at, is_request, is_up}
use Rattle.laws_due.proofs.Answering.{IsNew, IsSpared, IsStill, copies_left, copy_made, others_fewer, own_new}
use Rattle.laws_due.proofs.Answering.{silent_fewer, still_left, IsNoInput}
use Rattle.laws_due.proofs.Plain.{entries}
use Rattle.std.specs.Prelude.{MatchOption}
use Rattle.qc_msg.specs.declared.step.Command.{Command}
use Rattle.laws_due.proofs.MailedCases.{mailed_cases}
use Rattle.qc_mailbox.proofs.Keeping.{inbox_after}
use Rattle.qc_list.proofs.Numbers.{numbers_apart}

pub record IsSomewhere (script : Script) (X : Envelope → Type 0) (h : List Entry) (a : ℕ)
    (r : SentRequest) : Type 0 where
  pub envelope : Envelope
  pub number : envelope.number ≡ r.number
  pub to : envelope.to ≡ r.to
  pub from : envelope.from ≡ a
  pub request : is_request envelope.message ≡ true
  pub sent : In envelope (mail h)
  pub place : In envelope (inbox script envelope.to h).copies ⊎ X envelope

abbrev pub AreSomewhere : Script → (Envelope → Type 0) → List Entry → ℕ → Type 0
AreSomewhere script X h a = (r : SentRequest) → In r (inbox script a h).unanswered → IsSomewhere script X h a r

-- an actor other than a
abbrev pub IsOther : ℕ → ℕ → Type 0
IsOther a to = (to < most_actors) × ((to == a) ≡ false)

abbrev pub AreToOthers : ℕ → List Posting → Type 0
AreToOthers a ps = Every (λ (p : Posting). is_request p.message ≡ true → IsOther a p.to) ps

-- a step of actor b that is no input; a request of actor a's own goes to another
abbrev pub MayFollow : ℕ → ℕ → Step → Type 0
MayFollow a b step = IsNoInput (λ (m : Mailed). b ≡ a → is_request m.message ≡ true → IsOther a m.to) step

abbrev pub MayAllFollow : ℕ → List Entry → Type 0
MayAllFollow a k = Every (λ (e : Entry). MayFollow a e.actor e.step) k

-- posts

module _ (a b : ℕ) where
  sents_follow : (n : ℕ) (ps : List Posting) (rest : List Step) → (b ≡ a → AreToOthers a ps)
      → MayAllFollow a (by b rest) → MayAllFollow a (by b (sents n ps ++ rest))
  sents_follow n [] rest are after = after
  sents_follow n (p ∷ ps) rest are after = ((λ is. (are is).0), sents_follow (n + 1) ps rest (λ is. (are is).1) after)

  told_follow : (reply : Option Reply) (rest : List Step) → MayAllFollow a (by b rest)
      → MayAllFollow a (by b (told reply ++ rest))
  told_follow None rest after = after
  told_follow (Some reply) rest after = (tt, after)

  last_follow : (reply : Option Reply) → MayAllFollow a (by b (told reply))
  last_follow None = tt
  last_follow (Some reply) = (tt, tt)

  pub post_follows : (n : ℕ) (end : Appended) (t : Turn) → (b ≡ a → AreToOthers a (sends_as end t))
      → MayAllFollow a (by b (posted_as end n t))
  post_follows n Done t are = at t.write
    where
      at : (w : Option Record) → MayAllFollow a (by b (wrote w ++ (sents n t.sends ++ told t.told)))
      at None = sents_follow n t.sends (told t.told) are (last_follow t.told)
      at (Some written) = (tt, sents_follow n t.sends (told t.told) are (last_follow t.told))
  post_follows n Failed t are = sents_follow n t.failed_sends (told t.failed_told ++ fell _ t.write) are
      (told_follow t.failed_told (fell _ t.write) (tt, tt))
  post_follows n Stopped t are = told_follow t.failed_told (fell _ t.write) (tt, tt)

still_at : (Holds : Mailed → Type 0) (step : Step) → mailed_in step ≡ None → IsNoInput Holds step → IsStill step
still_at Holds step = by (commanded_in step) (received_in step) (lost_in step) (mailed_in step)
  where
    at : (Holds : Mailed → Type 0) (c : Option Command) (g l : Option ℕ) (m : Option Mailed) → Type 0
    at Holds c g l m =
        MatchOption c (MatchOption g (MatchOption l (MatchOption m (Unit {0}) Holds) (λ (n : ℕ). ⊥)) (λ (n : ℕ). ⊥))
        (λ (c : Command). ⊥)

    by : (c : Option Command) (g l : Option ℕ) (m : Option Mailed) → m ≡ None → at Holds c g l m
        → at (λ (m : Mailed). ⊥) c g l m
    by (Some c) g l m none is = is
    by None (Some n) l m none is = is
    by None None (Some n) m none is = is
    by None None None None none is = is
    by None None None (Some m) none is = absurd (let never : ⊥ = cc in never)

module _ (script : Script) (X : Envelope → Type 0) (a : ℕ) (a_low : a < most_actors) where
  sent_more : (h k : List Entry) (x : Envelope) → In x (mail h) → In x (mail (h ++ k))
  sent_more h k x member = subst (In x) (sym (mail-append h k)) (In-first x (mail h) (mail k) member)

  -- a request that stays unanswered
  stays : (h : List Entry) (e : Entry) (r : SentRequest) → IsSpared r.to e.actor e.step → IsSomewhere script X h a r
      → IsSomewhere script X (h ++ e ∷ []) a r
  stays h e r spared s = record {
    envelope = s.envelope;
    number = s.number;
    to = s.to;
    from = s.from;
    request = s.request;
    sent = sent_more h (e ∷ []) s.envelope s.sent;
    place = at s.place;
  }
    where
      at : In s.envelope (inbox script s.envelope.to h).copies ⊎ X s.envelope
          → In s.envelope (inbox script s.envelope.to (h ++ e ∷ [])).copies ⊎ X s.envelope
      at (inl there) =
          inl (subst (λ (i : Inbox). In s.envelope i.copies) (sym (inbox_after script s.envelope.to h e))
          (copies_left script s.envelope.to (inbox script s.envelope.to h) e.actor e.step
          (subst (λ (k : ℕ). IsSpared k e.actor e.step) (sym s.to) spared) s.envelope there))
      at (inr other) = inr other

  still : (h : List Entry) (e : Entry) → IsStill e.step → AreSomewhere script X h a
      → AreSomewhere script X (h ++ e ∷ []) a
  still h e is are r member =
      let left : In r (inbox script a h).unanswered × IsSpared r.to e.actor e.step =
      still_left script a (inbox script a h) e.actor e.step is r
      (subst (λ (i : Inbox). In r i.unanswered) (inbox_after script a h e) member) in
      stays h e r left.1 (are r left.0)

  -- a message

  module _ (h : List Entry) (b n to : ℕ) (m : Message) (are : AreSomewhere script X h a) where
    abbrev sent : Envelope
    sent = record { number = n; from = b; to = to; message = m }

    abbrev entry : Entry
    entry = marked b (steps.Sent n to m)

    fewer : ((r : SentRequest) → In r (inbox_at script a (inbox script a h) b (steps.Sent n to m)).unanswered
        → In r (inbox script a h).unanswered) → AreSomewhere script X (h ++ entry ∷ []) a
    fewer less r member = stays h entry r tt
        (are r (less r (subst (λ (i : Inbox). In r i.unanswered) (inbox_after script a h entry) member)))

    more : (b == a) ≡ true → is_request m ≡ true → IsOther a to → AreSomewhere script X (h ++ entry ∷ []) a
    more mine request other r member = at (own_new script a (inbox script a h) sent other.1 mine r
        (subst (λ (i : Inbox). In r i.unanswered) (inbox_after script a h entry) member))
      where
        is : b ≡ a
        is = eqb-true b a mine

        back : (b == to) ≡ false
        back = numbers_apart b to (λ same. (let yes : (to == a) ≡ true = eq-eqb to a (sym same ∙ is) in
            let no : (to == a) ≡ false = other.1 in let never : ⊥ = cc in never))

        to_low : to < most_actors
        to_low = other.0

        fresh : IsNew script a (inbox script a h) sent r → IsSomewhere script X (h ++ entry ∷ []) a r
        fresh new = record {
          envelope = sent;
          number = ap (λ (x : SentRequest). x.number) (sym new.is);
          to = ap (λ (x : SentRequest). x.to) (sym new.is);
          from = is;
          request = request;
          sent = subst (In sent) (sym (mail-append h (entry ∷ []))) (In-second sent (mail h) (sent ∷ []) (inl refl));
          place = inl (subst (λ (i : Inbox). In sent i.copies) (sym (inbox_after script to h entry))
              (copy_made script to (inbox script to h) sent
              (sym (ap (λ (v : List Bool). is_up v to) (inboxes_have_in_common script a to h a_low to_low).up) ∙ new.up)
              (eq-eqb to to refl) back (ap comes_at_once
              (subst (λ (c : ℕ). fate script.links (inbox script to h).cuts c to
              (count_of (inbox script to h).from_each c + 1) ≡ fate script.links (inbox script a h).cuts c to
              (count_of (inbox script a h).to_each to + 1)) (sym is) (one_fate script to a h to_low a_low))
              ∙ new.once)));
        }

        at : In r (inbox script a h).unanswered ⊎ IsNew script a (inbox script a h) sent r
            → IsSomewhere script X (h ++ entry ∷ []) a r
        at (inl old) = stays h entry r tt (are r old)
        at (inr new) = fresh new

    message : (b ≡ a → is_request m ≡ true → IsOther a to) → AreSomewhere script X (h ++ entry ∷ []) a
    message others = at (b == a) refl (is_request m) refl
      where
        at : (t : Bool) → (b == a) ≡ t → (q : Bool) → is_request m ≡ q → AreSomewhere script X (h ++ entry ∷ []) a
        at false other q is = fewer (others_fewer script a (inbox script a h) sent other)
        at true mine false is = fewer (silent_fewer script a (inbox script a h) sent is)
        at true mine true is = more mine is (others (eqb-true b a mine) is)

  follows : (h : List Entry) (e : Entry) → MayFollow a e.actor e.step → AreSomewhere script X h a
      → AreSomewhere script X (h ++ e ∷ []) a
  follows h e may are =
      mailed_cases
      (λ (step : Step) (o : Option Mailed). e.step ≡ step → mailed_in step ≡ o → MayFollow a e.actor step
      → AreSomewhere script X (h ++ e ∷ []) a)
      (λ step is none follow. still h e (subst IsStill (sym is) (still_at _ step none follow)) are)
      (λ m is some follow. subst (λ (s : Step). AreSomewhere script X (h ++ marked e.actor s ∷ []) a) (sym is)
      (message h e.actor m.number m.to m.message are follow))
      e.step refl refl may

  pub all_follow : (h k : List Entry) → MayAllFollow a k → AreSomewhere script X h a → AreSomewhere script X (h ++ k) a
  all_follow h k may are = entries (λ (v : List Entry). AreSomewhere script X v a)
      (λ (e : Entry). MayFollow a e.actor e.step) (λ v e one is. follows v e one is) h k may are
