-- Where an actor is down nothing waits for it but commands, whatever others do.
use Rattle.std.proofs.Common.{◌≡◌, ℕ, ◌+◌, ◌==◌, Bool, true, false, if◌then◌else◌, List, [], ◌∷◌, ◌++◌, Option, Some}
use Rattle.std.proofs.Common.{None, refl, ap, sym, subst, ◌∙◌}
use Rattle.std.specs.Prelude.{drop, set}
use Rattle.std.specs.List.{fold}
use Rattle.qc_link.specs.Vocabulary.{fate}
use Rattle.qc_link.specs.declared.rule.Fate.{Fate}
use Rattle.qc_msg.specs.declared.message.Envelope.{Envelope}
use Rattle.qc_msg.specs.declared.message.Message.{Message}
use Rattle.qc_msg.specs.declared.message.Message.TheVariants as messages
use Rattle.qc_msg.specs.declared.reply.Reply.{Reply}
use Rattle.qc_msg.specs.declared.step.Control.{Control}
use Rattle.qc_msg.specs.declared.turn.Posting.{Posting}
use Rattle.qc_msg.specs.Vocabulary.{Entry, by, sents, told}
use Rattle.qc_script.specs.Vocabulary.{Inbox, SentRequest, acting, actor_fell, answers_by, comes, control_acted}
use Rattle.qc_script.specs.Vocabulary.{copies_at_once, count_of, emptied, goes, goes_with, has_request, if_up, inbox_at}
use Rattle.qc_script.specs.Vocabulary.{is_up, opened, opened_by, reply_told, request_answered, requests_to}
use Rattle.qc_script.specs.Vocabulary.{requests_to_others, with_copies, with_lost}
use Rattle.qc_script.specs.declared.script.Script.{Script}
use Rattle.qc_script.proofs.InboxesSend.{opened_keeps, sends_does}
use Rattle.qc_mailbox.specs.Vocabulary.{IsEmptied}

pub emptied_if : (t : Bool) (i j : Inbox) → IsEmptied i → IsEmptied j → IsEmptied (if t then i else j)
emptied_if true i j here there = here
emptied_if false i j here there = there

-- a message comes

never_copied : (up : Bool) (es : List Envelope) → up ≡ false → if_up up es ≡ []
never_copied up es down = ap (λ (t : Bool). if_up t es) down

unless : (t : Bool) (i j : Inbox) → t ≡ false → IsEmptied j → IsEmptied (if t then i else j)
unless true i j is there = absurd (let never : ⊥ = cc in never)
unless false i j is there = there

answered_emptied : (i : Inbox) (number : ℕ) (f : Fate) → IsEmptied i → IsEmptied (request_answered i number f)
answered_emptied i number f e = unless (has_request i.unanswered number) _ i
    (ap (λ (rs : List SentRequest). has_request rs number) e.unanswered) e

answers_emptied : (i : Inbox) (m : Message) (f : Fate) → IsEmptied i → IsEmptied (answers_by i m f)
answers_emptied i (messages.Request tx epoch life want) f e = e
answers_emptied i (messages.Answer to answer) f e = answered_emptied i to f e
answers_emptied i (messages.Decision tx verdict) f e = e
answers_emptied i (messages.Inquiry tx) f e = e
answers_emptied i (messages.Ask tx) f e = e
answers_emptied i (messages.Close epoch) f e = e
answers_emptied i (messages.Install start) f e = e

copies_emptied : (up : Bool) (i : Inbox) (e : Envelope) (f : Fate) → up ≡ false → IsEmptied i
    → IsEmptied (with_copies up i e f)
copies_emptied up i e f down is = record {
  copies = ap (λ (es : List Envelope). es ++ if_up up (copies_at_once f e)) is.copies
      ∙ never_copied up (copies_at_once f e) down;
  unanswered = is.unanswered;
  lost = is.lost;
}

module _ (script : Script) (b : ℕ) where
  comes_emptied : (i : Inbox) (e : Envelope) → is_up i.up b ≡ false → IsEmptied i → IsEmptied (comes script.links b i e)
  comes_emptied i e down is =
      emptied_if (e.to == b) _ i
      (answers_emptied (with_copies (is_up i.up b) i e
      (fate script.links i.cuts e.from e.to (count_of i.from_each e.from + 1))) e.message
      (fate script.links i.cuts e.from e.to (count_of i.from_each e.from + 1))
      (copies_emptied (is_up i.up b) i e (fate script.links i.cuts e.from e.to (count_of i.from_each e.from + 1)) down
      is)) is

  -- a message of another goes by
  pub sent_emptied : (i : Inbox) (e : Envelope) → (e.from == b) ≡ false → is_up i.up b ≡ false → IsEmptied i
      → IsEmptied (goes script.links b (comes script.links b i e) e)
  sent_emptied i e other down is =
      let f : Fate = fate script.links (comes script.links b i e).cuts e.from e.to
      (count_of (comes script.links b i e).to_each e.to + 1) in
      subst (λ (t : Bool). IsEmptied (if t then goes_with (comes script.links b i e) e f else comes script.links b i e))
      (sym other) (comes_emptied i e down is)

  -- what a turn sends and tells leaves who is up and which lines are left; and it brings an actor that is down nothing

  pub record Passes (r : ℕ) (i j : Inbox) : Type 0 where
    pub up : j.up ≡ i.up
    pub controls : j.controls ≡ i.controls
    pub emptied : (r == b) ≡ false → is_up i.up b ≡ false → IsEmptied i → IsEmptied j

  abbrev pub after : Inbox → List Entry → Inbox
  after i k = fold (λ (i : Inbox) (e : Entry). inbox_at script b i e.actor e.step) i k

  pub told_up : (r : ℕ) (i : Inbox) (reply : Option Reply) → (after i (by r (told reply))).up ≡ i.up
  told_up r i None = refl
  told_up r i (Some reply) = at (r == b)
    where
      at : (t : Bool) → (if t then reply_told i else i).up ≡ i.up
      at true = refl
      at false = refl

  pub told_controls : (r : ℕ) (i : Inbox) (reply : Option Reply) → (after i (by r (told reply))).controls ≡ i.controls
  told_controls r i None = refl
  told_controls r i (Some reply) = at (r == b)
    where
      at : (t : Bool) → (if t then reply_told i else i).controls ≡ i.controls
      at true = refl
      at false = refl

  pub told_emptied : (r : ℕ) (i : Inbox) (reply : Option Reply) → IsEmptied i → IsEmptied (after i (by r (told reply)))
  told_emptied r i None is = is
  told_emptied r i (Some reply) is = emptied_if (r == b) (reply_told i) i
      (record { copies = is.copies; unanswered = is.unanswered; lost = is.lost }) is

  pub told_passes : (r : ℕ) (i : Inbox) (reply : Option Reply) → Passes r i (after i (by r (told reply)))
  told_passes r i reply = record {
    up = told_up r i reply;
    controls = told_controls r i reply;
    emptied = λ other down is. told_emptied r i reply is;
  }

  pub sents_pass : (r n : ℕ) (i : Inbox) (ps : List Posting) → Passes r i (after i (by r (sents n ps)))
  sents_pass r n i [] = record { up = refl; controls = refl; emptied = λ other down is. is }
  sents_pass r n i (p ∷ ps) =
      let e : Envelope = record { number = n; from = r; to = p.to; message = p.message } in
      let j : Inbox = goes script.links b (comes script.links b i e) e in
      let rest : Passes r j (after j (by r (sents (n + 1) ps))) = sents_pass r (n + 1) j ps in
      record {
        up = rest.up ∙ (sends_does script.links b i e).up;
        controls = rest.controls ∙ (sends_does script.links b i e).controls;
        emptied = λ other down is. rest.emptied other
            (ap (λ (up : List Bool). is_up up b) (sends_does script.links b i e).up ∙ down)
            (sent_emptied i e other down is);
      }

-- control lines

pub acted_up : (b : ℕ) (i : Inbox) → (control_acted b i).up ≡ i.up
acted_up b i = (opened_keeps b (acting i.up (drop 1 i.controls))
    (record i { controls = acting i.up (drop 1 i.controls) })).up

opened_by_emptied : (b : ℕ) (lines : List Control) (i : Inbox) → is_up i.up b ≡ false → IsEmptied i
    → IsEmptied (opened_by b lines i)
opened_by_emptied b [] i down is = record {
  copies = ap (λ (es : List Envelope). es ++ i.copies) (never_copied (is_up i.up b) i.opening down) ∙ is.copies;
  unanswered = is.unanswered;
  lost = is.lost;
}
opened_by_emptied b (line ∷ lines) i down is = is

pub opened_emptied : (b : ℕ) (i : Inbox) → is_up i.up b ≡ false → IsEmptied i → IsEmptied (opened b i)
opened_emptied b i down is =
    opened_by_emptied b (acting i.up i.controls) (record i { controls = acting i.up i.controls }) down
    (record { copies = is.copies; unanswered = is.unanswered; lost = is.lost })

pub acted_emptied : (b : ℕ) (i : Inbox) → is_up i.up b ≡ false → IsEmptied i → IsEmptied (control_acted b i)
acted_emptied b i down is = opened_emptied b (record i { controls = drop 1 i.controls }) down
    (record { copies = is.copies; unanswered = is.unanswered; lost = is.lost })

-- falls

pub fell_up : (b : ℕ) (i : Inbox) (r : ℕ) → (actor_fell b i r).up ≡ set i.up r false
fell_up b i r = at (r == b)
  where
    at : (t : Bool)
        → (emptied t (record i {
          up = set i.up r false;
          unanswered = requests_to_others r i.unanswered;
          lost = with_lost (requests_to r i.unanswered) i.lost;
        })).up ≡ set i.up r false
    at true = refl
    at false = refl

pub fell_controls : (b : ℕ) (i : Inbox) (r : ℕ) → (actor_fell b i r).controls ≡ i.controls
fell_controls b i r = at (r == b)
  where
    at : (t : Bool)
        → (emptied t (record i {
          up = set i.up r false;
          unanswered = requests_to_others r i.unanswered;
          lost = with_lost (requests_to r i.unanswered) i.lost;
        })).controls ≡ i.controls
    at true = refl
    at false = refl

-- who falls, and who is down already
pub fell_emptied : (b : ℕ) (i : Inbox) (r : ℕ) → ((r == b) ≡ false → IsEmptied i) → IsEmptied (actor_fell b i r)
fell_emptied b i r is = at (r == b) refl
  where
    at : (t : Bool) → (r == b) ≡ t → IsEmptied
        (emptied t (record i {
          up = set i.up r false;
          unanswered = requests_to_others r i.unanswered;
          lost = with_lost (requests_to r i.unanswered) i.lost;
        }))
    at true here = record { copies = refl; unanswered = refl; lost = refl }
    at false other = record {
      copies = (is other).copies;
      unanswered = ap (λ (rs : List SentRequest). requests_to_others r rs) (is other).unanswered;
      lost = ap (λ (rs : List SentRequest). with_lost (requests_to r rs) i.lost) (is other).unanswered
          ∙ (is other).lost;
    }
