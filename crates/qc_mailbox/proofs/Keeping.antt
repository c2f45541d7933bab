-- Each step of a history keeps what is kept: what all of them have in common, and messages.
use Rattle.std.proofs.Common.{◌*◌, ◌≡◌, ℕ, zero, suc, ◌+◌, ◌<◌, List, [], ◌∷◌, ◌++◌, length, Option, Some, None, refl}
use Rattle.std.proofs.Common.{ap, sym, subst, ◌∙◌, arith, length-append}
use Rattle.std.specs.Prelude.{slice_get}
use Rattle.std.specs.List.{cons_option}
use Rattle.std.proofs.lemmas.List.{append-nil, get_or-replicate, length-set}
use Rattle.std.proofs.lemmas.List.Elements.{filter_map-append}
use Rattle.std.proofs.lemmas.List.Sums.{fold-append}
use Rattle.qc_link.specs.declared.plan.Link.{Link}
use Rattle.qc_list.proofs.Members.{every-append}
use Rattle.qc_msg.specs.declared.message.Envelope.{Envelope}
use Rattle.qc_msg.specs.declared.step.Step.TheVariants.{Sent}
use Rattle.qc_msg.specs.declared.turn.Posting.{Posting}
use Rattle.qc_msg.specs.Vocabulary.{Entry, envelope_of, mail, marked}
use Rattle.qc_script.specs.Vocabulary.{Inbox, comes, empty_inbox, goes, inbox, inbox_at}
use Rattle.qc_script.specs.declared.script.Script.{Script}
use Rattle.qc_mailbox.specs.Vocabulary.{AreBetweenActors, AreNumbered, Inboxes, IsKept, Shows, Tally, after_send}
use Rattle.qc_mailbox.specs.Vocabulary.{calls_at, calls_of, empty_inboxes, empty_tray, place}
use Rattle.qc_mailbox.proofs.Counting.{place_within}
use Rattle.qc_mailbox.proofs.Shipping.{sending_shown}
use Rattle.qc_link.specs.Vocabulary.{most_actors}

-- an inbox, and a count of calls, after one entry more

pub inbox_after : (script : Script) (a : ℕ) (h : List Entry) (e : Entry)
    → inbox script a (h ++ e ∷ []) ≡ inbox_at script a (inbox script a h) e.actor e.step
inbox_after script a h e = fold-append (λ (i : Inbox) (x : Entry). inbox_at script a i x.actor x.step) empty_inbox h
    (e ∷ [])

pub calls_after : (a : ℕ) (h : List Entry) (e : Entry)
    → calls_of a (h ++ e ∷ []) ≡ calls_at a (calls_of a h) e.actor e.step
calls_after a h e = fold-append (λ (calls : ℕ) (x : Entry). calls_at a calls x.actor x.step) 0 h (e ∷ [])

pub shows_along : (kept : Inboxes) (a m n : ℕ) (i j : Inbox) → m ≡ n → i ≡ j → Shows kept a m i → Shows kept a n j
shows_along kept a m n i j calls box shows =
    subst (λ (x : Inbox). Shows kept a n x) box (subst (λ (k : ℕ). Shows kept a k i) calls shows)

-- an entry more, where each inbox is shown after it
after_entry : (script : Script) (h : List Entry) (e : Entry) (kept : Inboxes) (a : ℕ)
    → Shows kept a (calls_at a (calls_of a h) e.actor e.step) (inbox_at script a (inbox script a h) e.actor e.step)
    → Shows kept a (calls_of a (h ++ e ∷ [])) (inbox script a (h ++ e ∷ []))
after_entry script h e kept a shows =
    shows_along kept a _ _ _ _ (sym (calls_after a h e)) (sym (inbox_after script a h e)) shows

-- messages

mail_after : (h : List Entry) (e : Entry) → mail (h ++ e ∷ []) ≡ mail h ++ mail (e ∷ [])
mail_after h e = filter_map-append envelope_of h (e ∷ [])

none_more : (e : Entry) → envelope_of e ≡ None → mail (e ∷ []) ≡ []
none_more e none = ap (λ (o : Option Envelope). cons_option o []) none

pub same_mail : (h : List Entry) (e : Entry) → envelope_of e ≡ None → mail (h ++ e ∷ []) ≡ mail h
same_mail h e none = mail_after h e ∙ (ap (λ (ms : List Envelope). mail h ++ ms) (none_more e none)
    ∙ append-nil (mail h))

-- a step that sends nothing
pub kept_step : (script : Script) (h : List Entry) (e : Entry) (old new : Inboxes) → IsKept script h old
    → envelope_of e ≡ None
    → new.links ≡ old.links → new.counts ≡ old.counts → length new.up ≡ most_actors → length new.trays ≡ most_actors
    → ((a : ℕ) → a < most_actors → Shows old a (calls_of a h) (inbox script a h)
    → Shows new a (calls_at a (calls_of a h) e.actor e.step) (inbox_at script a (inbox script a h) e.actor e.step))
    → IsKept script (h ++ e ∷ []) new
kept_step script h e old new kept none links counts ups trays each = record {
  links = links ∙ kept.links;
  sent = ap (λ (t : Tally). t.all) counts ∙
      (kept.sent ∙ ap (λ (ms : List Envelope). length ms) (sym (same_mail h e none)));
  numbered = subst AreNumbered (sym (same_mail h e none)) kept.numbered;
  ends = subst AreBetweenActors (sym (same_mail h e none)) kept.ends;
  counts = ap (λ (t : Tally). length t.each) counts ∙ kept.counts;
  ups = ups;
  trays = trays;
  inboxes = λ a within. after_entry script h e new a (each a within (kept.inboxes a within));
}

-- a message more has its number

numbered_from : (k : ℕ) (ms : List Envelope) (e : Envelope)
    → ((n : ℕ) (f : Envelope) → slice_get ms n ≡ Some f → f.number ≡ k + n) → e.number ≡ k + length ms
    → (n : ℕ) (f : Envelope) → slice_get (ms ++ e ∷ []) n ≡ Some f → f.number ≡ k + n
numbered_from k [] e before is zero f found =
    let same : e ≡ f = cc in
    ap (λ (x : Envelope). x.number) (sym same) ∙ is
numbered_from k [] e before is (suc n) f found = absurd (let never : ⊥ = cc in never)
numbered_from k (m ∷ ms) e before is zero f found = before zero f found
numbered_from k (m ∷ ms) e before is (suc n) f found =
    let after : (j : ℕ) (g : Envelope) → slice_get ms j ≡ Some g → g.number ≡ (k + 1) + j =
    λ j g at. let there : g.number ≡ k + suc j = before (suc j) g at in omega arith in
    let long : e.number ≡ (k + 1) + length ms = let long : e.number ≡ k + suc (length ms) = is in omega arith in
    let there : f.number ≡ (k + 1) + n = numbered_from (k + 1) ms e after long n f found in
    omega arith

pub numbered_more : (ms : List Envelope) (e : Envelope) → AreNumbered ms → e.number ≡ length ms
    → AreNumbered (ms ++ e ∷ [])
numbered_more ms e before is n f found =
    let after : (j : ℕ) (g : Envelope) → slice_get ms j ≡ Some g
    → g.number ≡ 0 + j = λ j g at. let there : g.number ≡ j = before j g at in omega arith in
    let long : e.number ≡ 0 + length ms = omega arith in
    let there : f.number ≡ 0 + n = numbered_from 0 ms e after long n f found in
    omega arith

-- a message is sent
pub kept_send : (script : Script) (h : List Entry) (old : Inboxes) (from : ℕ) (p : Posting) → IsKept script h old
    → from < most_actors → p.to < most_actors
    → IsKept script (h ++ marked from (Sent old.counts.all p.to p.message) ∷ []) (after_send old from p)
kept_send script h old from p kept from_within to_within = record {
  links = kept.links;
  sent =
      ap (λ (n : ℕ). n + 1) kept.sent
      ∙ sym (ap (λ (ms : List Envelope). length ms) (mail_after h sends) ∙ length-append (mail h) (mail (sends ∷ [])));
  numbered = subst AreNumbered (sym (mail_after h sends))
      (numbered_more (mail h) (record { number = old.counts.all; from = from; to = p.to; message = p.message })
      kept.numbered kept.sent);
  ends = subst AreBetweenActors (sym (mail_after h sends))
      (every-append (λ (e : Envelope). (e.from < most_actors) × (e.to < most_actors)) (mail h)
      (record { number = old.counts.all; from = from; to = p.to; message = p.message } ∷ []) kept.ends
      ((from_within, to_within), tt));
  counts = length-set old.counts.each _ _ ∙ kept.counts;
  ups = kept.ups;
  trays = length-set _ from _ ∙ (length-set old.trays p.to _ ∙ kept.trays);
  inboxes = λ a within. after_entry script h sends (after_send old from p) a
      (subst (λ (links : List Link). Shows (after_send old from p) a (calls_of a h)
      (goes links a (comes links a (inbox script a h)
      (record { number = old.counts.all; from = from; to = p.to; message = p.message }))
      (record { number = old.counts.all; from = from; to = p.to; message = p.message })))
      kept.links
      (sending_shown old a (calls_of a h) (inbox script a h) from p
      (kept.inboxes a within) within from_within to_within kept.trays kept.counts));
}
  where
    sends : Entry
    sends = marked from (Sent old.counts.all p.to p.message)

-- before the first step
pub new_trays_are_kept : (script : Script) → IsKept script [] (empty_inboxes script)
new_trays_are_kept script = record {
  links = refl;
  sent = refl;
  numbered = λ n e found. absurd (let never : ⊥ = cc in never);
  ends = tt;
  counts = refl;
  ups = refl;
  trays = refl;
  inboxes = λ a within. record {
    cuts = refl;
    up = refl;
    controls = refl;
    from_each = λ b b_within. get_or-replicate most_actors b 0 0 b_within
        ∙ sym (get_or-replicate (most_actors * most_actors) (place b a) 0 0 (place_within b a b_within within));
    to_each = λ b b_within. get_or-replicate most_actors b 0 0 b_within
        ∙ sym (get_or-replicate (most_actors * most_actors) (place a b) 0 0 (place_within a b within b_within));
    from_length = refl;
    to_length = refl;
    tray = get_or-replicate most_actors a empty_tray empty_tray within;
  };
}
