-- What changes in an inbox changes in its tray.
use Rattle.std.proofs.Common.{◌≡◌, ℕ, ◌&&◌, Bool, true, false, if◌then◌else◌, List, [], ◌∷◌, ◌++◌, refl, ap, sym, ◌∙◌}
use Rattle.std.proofs.Common.{append_assoc}
use Rattle.std.proofs.lemmas.List.{append-nil, map-append}
use Rattle.qc_link.specs.declared.rule.Fate.{Fate}
use Rattle.qc_link.specs.declared.rule.Fate.TheVariants.{Pass, Drop, Twice, Late, Again}
use Rattle.qc_msg.specs.declared.message.Envelope.{Envelope}
use Rattle.qc_msg.specs.declared.message.Message.{Message}
use Rattle.qc_msg.specs.declared.message.Message.TheVariants as messages
use Rattle.qc_script.specs.Vocabulary.{Inbox, answers_by, comes_at_once, comes_with, goes_with, has_request, is_request}
use Rattle.qc_script.specs.Vocabulary.{is_up, one_more, request_answered, request_sent, with_copies, with_number}
use Rattle.qc_script.specs.Vocabulary.{without_request}
use Rattle.qc_mailbox.specs.Vocabulary.{Tray, numbers_of, tray_answered, tray_answered_by, tray_asks, tray_comes}
use Rattle.qc_mailbox.specs.Vocabulary.{tray_goes, tray_lost_unless, tray_of, tray_with_copies}

-- numbers of copies

pub numbers-append : (es fs : List Envelope) → numbers_of (es ++ fs) ≡ numbers_of es ++ numbers_of fs
numbers-append es fs = map-append (λ (e : Envelope). e.number) es fs

numbers-none : (es : List Envelope) → numbers_of (es ++ []) ≡ numbers_of es
numbers-none es = ap (λ (x : List Envelope). numbers_of x) (append-nil es)

numbers-two : (es : List Envelope) (e : Envelope)
    → numbers_of (es ++ e ∷ e ∷ []) ≡ (numbers_of es ++ e.number ∷ []) ++ e.number ∷ []
numbers-two es e = numbers-append es (e ∷ e ∷ []) ∙ sym (append_assoc (numbers_of es) (e.number ∷ []) (e.number ∷ []))

copies_shown : (calls : ℕ) (up : Bool) (i : Inbox) (e : Envelope) (f : Fate)
    → tray_of calls (with_copies up i e f) ≡ tray_with_copies up (tray_of calls i) e.number f
copies_shown calls true i e Pass = λ j. record
    (tray_of calls i) { copies = numbers-append i.copies (e ∷ []) j; late = numbers-none i.late j }
copies_shown calls true i e Drop = λ j. record
    (tray_of calls i) { copies = numbers-none i.copies j; late = numbers-none i.late j }
copies_shown calls true i e Twice = λ j. record
    (tray_of calls i) { copies = numbers-two i.copies e j; late = numbers-none i.late j }
copies_shown calls true i e Late = λ j. record
    (tray_of calls i) { copies = numbers-none i.copies j; late = numbers-append i.late (e ∷ []) j }
copies_shown calls true i e Again = λ j. record
    (tray_of calls i) { copies = numbers-append i.copies (e ∷ []) j; late = numbers-append i.late (e ∷ []) j }
copies_shown calls false i e Pass = λ j. record
    (tray_of calls i) { copies = numbers-none i.copies j; late = numbers-none i.late j }
copies_shown calls false i e Drop = λ j. record
    (tray_of calls i) { copies = numbers-none i.copies j; late = numbers-none i.late j }
copies_shown calls false i e Twice = λ j. record
    (tray_of calls i) { copies = numbers-none i.copies j; late = numbers-none i.late j }
copies_shown calls false i e Late = λ j. record
    (tray_of calls i) { copies = numbers-none i.copies j; late = numbers-append i.late (e ∷ []) j }
copies_shown calls false i e Again = λ j. record
    (tray_of calls i) { copies = numbers-none i.copies j; late = numbers-append i.late (e ∷ []) j }

answered_shown : (calls : ℕ) (i : Inbox) (number : ℕ) (f : Fate)
    → tray_of calls (request_answered i number f) ≡ tray_answered (tray_of calls i) number f
answered_shown calls i number f = by (has_request i.unanswered number)
  where
    lost : (t : Bool)
        → tray_of calls (record i {
          unanswered = without_request i.unanswered number;
          lost = if t then i.lost else with_number i.lost number;
        })
        ≡ tray_lost_unless t (record (tray_of calls i) { unanswered = without_request i.unanswered number }) number
    lost true = refl
    lost false = refl

    by : (t : Bool)
        → tray_of calls (if t then record i {
          unanswered = without_request i.unanswered number;
          lost = if comes_at_once f then i.lost else with_number i.lost number;
        } else i)
        ≡ (if t then tray_lost_unless (comes_at_once f)
        (record (tray_of calls i) { unanswered = without_request i.unanswered number }) number else tray_of calls i)
    by true = lost (comes_at_once f)
    by false = refl

answers_shown : (calls : ℕ) (i : Inbox) (m : Message) (f : Fate)
    → tray_of calls (answers_by i m f) ≡ tray_answered_by (tray_of calls i) m f
answers_shown calls i (messages.Request tx epoch life want) f = refl
answers_shown calls i (messages.Answer to answer) f = answered_shown calls i to f
answers_shown calls i (messages.Decision tx verdict) f = refl
answers_shown calls i (messages.Inquiry tx) f = refl
answers_shown calls i (messages.Ask tx) f = refl
answers_shown calls i (messages.Close epoch) f = refl
answers_shown calls i (messages.Install start) f = refl

pub comes_shown : (calls : ℕ) (up : Bool) (i : Inbox) (e : Envelope) (f : Fate)
    → tray_of calls (comes_with up i e f) ≡ tray_comes up (tray_of calls i) e.number e.message f
comes_shown calls up i e f =
    answers_shown calls (with_copies up i e f) e.message f
    ∙ ap (λ (t : Tray). tray_answered_by t e.message f) (copies_shown calls up i e f)

pub goes_shown : (calls : ℕ) (i : Inbox) (e : Envelope) (f : Fate)
    → tray_of calls (goes_with i e f) ≡ tray_goes (is_up i.up e.to) (tray_of calls i) e.number e.to e.message f
goes_shown calls i e f = by (is_request e.message)
  where
    asks : (t : Bool)
        → tray_of calls (if t then record i {
          to_each = one_more i.to_each e.to;
          unanswered = i.unanswered ++ record { number = e.number; to = e.to } ∷ [];
        } else record i
        { to_each = one_more i.to_each e.to; lost = with_number i.lost e.number })
        ≡ tray_asks t (tray_of calls i) e.number e.to
    asks true = refl
    asks false = refl

    by : (t : Bool)
        → tray_of calls (if t then request_sent (record i { to_each = one_more i.to_each e.to }) e.number e.to f else
        record i { to_each = one_more i.to_each e.to })
        ≡ (if t then tray_asks (comes_at_once f && is_up i.up e.to)
        (tray_of calls i) e.number e.to else tray_of calls i)
    by true = asks (comes_at_once f && is_up i.up e.to)
    by false = refl
