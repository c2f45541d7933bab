-- A request that is awaited stays so as messages come and go.
use Rattle.std.proofs.Common.{[], ◌≡◌, ℕ, ◌+◌, ◌==◌, ◌&&◌, nat_lt, not, Bool, true, false, if◌then◌else◌, inl, inr}
use Rattle.std.proofs.Common.{List, ◌∷◌, ◌++◌, refl, sym, ap, subst, eqb-true}
use Rattle.std.specs.Option.{option_map_or}
use Rattle.qc_list.specs.Vocabulary.{In}
use Rattle.qc_list.proofs.Members.{In-filter, In-first, In-last, In-second}
use Rattle.qc_link.specs.Vocabulary.{fate}
use Rattle.qc_link.specs.declared.rule.Fate.{Fate}
use Rattle.qc_link.specs.declared.rule.Fate.TheVariants.{Pass, Drop, Twice, Late, Again}
use Rattle.qc_msg.specs.declared.message.Answer.{Answer}
use Rattle.qc_msg.specs.declared.message.Envelope.{Envelope}
use Rattle.qc_msg.specs.declared.message.Message.{Message}
use Rattle.qc_msg.specs.declared.message.Message.TheVariants as messages
use Rattle.qc_msg.specs.Vocabulary.{Answered}
use Rattle.qc_script.specs.declared.script.Script.{Script}
use Rattle.qc_script.specs.Vocabulary.{Inbox, SentRequest, answers_by, comes, comes_at_once, comes_with, copies_at_once}
use Rattle.qc_script.specs.Vocabulary.{count_of, everybody, goes, goes_with, has_request, is_request, is_up, one_more}
use Rattle.qc_script.specs.Vocabulary.{request_answered, request_numbers, request_sent, with_copies, with_number}
use Rattle.qc_script.specs.Vocabulary.{without_number, without_request}
use Rattle.qc_script.proofs.AllUp.{is_up-everybody}
use Rattle.qc_script.proofs.Requests.{added-number, without-numbers}
use Rattle.laws_turns.specs.Vocabulary.{HasAnswer, IsAnswerTo, IsAwaited}
use Rattle.laws_turns.proofs.MessageCases.{message_cases}

-- numbers

pub number_stays : (ns : List ℕ) (m n : ℕ) → In n ns → In n (with_number ns m)
number_stays [] m n member = absurd member
number_stays (x ∷ ns) m n member = at (nat_lt m x) (λ rest. number_stays ns m n rest) member
  where
    at : (t : Bool) → (In n ns → In n (with_number ns m)) → In n (x ∷ ns)
        → In n (if t then m ∷ x ∷ ns else x ∷ with_number ns m)
    at true more is = inr is
    at false more (inl same) = inl same
    at false more (inr rest) = inr (more rest)

pub number_added : (ns : List ℕ) (n : ℕ) → In n (with_number ns n)
number_added [] n = inl refl
number_added (x ∷ ns) n = at (nat_lt n x) (number_added ns n)
  where
    at : (t : Bool) → In n (with_number ns n) → In n (if t then n ∷ x ∷ ns else x ∷ with_number ns n)
    at true more = inl refl
    at false more = inr more

pub number_left : (ns : List ℕ) (m n : ℕ) → (n == m) ≡ false → In n ns → In n (without_number ns m)
number_left ns m n other member = In-filter (λ (x : ℕ). not (x == m)) n ns member (ap not other)

pub request_left : (rs : List SentRequest) (m n : ℕ) → (n == m) ≡ false → In n (request_numbers rs)
    → In n (request_numbers (without_request rs m))
request_left rs m n other member =
    subst (In n) (sym (without-numbers rs m)) (number_left (request_numbers rs) m n other member)

-- copies

pub answer_first : (n : ℕ) (xs ys : List Envelope) → HasAnswer n xs → HasAnswer n (xs ++ ys)
answer_first n xs ys has =
    record { envelope = has.envelope; member = In-first has.envelope xs ys has.member; answers = has.answers }

pub answer_second : (n : ℕ) (xs ys : List Envelope) → HasAnswer n ys → HasAnswer n (xs ++ ys)
answer_second n xs ys has =
    record { envelope = has.envelope; member = In-second has.envelope xs ys has.member; answers = has.answers }

pub at_once : (f : Fate) (e : Envelope) → comes_at_once f ≡ true → In e (copies_at_once f e)
at_once Pass e is = inl refl
at_once Drop e is = absurd (let never : ⊥ = cc in never)
at_once Twice e is = inl refl
at_once Late e is = absurd (let never : ⊥ = cc in never)
at_once Again e is = inl refl

-- which of two inboxes
pub awaited_if : (n : ℕ) (t : Bool) (i j : Inbox) → IsAwaited n i → IsAwaited n j → IsAwaited n (if t then i else j)
awaited_if n true i j here there = here
awaited_if n false i j here there = there

-- the same numbers, and no copy less
pub awaited_more : (n : ℕ) (i j : Inbox) → j.lost ≡ i.lost → j.unanswered ≡ i.unanswered
    → (HasAnswer n i.copies → HasAnswer n j.copies) → IsAwaited n i → IsAwaited n j
awaited_more n i j lost unanswered copies (inl is) = inl (subst (In n) (sym lost) is)
awaited_more n i j lost unanswered copies (inr (inl is)) =
    inr (inl (subst (λ (rs : List SentRequest). In n (request_numbers rs)) (sym unanswered) is))
awaited_more n i j lost unanswered copies (inr (inr has)) = inr (inr (copies has))

-- a message comes

awaited_copies : (n : ℕ) (i : Inbox) (e : Envelope) (f : Fate) → IsAwaited n i → IsAwaited n (with_copies true i e f)
awaited_copies n i e f is =
    awaited_more n i (with_copies true i e f) refl refl (answer_first n i.copies (copies_at_once f e)) is

-- an answer: a copy of it is ready, or the request is lost
pub awaited_answered : (n to : ℕ) (i : Inbox) (f : Fate) → (comes_at_once f ≡ true → n ≡ to → HasAnswer n i.copies)
    → IsAwaited n i → IsAwaited n (request_answered i to f)
awaited_answered n to i f copied is = at (has_request i.unanswered to) (comes_at_once f) (n == to) refl refl is
  where
    at : (among once same : Bool) → comes_at_once f ≡ once → (n == to) ≡ same → IsAwaited n i
        → IsAwaited n
        (if among then record i
        { unanswered = without_request i.unanswered to; lost = if once then i.lost else with_number i.lost to }
        else i)
    at false once same is_once is_same awaited = awaited
    at true true same is_once is_same (inl lost) = inl lost
    at true false same is_once is_same (inl lost) = inl (number_stays i.lost to n lost)
    at true true true is_once is_same (inr (inl open_still)) = inr (inr (copied is_once (eqb-true n to is_same)))
    at true true false is_once is_same (inr (inl open_still)) =
        inr (inl (request_left i.unanswered to n is_same open_still))
    at true false true is_once is_same (inr (inl open_still)) =
        inl (subst (λ (k : ℕ). In k (with_number i.lost to)) (sym (eqb-true n to is_same)) (number_added i.lost to))
    at true false false is_once is_same (inr (inl open_still)) =
        inr (inl (request_left i.unanswered to n is_same open_still))
    at true true same is_once is_same (inr (inr has)) = inr (inr has)
    at true false same is_once is_same (inr (inr has)) = inr (inr has)

comes_answer : (n : ℕ) (i : Inbox) (e : Envelope) (f : Fate) (to : ℕ) (answer : Answer)
    → e.message ≡ messages.Answer to answer → comes_at_once f ≡ true → n ≡ to
    → HasAnswer n (with_copies true i e f).copies
comes_answer n i e f to answer is once same = record {
  envelope = e;
  member = In-second e i.copies (copies_at_once f e) (at_once f e once);
  answers = subst (IsAnswerTo n) (sym is) (sym same);
}

pub awaited_comes_with : (n : ℕ) (i : Inbox) (e : Envelope) (f : Fate) → IsAwaited n i
    → IsAwaited n (comes_with true i e f)
awaited_comes_with n i e f is = at e.message refl
  where
    at : (m : Message) → e.message ≡ m → IsAwaited n (answers_by (with_copies true i e f) m f)
    at m same =
        message_cases
        (λ m r a d x. e.message ≡ m → IsAwaited n
        (option_map_or (λ (x : Answered). request_answered (with_copies true i e f) x.to f) a (with_copies true i e f)))
        (λ q same. awaited_copies n i e f is)
        (λ a same. awaited_answered n a.to (with_copies true i e f) f (comes_answer n i e f a.to a.answer same)
        (awaited_copies n i e f is))
        (λ v same. awaited_copies n i e f is) (λ tx same. awaited_copies n i e f is)
        (λ m same. awaited_copies n i e f is) m same

-- a message goes

pub awaited_sent : (n number to : ℕ) (i : Inbox) (f : Fate) → IsAwaited n i → IsAwaited n (request_sent i number to f)
awaited_sent n number to i f is = at (comes_at_once f && is_up i.up to) is
  where
    at : (once : Bool) → IsAwaited n i
        → IsAwaited n
        (if once then record i { unanswered = i.unanswered ++ record { number = number; to = to } ∷ [] } else record i
        { lost = with_number i.lost number })
    at true (inl lost) = inl lost
    at true (inr (inl open_still)) =
        inr (inl (subst (In n) (sym (added-number i.unanswered (record { number = number; to = to })))
        (In-first n (request_numbers i.unanswered) (number ∷ []) open_still)))
    at true (inr (inr has)) = inr (inr has)
    at false (inl lost) = inl (number_stays i.lost number n lost)
    at false (inr rest) = inr rest

pub awaited_asked : (number to : ℕ) (i : Inbox) (f : Fate) → IsAwaited number (request_sent i number to f)
awaited_asked number to i f = at (comes_at_once f && is_up i.up to)
  where
    at : (once : Bool)
        → IsAwaited number
        (if once then record i { unanswered = i.unanswered ++ record { number = number; to = to } ∷ [] } else record i
        { lost = with_number i.lost number })
    at true =
        inr (inl (subst (In number) (sym (added-number i.unanswered (record { number = number; to = to })))
        (In-last number (request_numbers i.unanswered))))
    at false = inl (number_added i.lost number)

counted : (n : ℕ) (i : Inbox) (to : ℕ) → IsAwaited n i → IsAwaited n (record i { to_each = one_more i.to_each to })
counted n i to is = awaited_more n i (record i { to_each = one_more i.to_each to }) refl refl (λ has. has) is

pub awaited_goes_with : (n : ℕ) (i : Inbox) (e : Envelope) (f : Fate) → IsAwaited n i → IsAwaited n (goes_with i e f)
awaited_goes_with n i e f is =
    awaited_if n (is_request e.message) _ _
    (awaited_sent n e.number e.to (record i { to_each = one_more i.to_each e.to }) f (counted n i e.to is))
    (counted n i e.to is)

module _ (script : Script) (a : ℕ) where
  pub awaited_message : (n : ℕ) (i : Inbox) (e : Envelope) → i.up ≡ everybody → IsAwaited n i
      → IsAwaited n (goes script.links a (comes script.links a i e) e)
  awaited_message n i e up is =
      awaited_if n (e.from == a) _ (comes script.links a i e)
      (awaited_goes_with n (comes script.links a i e) e
      (fate script.links (comes script.links a i e).cuts e.from e.to
      (count_of (comes script.links a i e).to_each e.to + 1)) came) came
    where
      came : IsAwaited n (comes script.links a i e)
      came = awaited_if n (e.to == a) _ i
          (subst (λ (t : Bool). IsAwaited n
          (comes_with t i e (fate script.links i.cuts e.from e.to (count_of i.from_each e.from + 1))))
          (sym (is_up-everybody i.up a up))
          (awaited_comes_with n i e (fate script.links i.cuts e.from e.to (count_of i.from_each e.from + 1)) is)) is
