-- What an actor waits for are its own requests, as messages come and go.
use Rattle.std.proofs.Common.{[], ◌≡◌, ℕ, ◌+◌, ◌-◌, ◌==◌, ◌&&◌, ◌||◌, nat_lt, Bool, true, false, if◌then◌else◌, List}
use Rattle.std.proofs.Common.{◌∷◌, ◌++◌, refl, subst, eqb-true}
use Rattle.std.specs.Prelude.{drop}
use Rattle.std.specs.List.{AllByRecursion as Every}
use Rattle.qc_link.specs.Vocabulary.{fate}
use Rattle.qc_link.specs.declared.plan.Link.{Link}
use Rattle.qc_link.specs.declared.rule.Fate.{Fate}
use Rattle.qc_list.proofs.Members.{In-first, In-last, every-append, every-weaker, every-filter}
use Rattle.qc_msg.specs.declared.message.Envelope.{Envelope}
use Rattle.qc_msg.specs.declared.message.Message.{Message}
use Rattle.qc_msg.specs.declared.message.Message.TheVariants as messages
use Rattle.qc_script.specs.Vocabulary.{Inbox, SentRequest, answers_by, comes, comes_at_once, count_of, goes}
use Rattle.qc_script.specs.Vocabulary.{has_request, is_request, is_up, one_more, request_answered, request_sent}
use Rattle.qc_script.specs.Vocabulary.{with_copies, with_lost, with_number, without_request}
use Rattle.qc_mailbox.specs.Vocabulary.{IsOwnRequest}

abbrev pub IsOwn : List Envelope → ℕ → SentRequest → Type 0
IsOwn ms a r = IsOwnRequest ms a r.number

pub record Owns (ms : List Envelope) (a : ℕ) (i : Inbox) : Type 0 where
  pub unanswered : Every (IsOwn ms a) i.unanswered
  pub lost : Every (IsOwnRequest ms a) i.lost

pub owns_if : (ms : List Envelope) (a : ℕ) (t : Bool) (i j : Inbox) → Owns ms a i → Owns ms a j
    → Owns ms a (if t then i else j)
owns_if ms a true i j here there = here
owns_if ms a false i j here there = there

more_owned : (ms ns : List Envelope) (a n : ℕ) → IsOwnRequest ms a n → IsOwnRequest (ms ++ ns) a n
more_owned ms ns a n is =
    record {
      envelope = is.envelope;
      member = In-first is.envelope ms ns is.member;
      number_is = is.number_is;
      from_is = is.from_is;
      asks = is.asks;
    }

pub owns_more : (ms ns : List Envelope) (a : ℕ) (i : Inbox) → Owns ms a i → Owns (ms ++ ns) a i
owns_more ms ns a i o = record {
  unanswered =
      every-weaker (IsOwn ms a) (IsOwn (ms ++ ns) a) (λ r is. more_owned ms ns a r.number is) i.unanswered o.unanswered;
  lost = every-weaker (IsOwnRequest ms a) (IsOwnRequest (ms ++ ns) a) (λ n is. more_owned ms ns a n is) i.lost o.lost;
}

-- lists

every_number : (P : ℕ → Type 0) (ns : List ℕ) (n : ℕ) → Every P ns → P n → Every P (with_number ns n)
every_number P [] n all is = (is, tt)
every_number P (m ∷ ns) n all is = at (nat_lt n m) (every_number P ns n all.1 is)
  where
    at : (t : Bool) → Every P (with_number ns n) → Every P (if t then n ∷ m ∷ ns else m ∷ with_number ns n)
    at true rest = (is, all)
    at false rest = (all.0, rest)

pub every_lost : (P : ℕ → Type 0) (rs : List SentRequest) (ns : List ℕ) → Every (λ (r : SentRequest). P r.number) rs
    → Every P ns → Every P (with_lost rs ns)
every_lost P [] ns requests all = all
every_lost P (r ∷ rs) ns requests all =
    every_lost P rs (with_number ns r.number) requests.1 (every_number P ns r.number all requests.0)

pub every_drop : (P : ℕ → Type 0) (ns : List ℕ) → Every P ns → Every P (drop 1 ns)
every_drop P [] all = all
every_drop P (n ∷ ns) all = all.1

-- messages

module _ (ms : List Envelope) (a : ℕ) where
  asked_of : (rs : List SentRequest) (n : ℕ) → Every (IsOwn ms a) rs → has_request rs n ≡ true → IsOwnRequest ms a n
  asked_of [] n all is = absurd (let never : ⊥ = cc in never)
  asked_of (r ∷ rs) n all is = at (r.number == n) refl (asked_of rs n all.1) is
    where
      at : (t : Bool) → (r.number == n) ≡ t → (has_request rs n ≡ true → IsOwnRequest ms a n)
          → (t || has_request rs n) ≡ true → IsOwnRequest ms a n
      at true same later found = subst (IsOwnRequest ms a) (eqb-true r.number n same) all.0
      at false other later found = later found

  owns_answered : (i : Inbox) (number : ℕ) (f : Fate) → Owns ms a i → Owns ms a (request_answered i number f)
  owns_answered i number f o = at (has_request i.unanswered number) refl
    where
      lost : (t : Bool) → IsOwnRequest ms a number
          → Every (IsOwnRequest ms a) (if t then i.lost else with_number i.lost number)
      lost true is = o.lost
      lost false is = every_number (IsOwnRequest ms a) i.lost number o.lost is

      at : (t : Bool) → has_request i.unanswered number ≡ t
          → Owns ms a
          (if t then record i {
            unanswered = without_request i.unanswered number;
            lost = if comes_at_once f then i.lost else with_number i.lost number;
          } else i)
      at true is =
          record {
            unanswered = every-filter (IsOwn ms a) _ i.unanswered o.unanswered;
            lost = lost (comes_at_once f) (asked_of i.unanswered number o.unanswered is);
          }
      at false is = o

  owns_answers : (i : Inbox) (m : Message) (f : Fate) → Owns ms a i → Owns ms a (answers_by i m f)
  owns_answers i (messages.Request tx epoch life want) f o = o
  owns_answers i (messages.Answer to answer) f o = owns_answered i to f o
  owns_answers i (messages.Decision tx verdict) f o = o
  owns_answers i (messages.Inquiry tx) f o = o
  owns_answers i (messages.Ask tx) f o = o
  owns_answers i (messages.Close epoch) f o = o
  owns_answers i (messages.Install start) f o = o

  owns_comes : (links : List Link) (i : Inbox) (e : Envelope) → Owns ms a i → Owns ms a (comes links a i e)
  owns_comes links i e o =
      owns_if ms a (e.to == a) _ i
      (owns_answers (with_copies (is_up i.up a) i e (fate links i.cuts e.from e.to (count_of i.from_each e.from + 1)))
      e.message (fate links i.cuts e.from e.to (count_of i.from_each e.from + 1))
      (record { unanswered = o.unanswered; lost = o.lost })) o

  owns_sent : (i : Inbox) (number to : ℕ) (f : Fate) → IsOwnRequest ms a number → Owns ms a i
      → Owns ms a (request_sent i number to f)
  owns_sent i number to f is o =
      owns_if ms a (comes_at_once f && is_up i.up to) _ _
      (record {
        unanswered =
            every-append (IsOwn ms a) i.unanswered (record { number = number; to = to } ∷ []) o.unanswered (is, tt);
        lost = o.lost;
      })
      (record { unanswered = o.unanswered; lost = every_number (IsOwnRequest ms a) i.lost number o.lost is })

pub owns_message : (links : List Link) (ms : List Envelope) (a : ℕ) (i : Inbox) (e : Envelope) → Owns ms a i
    → Owns (ms ++ e ∷ []) a (goes links a (comes links a i e) e)
owns_message links ms a i e o = at (e.from == a) refl (is_request e.message) refl
  where
    j : Inbox
    j = comes links a i e

    f : Fate
    f = fate links (comes links a i e).cuts e.from e.to (count_of (comes links a i e).to_each e.to + 1)

    came : Owns (ms ++ e ∷ []) a (comes links a i e)
    came = owns_comes (ms ++ e ∷ []) a links i e (owns_more ms (e ∷ []) a i o)

    at : (t : Bool) → (e.from == a) ≡ t → (q : Bool) → is_request e.message ≡ q
        → Owns (ms ++ e ∷ []) a
        (if t then
        (if q then request_sent (record j { to_each = one_more j.to_each e.to }) e.number e.to f else record j
        { to_each = one_more j.to_each e.to }) else j)
    at true mine true asks =
        owns_sent (ms ++ e ∷ []) a (record j { to_each = one_more j.to_each e.to }) e.number e.to f
        (record {
          envelope = e;
          member = In-last e ms;
          number_is = refl;
          from_is = eqb-true e.from a mine;
          asks = asks;
        })
        (record { unanswered = came.unanswered; lost = came.lost })
    at true mine false silent = record { unanswered = came.unanswered; lost = came.lost }
    at false other q is = came
