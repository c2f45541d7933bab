-- A request that is awaited stays so through each message that comes or goes; requests to who falls are lost.
use Rattle.std.proofs.Common.{[], ◌≡◌, ℕ, ◌==◌, ◌⊎◌, not, Bool, true, false, cond, if◌then◌else◌, inl, inr, List}
use Rattle.std.proofs.Common.{◌∷◌, refl, sym, subst, Option, Some}
use Rattle.std.specs.Prelude.{MatchOption}
use Rattle.qc_list.specs.Vocabulary.{In}
use Rattle.qc_list.proofs.Members.{In-second}
use Rattle.laws_turns.specs.Vocabulary.{HasAnswer, IsAwaited}
use Rattle.laws_turns.proofs.AwaitedCopies.{at_once, number_added, number_stays, answer_first, awaited_more}
use Rattle.qc_link.specs.declared.rule.Fate.{Fate}
use Rattle.qc_msg.specs.declared.message.Envelope.{Envelope}
use Rattle.qc_msg.specs.declared.step.Step.{Step}
use Rattle.qc_script.specs.declared.script.Script.{Script}
use Rattle.qc_script.specs.Vocabulary.{Inbox, SentRequest, comes_at_once, copies_at_once, if_up, request_numbers}
use Rattle.qc_script.specs.Vocabulary.{requests_to, requests_to_others, with_copies, with_lost, with_number}
use Rattle.qc_msg.specs.Vocabulary.{Fallen, fell_in, wrote_in, Answered, answer_in}
use Rattle.qc_msg.specs.declared.record.Record.{Record}
use Rattle.std.specs.Prelude.{set}
use Rattle.std.proofs.lemmas.Bool.{eqb-false}
use Rattle.std.proofs.lemmas.List.{get_or-set_other}
use Rattle.qc_script.specs.Vocabulary.{is_up}
use Rattle.qc_script.specs.Vocabulary.{actor_fell}
use Rattle.qc_script.specs.Vocabulary.{emptied}

pub fell_up : (b : ℕ) (i : Inbox) (r : ℕ) → (actor_fell b i r).up ≡ set i.up r false
fell_up b i r = at (r == b)
  where
    at : (t : Bool)
        → (emptied t (record i {
          up = set i.up r false;
          unanswered = requests_to_others r i.unanswered;
          lost = with_lost (requests_to r i.unanswered) i.lost;
        })).up ≡ set i.up r false
    at true = refl
    at false = refl

pub up_other : (up : List Bool) (r a : ℕ) (v : Bool) → (r == a) ≡ false → is_up (set up r v) a ≡ is_up up a
up_other up r a v other = get_or-set_other up r a v true (λ e. eqb-false r a other (sym e))

-- numbers

pub lost_stays : (rs : List SentRequest) (ns : List ℕ) (n : ℕ) → In n ns → In n (with_lost rs ns)
lost_stays [] ns n member = member
lost_stays (r ∷ rs) ns n member = lost_stays rs (with_number ns r.number) n (number_stays ns r.number n member)

-- the requests to one actor are lost, those to others stay

abbrev pub IsParted : ℕ → List SentRequest → ℕ → Type 0
IsParted b rs n =
    (ns : List ℕ) → In n (with_lost (requests_to b rs) ns) ⊎ In n (request_numbers (requests_to_others b rs))

parted_one : (b : ℕ) (r : SentRequest) (rs : List SentRequest) (n : ℕ) → In n (request_numbers (r ∷ rs))
    → (In n (request_numbers rs) → IsParted b rs n) → (t : Bool) (ns : List ℕ)
    → In n (with_lost (cond t (r ∷ requests_to b rs) (requests_to b rs)) ns)
    ⊎ In n (request_numbers (cond (not t) (r ∷ requests_to_others b rs) (requests_to_others b rs)))
parted_one b r rs n (inl same) rest true ns =
    inl (lost_stays (requests_to b rs) (with_number ns r.number) n
    (subst (λ (k : ℕ). In k (with_number ns r.number)) (sym same) (number_added ns r.number)))
parted_one b r rs n (inr later) rest true ns = rest later (with_number ns r.number)
parted_one b r rs n (inl same) rest false ns = inr (inl same)
parted_one b r rs n (inr later) rest false ns = at (rest later ns)
  where
    at : In n (with_lost (requests_to b rs) ns) ⊎ In n (request_numbers (requests_to_others b rs))
        → In n (with_lost (requests_to b rs) ns) ⊎ In n (request_numbers (r ∷ requests_to_others b rs))
    at (inl lost) = inl lost
    at (inr open_still) = inr (inr open_still)

pub parted : (b : ℕ) (rs : List SentRequest) (n : ℕ) → In n (request_numbers rs) → IsParted b rs n
parted b [] n member ns = absurd member
parted b (r ∷ rs) n member ns = parted_one b r rs n member (parted b rs n) (r.to == b) ns

-- copies

-- a message comes

awaited_copies : (n : ℕ) (up : Bool) (i : Inbox) (e : Envelope) (f : Fate) → IsAwaited n i
    → IsAwaited n (with_copies up i e f)
awaited_copies n up i e f is =
    awaited_more n i (with_copies up i e f) refl refl (answer_first n i.copies (if_up up (copies_at_once f e))) is

comes_answer : (n : ℕ) (i : Inbox) (e : Envelope) (f : Fate) (a : Answered) → answer_in e.message ≡ Some a
    → comes_at_once f ≡ true → n ≡ a.to → HasAnswer n (with_copies true i e f).copies
comes_answer n i e f a is once same = record {
  envelope = e;
  member = In-second e i.copies (copies_at_once f e) (at_once f e once);
  answers = subst (λ (o : Option Answered). MatchOption o ⊥ (λ (x : Answered). x.to ≡ n)) (sym is) (sym same);
}

-- a message goes

-- who is up, as another acts

pub up_if : (x : List Bool) (t : Bool) (i j : Inbox) → i.up ≡ x → j.up ≡ x → (if t then i else j).up ≡ x
up_if x true i j here there = here
up_if x false i j here there = there

module _ (script : Script) (a : ℕ) where
  -- a step leaves whether the actor is up, unless it writes a record itself, or falls

  abbrev pub KeepsUp : ℕ → Step → Type 0
  KeepsUp b step =
      MatchOption (wrote_in step) (MatchOption (fell_in step) (Unit {0}) (λ (f : Fallen). (b == a) ≡ false))
      (λ (r : Record). (b == a) ≡ false)
