-- What a step does to the unanswered requests of an inbox, and to the copies of another, whoever is up.
use Rattle.std.proofs.Common.{◌≡◌, ℕ, ◌+◌, ◌-◌, ◌==◌, ◌⊎◌, ◌&&◌, not, Bool, true, false, if◌then◌else◌, inl, inr, List}
use Rattle.std.proofs.Common.{[], ◌∷◌, ◌++◌, slice_get, refl, sym, subst}
use Rattle.std.specs.Prelude.{set, MatchOption}
use Rattle.qc_list.specs.Vocabulary.{In}
use Rattle.qc_list.proofs.Members.{In-more, In-passes, In-second, In-unfiltered}
use Rattle.laws_turns.proofs.Answering.{copies_stay, cuts_copies, cuts_unanswered, own_fate, phase_copies}
use Rattle.laws_turns.proofs.Answering.{phase_unanswered}
use Rattle.laws_turns.proofs.AwaitedCopies.{at_once}
use Rattle.qc_link.specs.Vocabulary.{fate, with_cut, without_cut}
use Rattle.qc_link.specs.declared.rule.Fate.{Fate}
use Rattle.qc_msg.specs.declared.message.Envelope.{Envelope}
use Rattle.qc_msg.specs.declared.message.Message.{Message}
use Rattle.qc_msg.specs.declared.step.Step.{Step}
use Rattle.qc_msg.specs.declared.step.Step.TheVariants as steps
use Rattle.qc_script.specs.declared.script.Script.{Script}
use Rattle.qc_script.specs.Vocabulary.{Inbox, SentRequest, actor_fell, answers_by, comes, comes_at_once, comes_with}
use Rattle.qc_script.specs.Vocabulary.{command_called, control_acted, copies_at_once, copy_taken, count_of, emptied}
use Rattle.qc_script.specs.Vocabulary.{goes, goes_with, has_request, inbox_at, is_by_line, is_request, is_up}
use Rattle.qc_script.specs.Vocabulary.{loss_taken, one_more, reply_told, request_answered, request_sent, requests_to}
use Rattle.qc_script.specs.Vocabulary.{requests_to_others, with_copies, with_lost, with_number}
use Rattle.qc_msg.specs.Vocabulary.{Answered, Fallen, Mailed, answer_in, commanded_in, fell_in, lost_in, mailed_in}
use Rattle.qc_msg.specs.Vocabulary.{received_in}
use Rattle.laws_turns.proofs.ReadingCases.{mapped}
use Rattle.qc_msg.specs.declared.step.Command.{Command}
use Rattle.laws_due.proofs.InboxCases.{inbox_cases}
use Rattle.qc_list.proofs.Booleans.{if_two}
use Rattle.qc_list.proofs.Numbers.{test_turned}

-- no more is unanswered, as a message comes

abbrev Fewer : Inbox → Inbox → Type 0
Fewer i j = (r : SentRequest) → In r j.unanswered → In r i.unanswered

answered_fewer : (i : Inbox) (to : ℕ) (f : Fate) → Fewer i (request_answered i to f)
answered_fewer i to f = if_two (Fewer i) (has_request i.unanswered to) _ i
    (λ r member. In-unfiltered (λ (x : SentRequest). not (x.number == to)) r i.unanswered member) (λ r member. member)

message_fewer : (i : Inbox) (m : Message) (f : Fate) → Fewer i (answers_by i m f)
message_fewer i m f =
    mapped (Fewer i) (λ (a : Answered). request_answered i a.to f) i (answer_in m) (λ a. answered_fewer i a.to f)
    (λ r member. member)

module _ (script : Script) (a : ℕ) (i : Inbox) (e : Envelope) where
  comes_fewer : Fewer i (comes script.links a i e)
  comes_fewer =
      if_two (Fewer i) (e.to == a) _ i
      (message_fewer (with_copies (is_up i.up a) i e
      (fate script.links i.cuts e.from e.to (count_of i.from_each e.from + 1))) e.message
      (fate script.links i.cuts e.from e.to (count_of i.from_each e.from + 1)))
      (λ r member. member)

  -- another's message, or one that asks nothing

  pub others_fewer : (e.from == a) ≡ false → Fewer i (goes script.links a (comes script.links a i e) e)
  others_fewer other r member =
      comes_fewer r (subst (λ (t : Bool). In r
      (if t then goes_with (comes script.links a i e) e
      (fate script.links (comes script.links a i e).cuts e.from e.to
      (count_of (comes script.links a i e).to_each e.to + 1)) else comes script.links a i e).unanswered) other
      member)

  pub silent_fewer : is_request e.message ≡ false → Fewer i (goes script.links a (comes script.links a i e) e)
  silent_fewer silent r member = comes_fewer r (at (e.from == a) (is_request e.message) silent member)
    where
      at : (mine request : Bool) → request ≡ false
          → In r (if mine then (if request then request_sent
          (record (comes script.links a i e) { to_each = one_more (comes script.links a i e).to_each e.to })
          e.number e.to (fate script.links (comes script.links a i e).cuts e.from e.to
          (count_of (comes script.links a i e).to_each e.to + 1)) else record
          (comes script.links a i e) { to_each = one_more (comes script.links a i e).to_each e.to }) else comes
          script.links a i e).unanswered
          → In r (comes script.links a i e).unanswered
      at true true never there = absurd (let no : ⊥ = cc in no)
      at true false is there = there
      at false request is there = there

  -- the actor's own request to another: unanswered where a copy comes at once to one that is up

  pub record IsNew (r : SentRequest) : Type 0 where
    pub is : r ≡ record { number = e.number; to = e.to }
    pub once : comes_at_once (own_fate script a i e) ≡ true
    pub up : is_up i.up e.to ≡ true

  pub own_new : (e.to == a) ≡ false → (e.from == a) ≡ true → (r : SentRequest)
      → In r (goes script.links a (comes script.links a i e) e).unanswered → In r i.unanswered ⊎ IsNew r
  own_new away mine r member =
      at (is_request e.message) (comes_at_once (own_fate script a i e)) (is_up i.up e.to) refl refl
      (subst (λ (t : Bool). In r (if t then goes_with i e (own_fate script a i e) else i).unanswered) mine
      (subst (λ (t : Bool). In r (goes script.links a
      (if t then comes_with (is_up i.up a) i e
      (fate script.links i.cuts e.from e.to (count_of i.from_each e.from + 1)) else i) e).unanswered) away member))
    where
      at : (request once up : Bool) → comes_at_once (own_fate script a i e) ≡ once → is_up i.up e.to ≡ up
          → In r (if request then (if once && up then record i {
            to_each = one_more i.to_each e.to;
            unanswered =
                i.unanswered ++ record { number = e.number; to = e.to } ∷ [];
          } else record i
          { to_each = one_more i.to_each e.to; lost = with_number i.lost e.number }) else record i
          { to_each = one_more i.to_each e.to }).unanswered
          → In r i.unanswered ⊎ IsNew r
      at true true true comes_one up_one there =
          new (In-more r (record { number = e.number; to = e.to }) i.unanswered there)
        where
          new : In r i.unanswered ⊎ (r ≡ record { number = e.number; to = e.to }) → In r i.unanswered ⊎ IsNew r
          new (inl old) = inl old
          new (inr same) = inr (record { is = same; once = comes_one; up = up_one })
      at true true false comes_one up_one there = inl there
      at true false up comes_one up_one there = inl there
      at false once up comes_one up_one there = inl there

  -- a copy that is made at once is ready at a receiver that is up
  pub copy_made : is_up i.up a ≡ true → (e.to == a) ≡ true → (e.from == a) ≡ false
      → comes_at_once (fate script.links i.cuts e.from e.to (count_of i.from_each e.from + 1)) ≡ true
      → In e (goes script.links a (comes script.links a i e) e).copies
  copy_made up here other once =
      subst (λ (t : Bool). In e (if t then goes_with (comes script.links a i e) e
      (fate script.links (comes script.links a i e).cuts e.from e.to
      (count_of (comes script.links a i e).to_each e.to + 1)) else comes script.links a i e).copies) (sym other)
      (subst (λ (t : Bool). In e (if t then comes_with (is_up i.up a) i e f else i).copies) (sym here)
      (subst (λ (t : Bool). In e (comes_with t i e f).copies) (sym up) (kept e.message)))
    where
      f : Fate
      f = fate script.links i.cuts e.from e.to (count_of i.from_each e.from + 1)

      j : Inbox
      j = with_copies true i e (fate script.links i.cuts e.from e.to (count_of i.from_each e.from + 1))

      ready : In e j.copies
      ready = In-second e i.copies (copies_at_once f e) (at_once f e once)

      kept : (m : Message) → In e (answers_by j m f).copies
      kept m =
          mapped (λ (k : Inbox). In e k.copies) (λ (a : Answered). request_answered j a.to f) j (answer_in m)
          (λ a. if_two (λ (k : Inbox). In e k.copies) (has_request j.unanswered a.to) _ j ready ready) ready

-- falls

fell_spared : (a : ℕ) (i : Inbox) (b : ℕ) (r : SentRequest) → In r (actor_fell a i b).unanswered
    → In r i.unanswered × ((r.to == b) ≡ false)
fell_spared a i b r = at (b == a)
  where
    flipped : (t : Bool) → not t ≡ true → t ≡ false
    flipped true is = absurd (let never : ⊥ = cc in never)
    flipped false is = refl

    at : (t : Bool) → In r (emptied t (record i {
      up = set i.up b false;
      unanswered = requests_to_others b i.unanswered;
      lost = with_lost (requests_to b i.unanswered) i.lost;
    })).unanswered → In r i.unanswered × ((r.to == b) ≡ false)
    at true member = absurd member
    at false member = (
      In-unfiltered (λ (x : SentRequest). not (x.to == b)) r i.unanswered member,
      flipped (r.to == b) (In-passes (λ (x : SentRequest). not (x.to == b)) r i.unanswered member),
    )

acted_same : (a : ℕ) (i : Inbox) → (control_acted a i).unanswered ≡ i.unanswered
acted_same a i = cuts_unanswered a i i.cuts

acted_copies : (a : ℕ) (i : Inbox) (x : Envelope) → In x i.copies → In x (control_acted a i).copies
acted_copies a i x member = cuts_copies a i i.cuts x member

-- a fall leaves only requests to others unanswered
pub after_fall : (script : Script) (a : ℕ) (i : Inbox) (b : ℕ) (cause pending : _) (r : SentRequest)
    → In r (inbox_at script a i b (steps.Fell cause pending)).unanswered → In r i.unanswered × ((r.to == b) ≡ false)
after_fall script a i b cause pending r =
    if_two (λ (j : Inbox). In r j.unanswered → In r i.unanswered × ((r.to == b) ≡ false))
    (is_by_line (is_up i.up b) cause) (control_acted a (actor_fell a i b)) (actor_fell a i b)
    (λ member. fell_spared a i b r (subst (In r) (acted_same a (actor_fell a i b)) member)) (fell_spared a i b r)

-- steps but for messages, and inputs: no more is unanswered, and none that went to who falls

-- steps that are no inputs, and a message that this holds of
abbrev pub IsNoInput : (Mailed → Type 0) → Step → Type 0
IsNoInput Holds step =
    MatchOption (commanded_in step)
    (MatchOption (received_in step)
    (MatchOption (lost_in step) (MatchOption (mailed_in step) (Unit {0}) Holds) (λ (n : ℕ). ⊥)) (λ (n : ℕ). ⊥))
    (λ (c : Command). ⊥)

abbrev pub IsStill : Step → Type 0
IsStill step = IsNoInput (λ (m : Mailed). ⊥) step

-- actor s stays as step of actor b comes
abbrev pub IsSpared : ℕ → ℕ → Step → Type 0
IsSpared s b step =
    MatchOption (received_in step) (MatchOption (fell_in step) (Unit {0}) (λ (f : Fallen). (s == b) ≡ false))
    (λ (n : ℕ). (s == b) ≡ false)

pub same_if : (t : Bool) (i j : Inbox) (rs : List SentRequest) → i.unanswered ≡ rs → j.unanswered ≡ rs
    → (if t then i else j).unanswered ≡ rs
same_if true i j rs here there = here
same_if false i j rs here there = there

pub still_left : (script : Script) (a : ℕ) (i : Inbox) (b : ℕ) (step : Step) → IsStill step → (r : SentRequest)
    → In r (inbox_at script a i b step).unanswered → In r i.unanswered × IsSpared r.to b step
still_left script a i b (steps.Phase k) is r member =
    (subst (In r) (phase_unanswered a i (slice_get script.phases (k - 1))) member, tt)
still_left script a i b (steps.Cut x y) is r member =
    (subst (In r) (cuts_unanswered a i (with_cut i.cuts x y)) member, tt)
still_left script a i b (steps.Heal x y) is r member =
    (subst (In r) (cuts_unanswered a i (without_cut i.cuts x y)) member, tt)
still_left script a i b (steps.Armed actor kind at) is r member = (subst (In r) (acted_same a i) member, tt)
still_left script a i b (steps.Called command) is r member = absurd is
still_left script a i b (steps.Got n) is r member = absurd is
still_left script a i b (steps.Lost n) is r member = absurd is
still_left script a i b (steps.Wrote written) is r member = (
  subst (In r) (same_if (is_up i.up b) i (control_acted a (record i { up = set i.up b true })) i.unanswered refl
      (acted_same a (record i { up = set i.up b true }))) member,
  tt,
)
still_left script a i b (steps.Sent n to message) is r member = absurd is
still_left script a i b (steps.Told reply) is r member =
    (subst (In r) (same_if (b == a) (reply_told i) i i.unanswered refl refl) member, tt)
still_left script a i b (steps.Fell cause pending) is r member = after_fall script a i b cause pending r member
still_left script a i b (steps.Rose records) is r member = (member, tt)
still_left script a i b (steps.Damaged offset) is r member = (subst (In r) (acted_same a i) member, tt)

-- copies stay

pub copies_left : (script : Script) (s : ℕ) (i : Inbox) (b : ℕ) (step : Step) → IsSpared s b step → (x : Envelope)
    → In x i.copies → In x (inbox_at script s i b step).copies
copies_left script s i b step is x member =
    inbox_cases script s i b (λ (p : Step) (j : Inbox). IsSpared s b p → In x j.copies)
    (λ k spared. phase_copies s i (slice_get script.phases (k - 1)) x member)
    (λ p cuts spared. cuts_copies s i cuts x member)
    (λ command spared. if_two (λ (j : Inbox). In x j.copies) (b == s) (command_called i) i member member)
    (λ n spared.
    subst (λ (t : Bool). In x (if t then copy_taken i else i).copies) (sym (test_turned s b spared)) member)
    (λ n spared. if_two (λ (j : Inbox). In x j.copies) (b == s) (loss_taken i) i member member)
    (λ written spared. if_two (λ (j : Inbox). In x j.copies) (is_up i.up b) i
    (control_acted s (record i { up = set i.up b true })) member
    (acted_copies s (record i { up = set i.up b true }) x member))
    (λ n to message spared.
    copies_stay script s i (record { number = n; from = b; to = to; message = message }) x member)
    (λ reply spared. if_two (λ (j : Inbox). In x j.copies) (b == s) (reply_told i) i member member)
    (λ cause pending spared. if_two (λ (j : Inbox). In x j.copies) (is_by_line (is_up i.up b) cause)
    (control_acted s (actor_fell s i b)) (actor_fell s i b)
    (acted_copies s (actor_fell s i b) x (fell spared)) (fell spared))
    (λ records spared. member) step is
  where
    fell : (s == b) ≡ false → In x (actor_fell s i b).copies
    fell spared = subst (λ (t : Bool). In x (emptied t
        (record i {
          up = set i.up b false;
          unanswered = requests_to_others b i.unanswered;
          lost = with_lost (requests_to b i.unanswered) i.lost;
        })).copies) (sym (test_turned s b spared)) member
