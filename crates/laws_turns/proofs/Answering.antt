-- What a message does to the unanswered requests of an inbox, and to the copies of another.
use Rattle.std.proofs.Common.{◌≡◌, ℕ, ◌+◌, ◌==◌, ◌⊎◌, ◌&&◌, ◌||◌, not, Bool, true, false, if◌then◌else◌, inl, inr, List}
use Rattle.std.proofs.Common.{[], ◌∷◌, ◌++◌, drop, Option, Some, None, refl, sym, ap, ◌∙◌, subst, eq-eqb}
use Rattle.std.specs.List.{list_any}
use Rattle.std.specs.Option.{option_map_or}
use Rattle.qc_list.specs.Vocabulary.{In}
use Rattle.qc_list.proofs.Members.{In-first, In-more, In-passes, In-second, In-unfiltered}
use Rattle.qc_link.specs.Vocabulary.{fate}
use Rattle.qc_link.specs.declared.rule.Fate.{Fate}
use Rattle.qc_msg.specs.declared.message.Answer.{Answer}
use Rattle.qc_msg.specs.declared.message.Envelope.{Envelope}
use Rattle.qc_msg.specs.declared.message.Message.{Message}
use Rattle.qc_msg.specs.declared.message.Message.TheVariants as messages
use Rattle.qc_msg.specs.declared.step.Control.{Control}
use Rattle.qc_msg.specs.Vocabulary.{Answered, answer_in}
use Rattle.qc_script.specs.declared.script.PhaseLines.{PhaseLines}
use Rattle.qc_script.specs.declared.script.Script.{Script}
use Rattle.qc_script.specs.Vocabulary.{Inbox, acting, answers_by, comes, comes_at_once, comes_with, commands_for}
use Rattle.qc_script.specs.Vocabulary.{copies_at_once, count_of, everybody, goes, goes_with, has_request, if_up}
use Rattle.qc_script.specs.Vocabulary.{is_request, is_up, one_more, opened, opened_by, phase_begun, request_answered}
use Rattle.qc_script.specs.Vocabulary.{request_numbers, request_sent, with_copies, with_number, without_request}
use Rattle.qc_script.proofs.AllUp.{is_up-everybody}
use Rattle.qc_script.proofs.Requests.{added-number, has-numbers, without-numbers}
use Rattle.laws_turns.proofs.AwaitedCopies.{at_once}
use Rattle.laws_turns.proofs.ReadingCases.{mapped}
use Rattle.qc_list.proofs.Booleans.{if_two}

-- no more is unanswered, as a message comes

answered_fewer : (i : Inbox) (to : ℕ) (f : Fate) (n : ℕ) → In n (request_numbers (request_answered i to f).unanswered)
    → In n (request_numbers i.unanswered)
answered_fewer i to f n = at (has_request i.unanswered to)
  where
    at : (t : Bool) → In n (request_numbers (if t then record i {
      unanswered = without_request i.unanswered to;
      lost = if comes_at_once f then i.lost else with_number i.lost to;
    } else i).unanswered)
        → In n (request_numbers i.unanswered)
    at true member = In-unfiltered (λ (m : ℕ). not (m == to)) n (request_numbers i.unanswered)
        (subst (In n) (without-numbers i.unanswered to) member)
    at false member = member

message_fewer : (i : Inbox) (m : Message) (f : Fate) (n : ℕ) → In n (request_numbers (answers_by i m f).unanswered)
    → In n (request_numbers i.unanswered)
message_fewer i m f n member =
    mapped (λ (j : Inbox). In n (request_numbers j.unanswered) → In n (request_numbers i.unanswered))
    (λ (a : Answered). request_answered i a.to f) i (answer_in m) (λ a is. answered_fewer i a.to f n is) (λ is. is)
    member

module _ (script : Script) (a : ℕ) (i : Inbox) (e : Envelope) where
  comes_fewer : (n : ℕ) → In n (request_numbers (comes script.links a i e).unanswered)
      → In n (request_numbers i.unanswered)
  comes_fewer n = at (e.to == a)
    where
      at : (t : Bool) → In n (request_numbers (if t then comes_with (is_up i.up a) i e
          (fate script.links i.cuts e.from e.to (count_of i.from_each e.from + 1)) else i).unanswered)
          → In n (request_numbers i.unanswered)
      at true member = message_fewer (with_copies (is_up i.up a) i e
          (fate script.links i.cuts e.from e.to (count_of i.from_each e.from + 1))) e.message
          (fate script.links i.cuts e.from e.to (count_of i.from_each e.from + 1)) n member
      at false member = member

  -- another's message
  pub others_fewer : (e.from == a) ≡ false → (n : ℕ)
      → In n (request_numbers (goes script.links a (comes script.links a i e) e).unanswered)
      → In n (request_numbers i.unanswered)
  others_fewer other n member = comes_fewer n
      (subst (λ (t : Bool). In n (request_numbers
      (if t then goes_with (comes script.links a i e) e
      (fate script.links (comes script.links a i e).cuts e.from e.to
      (count_of (comes script.links a i e).to_each e.to + 1)) else comes script.links a i e).unanswered)) other member)

  -- an answer ends the wait
  pub answer_ends : (n : ℕ) (answer : Answer) → e.message ≡ messages.Answer n answer → (e.to == a) ≡ true
      → (e.from == a) ≡ false → In n (request_numbers (goes script.links a (comes script.links a i e) e).unanswered) → ⊥
  answer_ends n answer is here other member =
      gone (subst (λ (m : Message). In n (request_numbers (answers_by j m f).unanswered)) is
      (subst (λ (t : Bool). In n (request_numbers (if t then comes_with (is_up i.up a) i e f else i).unanswered)) here
      (subst (λ (t : Bool). In n (request_numbers
      (if t then goes_with (comes script.links a i e) e
      (fate script.links (comes script.links a i e).cuts e.from e.to
      (count_of (comes script.links a i e).to_each e.to + 1)) else comes script.links a i e).unanswered)) other
      member)))
    where
      f : Fate
      f = fate script.links i.cuts e.from e.to (count_of i.from_each e.from + 1)

      j : Inbox
      j = with_copies (is_up i.up a) i e (fate script.links i.cuts e.from e.to (count_of i.from_each e.from + 1))

      any : (ns : List ℕ) → In n ns → list_any (λ (m : ℕ). m == n) ns ≡ true
      any [] there = absurd there
      any (m ∷ ns) there = on (m == n) refl there (any ns)
        where
          on : (t : Bool) → (m == n) ≡ t → In n (m ∷ ns) → (In n ns → list_any (λ (x : ℕ). x == n) ns ≡ true)
              → (t || list_any (λ (x : ℕ). x == n) ns) ≡ true
          on true same spot rest = refl
          on false differs (inl same) rest = absurd
              (let yes : (m == n) ≡ true = eq-eqb m n (sym same) in let never : ⊥ = cc in never)
          on false differs (inr later) rest = rest later

      gone : In n (request_numbers (request_answered j n f).unanswered) → ⊥
      gone = at (has_request j.unanswered n) refl
        where
          at : (t : Bool) → has_request j.unanswered n ≡ t
              → In n (request_numbers (if t then record j {
                unanswered = without_request j.unanswered n;
                lost = if comes_at_once f then j.lost else with_number j.lost n;
              } else j).unanswered) → ⊥
          at true among left =
              let passes : not (n == n) ≡ true = In-passes (λ (m : ℕ). not (m == n)) n (request_numbers j.unanswered)
              (subst (In n) (without-numbers j.unanswered n) left) in
              let same : (n == n) ≡ true = eq-eqb n n refl in
              let no : not (n == n) ≡ false = ap not same in
              let never : ⊥ = cc in never
          at false among left = let yes : has_request j.unanswered n ≡ true = has-numbers j.unanswered n
              ∙ any (request_numbers j.unanswered) left in let never : ⊥ = cc in never

  -- the actor's own message to another: a request that makes a copy at once is unanswered then

  abbrev pub own_fate : Fate
  own_fate = fate script.links i.cuts e.from e.to (count_of i.to_each e.to + 1)

  pub own_new : (e.to == a) ≡ false → (e.from == a) ≡ true → (n : ℕ)
      → In n (request_numbers (goes script.links a (comes script.links a i e) e).unanswered)
      → In n (request_numbers i.unanswered) ⊎ ((n ≡ e.number)
      × ((is_request e.message ≡ true) × (comes_at_once own_fate ≡ true)))
  own_new away mine n member = at (is_request e.message) (comes_at_once own_fate) (is_up i.up e.to) refl refl
      (subst (λ (t : Bool). In n (request_numbers
      (if t then goes_with i e (fate script.links i.cuts e.from e.to (count_of i.to_each e.to + 1)) else i).unanswered))
      mine (stay member))
    where
      stay : In n (request_numbers (goes script.links a (comes script.links a i e) e).unanswered)
          → In n (request_numbers (goes script.links a i e).unanswered)
      stay there = subst (λ (t : Bool). In n (request_numbers
          (goes script.links a (if t then comes_with (is_up i.up a) i e
          (fate script.links i.cuts e.from e.to (count_of i.from_each e.from + 1)) else i) e).unanswered)) away there

      at : (request once up : Bool) → is_request e.message ≡ request → comes_at_once own_fate ≡ once
          → In n (request_numbers (if request then
          (if once && up then record i {
            to_each = one_more i.to_each e.to;
            unanswered = i.unanswered ++ record { number = e.number; to = e.to } ∷ [];
          } else record i
          { to_each = one_more i.to_each e.to; lost = with_number i.lost e.number }) else record i
          { to_each = one_more i.to_each e.to }).unanswered)
          → In n (request_numbers i.unanswered) ⊎ ((n ≡ e.number)
          × ((is_request e.message ≡ true) × (comes_at_once own_fate ≡ true)))
      at true true true is_one comes_one there =
          new (In-more n e.number (request_numbers i.unanswered)
          (subst (In n) (added-number i.unanswered (record { number = e.number; to = e.to })) there))
        where
          new : In n (request_numbers i.unanswered) ⊎ (n ≡ e.number)
              → In n (request_numbers i.unanswered) ⊎ ((n ≡ e.number)
              × ((is_request e.message ≡ true) × (comes_at_once own_fate ≡ true)))
          new (inl old) = inl old
          new (inr same) = inr (same, (is_one, comes_one))
      at true true false is_one comes_one there = inl there
      at true false up is_one comes_one there = inl there
      at false once up is_one comes_one there = inl there

  -- a copy that is made at once is ready at the receiver
  pub copy_made : i.up ≡ everybody → (e.to == a) ≡ true → (e.from == a) ≡ false
      → comes_at_once (fate script.links i.cuts e.from e.to (count_of i.from_each e.from + 1)) ≡ true
      → In e (goes script.links a (comes script.links a i e) e).copies
  copy_made up here other once =
      subst (λ (t : Bool). In e (if t then goes_with (comes script.links a i e) e
      (fate script.links (comes script.links a i e).cuts e.from e.to
      (count_of (comes script.links a i e).to_each e.to + 1)) else comes script.links a i e).copies) (sym other)
      (subst (λ (t : Bool). In e (if t then comes_with (is_up i.up a) i e
      (fate script.links i.cuts e.from e.to (count_of i.from_each e.from + 1)) else i).copies) (sym here)
      (subst (λ (t : Bool). In e (comes_with t i e
      (fate script.links i.cuts e.from e.to (count_of i.from_each e.from + 1))).copies)
      (sym (is_up-everybody i.up a up)) (kept e.message)))
    where
      f : Fate
      f = fate script.links i.cuts e.from e.to (count_of i.from_each e.from + 1)

      j : Inbox
      j = with_copies true i e (fate script.links i.cuts e.from e.to (count_of i.from_each e.from + 1))

      ready : In e j.copies
      ready = In-second e i.copies (copies_at_once f e) (at_once f e once)

      kept : (m : Message) → In e (answers_by j m f).copies
      kept m =
          mapped (λ (k : Inbox). In e k.copies) (λ (a : Answered). request_answered j a.to f) j (answer_in m)
          (λ a. if_two (λ (k : Inbox). In e k.copies) (has_request j.unanswered a.to) _ j ready ready) ready

  -- copies stay, as any message comes and goes

  answers_copies : (j : Inbox) (m : Message) (f : Fate) (x : Envelope) → In x j.copies → In x (answers_by j m f).copies
  answers_copies j m f x member =
      mapped (λ (k : Inbox). In x k.copies) (λ (a : Answered). request_answered j a.to f) j (answer_in m)
      (λ a. if_two (λ (k : Inbox). In x k.copies) (has_request j.unanswered a.to) _ j member member) member

  goes_copies : (j : Inbox) (f : Fate) (x : Envelope) → In x j.copies → In x (goes_with j e f).copies
  goes_copies j f x member = if_two (λ (k : Inbox). In x k.copies) (is_request e.message) _ _
      (if_two (λ (k : Inbox). In x k.copies) (comes_at_once f && is_up j.up e.to) _ _ member member) member

  pub copies_stay : (x : Envelope) → In x i.copies → In x (goes script.links a (comes script.links a i e) e).copies
  copies_stay x member =
      if_two (λ (k : Inbox). In x k.copies) (e.from == a) _ (comes script.links a i e)
      (goes_copies (comes script.links a i e) (fate script.links (comes script.links a i e).cuts e.from e.to
      (count_of (comes script.links a i e).to_each e.to + 1)) x came) came
    where
      came : In x (comes script.links a i e).copies
      came = if_two (λ (k : Inbox). In x k.copies) (e.to == a) _ i
          (answers_copies (with_copies (is_up i.up a) i e
          (fate script.links i.cuts e.from e.to (count_of i.from_each e.from + 1))) e.message
          (fate script.links i.cuts e.from e.to (count_of i.from_each e.from + 1)) x
          (In-first x i.copies (if_up (is_up i.up a)
          (copies_at_once (fate script.links i.cuts e.from e.to (count_of i.from_each e.from + 1)) e)) member))
          member

-- phases and control lines

opened_by_copies : (a : ℕ) (lines : List Control) (i : Inbox) (x : Envelope) → In x i.copies
    → In x (opened_by a lines i).copies
opened_by_copies a [] i x member = In-second x (if_up (is_up i.up a) i.opening) i.copies member
opened_by_copies a (line ∷ lines) i x member = member

opened_copies : (a : ℕ) (i : Inbox) (x : Envelope) → In x i.copies → In x (opened a i).copies
opened_copies a i x member = opened_by_copies a (acting i.up i.controls)
    (record i { controls = acting i.up i.controls }) x member

opened_by_unanswered : (a : ℕ) (lines : List Control) (i : Inbox) → (opened_by a lines i).unanswered ≡ i.unanswered
opened_by_unanswered a [] i = refl
opened_by_unanswered a (line ∷ lines) i = refl

opened_unanswered : (a : ℕ) (i : Inbox) → (opened a i).unanswered ≡ i.unanswered
opened_unanswered a i = opened_by_unanswered a (acting i.up i.controls) (record i { controls = acting i.up i.controls })

pub phase_copies : (a : ℕ) (i : Inbox) (o : Option PhaseLines) (x : Envelope) → In x i.copies
    → In x (option_map_or (phase_begun a i) o i).copies
phase_copies a i None x member = member
phase_copies a i (Some p) x member = opened_copies a
    (record i {
      opening = i.opening ++ i.late;
      late = [];
      controls = p.controls;
      commands = i.commands ++ commands_for a p.commands;
    }) x member

pub phase_unanswered : (a : ℕ) (i : Inbox) (o : Option PhaseLines)
    → (option_map_or (phase_begun a i) o i).unanswered ≡ i.unanswered
phase_unanswered a i None = refl
phase_unanswered a i (Some p) = opened_unanswered a
    (record i {
      opening = i.opening ++ i.late;
      late = [];
      controls = p.controls;
      commands = i.commands ++ commands_for a p.commands;
    })

pub cuts_copies : (a : ℕ) (i : Inbox) (cuts : List Bool) (x : Envelope) → In x i.copies
    → In x (opened a (record i { cuts = cuts; controls = drop 1 i.controls })).copies
cuts_copies a i cuts x member = opened_copies a (record i { cuts = cuts; controls = drop 1 i.controls }) x member

pub cuts_unanswered : (a : ℕ) (i : Inbox) (cuts : List Bool)
    → (opened a (record i { cuts = cuts; controls = drop 1 i.controls })).unanswered ≡ i.unanswered
cuts_unanswered a i cuts = opened_unanswered a (record i { cuts = cuts; controls = drop 1 i.controls })

-- a message that asks nothing leaves no more unanswered
pub silent_fewer : (script : Script) (a : ℕ) (i : Inbox) (e : Envelope) → is_request e.message ≡ false → (n : ℕ)
    → In n (request_numbers (goes script.links a (comes script.links a i e) e).unanswered)
    → In n (request_numbers i.unanswered)
silent_fewer script a i e silent n member =
    comes_fewer script a i e n (at (e.from == a) (is_request e.message) silent member)
  where
    at : (mine request : Bool) → request ≡ false
        → In n (request_numbers (if mine then (if request then request_sent
        (record (comes script.links a i e) { to_each = one_more (comes script.links a i e).to_each e.to }) e.number
        e.to (fate script.links (comes script.links a i e).cuts e.from e.to
        (count_of (comes script.links a i e).to_each e.to + 1)) else record
        (comes script.links a i e) { to_each = one_more (comes script.links a i e).to_each e.to }) else comes
        script.links a i e).unanswered)
        → In n (request_numbers (comes script.links a i e).unanswered)
    at true true never there = absurd (let no : ⊥ = cc in no)
    at true false is there = there
    at false request is there = there
