-- What the taker has ready is what it takes, or is ready still; whoever gets an actor's request is another.
use Rattle.std.proofs.Common.{[], ◌≡◌, ℕ, ◌<◌, ◌≤◌, ◌==◌, ◌⊎◌, Bool, true, false, if◌then◌else◌, inl, inr, List}
use Rattle.std.proofs.Common.{◌∷◌, ◌++◌, drop, length, Some, slice_get, refl, sym, ap, ◌∙◌, subst}
use Rattle.std.specs.Prelude.{slice_set}
use Rattle.std.proofs.lemmas.Bool.{eq-eqb, eqb-true}
use Rattle.qc_list.specs.Vocabulary.{In}
use Rattle.qc_core.specs.Vocabulary.{IsLawfulWithFalls, actor_after, actor_takes}
use Rattle.qc_core.specs.Lives as lives
use Rattle.qc_decl.specs.Vocabulary.{actors}
use Rattle.qc_decl.specs.declared.declaration.Declaration.{Declaration}
use Rattle.laws_turns.specs.Vocabulary.{IsTaken}
use Rattle.laws_turns.proofs.ReadyFirst.{ready_copy}
use Rattle.qc_link.specs.Vocabulary.{most_actors}
use Rattle.qc_msg.specs.declared.message.Envelope.{Envelope}
use Rattle.qc_msg.specs.declared.message.Answer.{Answer}
use Rattle.qc_msg.specs.declared.message.Message.TheVariants as messages
use Rattle.qc_msg.specs.declared.record.Record.{Record}
use Rattle.qc_msg.specs.declared.step.Input.{Input}
use Rattle.qc_msg.specs.declared.step.Input.TheVariants as inputs
use Rattle.qc_msg.specs.declared.step.Step.TheVariants as steps
use Rattle.qc_msg.specs.declared.turn.Posting.{Posting}
use Rattle.qc_msg.specs.declared.turn.Turn.{Turn}
use Rattle.qc_msg.specs.Vocabulary.{Deed, Entry, Takes, by, deeds, mail, marked, posted_as, sends_as, step_of}
use Rattle.qc_msg.proofs.GrownMail.{mail-taken}
use Rattle.qc_msg.proofs.DeedsGrow.{deeds-other}
use Rattle.qc_script.specs.declared.script.Script.{Script}
use Rattle.qc_script.specs.Vocabulary.{Inbox, RunsWithFalls, SentRequest, command_called, copy_taken, inbox, inbox_at}
use Rattle.qc_script.specs.Vocabulary.{is_request, loss_taken, ready, ready_in, request_numbers}
use Rattle.laws_due.proofs.Answering.{IsSpared, copies_left, same_if}
use Rattle.laws_due.proofs.Somewhere.{AreSomewhere, AreToOthers, IsOther, IsSomewhere}
use Rattle.qc_mailbox.proofs.Keeping.{inbox_after}
use Rattle.qc_list.proofs.Numbers.{numbers_apart}
use Rattle.qc_list.proofs.Places.{slice_get-set_other, slice_get-set_same}

-- requests and their numbers

pub in_numbers : (r : SentRequest) (rs : List SentRequest) → In r rs → In r.number (request_numbers rs)
in_numbers r [] member = absurd member
in_numbers r (x ∷ rs) (inl same) = inl (ap (λ (y : SentRequest). y.number) same)
in_numbers r (x ∷ rs) (inr later) = inr (in_numbers r rs later)

pub of_number : (n : ℕ) (rs : List SentRequest) → In n (request_numbers rs)
    → (r : SentRequest) × (In r rs × (r.number ≡ n))
of_number n [] member = absurd member
of_number n (r ∷ rs) (inl same) = (r, (inl refl, sym same))
of_number n (r ∷ rs) (inr later) =
    let found : (r : SentRequest) × (In r rs × (r.number ≡ n)) = of_number n rs later in
    (found.0, (inr found.1.0, found.1.1))

-- an input

same_unanswered : (script : Script) (a : ℕ) (i : Inbox) (b : ℕ) (g : Input)
    → (inbox_at script a i b (step_of g)).unanswered ≡ i.unanswered
same_unanswered script a i b (inputs.Called command) = same_if (b == a) (command_called i) i i.unanswered refl refl
same_unanswered script a i b (inputs.Got e) = same_if (b == a) (copy_taken i) i i.unanswered refl refl
same_unanswered script a i b (inputs.Lost n) = same_if (b == a) (loss_taken i) i i.unanswered refl refl

input_spares : (s b : ℕ) (g : Input) → (s == b) ≡ false → IsSpared s b (step_of g)
input_spares s b (inputs.Called command) other = tt
input_spares s b (inputs.Got e) other = other
input_spares s b (inputs.Lost n) other = tt

-- what the taker has ready is what it takes, or is ready still
own_copies : (script : Script) (decl : Declaration) (b : ℕ) (i : Inbox) (g : Input) (x : Envelope)
    → ready_in decl b i ≡ Some g → In x i.copies → (g ≡ inputs.Got x) ⊎ In x (inbox_at script b i b (step_of g)).copies
own_copies script decl b i (inputs.Called command) x rdy there =
    inr (subst (λ (t : Bool). In x (if t then command_called i else i).copies) (sym (eq-eqb b b refl)) there)
own_copies script decl b i (inputs.Lost n) x rdy there =
    inr (subst (λ (t : Bool). In x (if t then loss_taken i else i).copies) (sym (eq-eqb b b refl)) there)
own_copies script decl b i (inputs.Got e) x rdy there = at (subst (In x) (ready_copy decl b i e rdy) there)
  where
    at : In x (e ∷ drop 1 i.copies) → (inputs.Got e ≡ inputs.Got x) ⊎ In x (if b == b then copy_taken i else i).copies
    at (inl same) = inl (ap (λ (v : Envelope). inputs.Got v) (sym same))
    at (inr later) =
        inr (subst (λ (t : Bool). In x (if t then copy_taken i else i).copies) (sym (eq-eqb b b refl)) later)

-- the answer to a request comes first

pub record RepliesTo (e : Envelope) (t : Turn) : Type 0 where
  pub answer : Answer
  pub rest : List Posting
  pub sends : t.sends ≡ record { to = e.from; message = messages.Answer e.number answer } ∷ rest

-- whoever gets a request of actor a is another, and answers it at once where it is up
pub record IsReplied (decl : Declaration) (a : ℕ) (e : Envelope) : Type 0 where
  pub other : IsOther a e.to
  pub replies : (ds : List Deed) → lives.is_up ds ≡ true
      → RepliesTo e (actor_takes decl (actor_after decl e.to ds).actor (inputs.Got e)).turn

-- so it is with each request of actor a in each run, and with what it sends
pub record AreReplied (decl : Declaration) (script : Script) (fits : ℕ → List Record → Type 0) (a : ℕ) : Type 0 where
  pub replied : (h : List Entry) (open_inputs : List Bool)
      → RunsWithFalls (IsLawfulWithFalls decl) fits decl script h open_inputs → (e : Envelope) → In e (mail h)
      → e.from ≡ a → is_request e.message ≡ true → IsReplied decl a e
  pub posts : (older : List Entry) (before after : List Bool)
      → RunsWithFalls (IsLawfulWithFalls decl) fits decl script older before → (b : ℕ) (turn : Turn)
      → RunsWithFalls (IsLawfulWithFalls decl) fits decl script
      (older ++ by b (posted_as turn.append (length (mail older)) turn)) after
      → IsLawfulWithFalls decl b (deeds b [] older) turn → b ≡ a → AreToOthers a (sends_as turn.append turn)
  pub rises : (older : List Entry) (before after : List Bool)
      → RunsWithFalls (IsLawfulWithFalls decl) fits decl script older before
      → (b : ℕ) (kept : List Record) (turn : Turn)
      → RunsWithFalls (IsLawfulWithFalls decl) fits decl script
      (older ++ by b (steps.Rose kept ∷ posted_as turn.append (length (mail older)) turn)) after
      → IsLawfulWithFalls decl b (deeds b [] (older ++ marked b (steps.Rose kept) ∷ [])) turn → b ≡ a
      → AreToOthers a (sends_as turn.append turn)

module _ (decl : Declaration) (script : Script) (fits : ℕ → List Record → Type 0) (few : actors decl ≤ most_actors)
    (a : ℕ) (a_low : a < most_actors) (are_replied : AreReplied decl script fits a) where
  abbrev IsRun : List Entry → List Bool → Type 0
  IsRun h open_inputs = RunsWithFalls (IsLawfulWithFalls decl) fits decl script h open_inputs

  abbrev pub IsKept : List Entry → List Bool → Type 0
  IsKept h open_inputs = AreSomewhere script (IsTaken h open_inputs) h a

  -- where else it may be, as that becomes another
  pub moved_to : (X Y : Envelope → Type 0) (h : List Entry)
      → ((r : SentRequest) (s : IsSomewhere script X h a r) → In r (inbox script a h).unanswered → X s.envelope
      → Y s.envelope) → AreSomewhere script X h a → AreSomewhere script Y h a
  moved_to X Y h change are r member = at (are r member)
    where
      at : IsSomewhere script X h a r → IsSomewhere script Y h a r
      at s =
          record {
            envelope = s.envelope;
            number = s.number;
            to = s.to;
            from = s.from;
            request = s.request;
            sent = s.sent;
            place = on s.place;
          }
        where
          on : In s.envelope (inbox script s.envelope.to h).copies ⊎ X s.envelope
              → In s.envelope (inbox script s.envelope.to h).copies ⊎ Y s.envelope
          on (inl there) = inl there
          on (inr taken) = inr (change r s member taken)

  -- another's entries leave the open input of an actor
  pub taken_stays : (older k : List Entry) (before after : List Bool) (e : Envelope)
      → deeds e.to [] (older ++ k) ≡ deeds e.to [] older → slice_get after e.to ≡ slice_get before e.to
      → IsTaken older before e → IsTaken (older ++ k) after e
  taken_stays older k before after e same place t =
      record { is_open = place ∙ t.is_open; before = t.before; last = same ∙ t.last }

  pub take_kept : (b : ℕ) (g : Input) (before : List Bool) (older : List Entry) → slice_get before b ≡ Some false
      → ready decl script b older ≡ Some g
      → deeds b [] (older ++ marked b (step_of g) ∷ []) ≡ deeds b [] older ++ Takes g ∷ [] → IsKept older before
      → IsKept (older ++ marked b (step_of g) ∷ []) (slice_set before b true)
  take_kept b g before older free rdy grown are r member =
      on (are r
      (subst (In r)
      (ap (λ (i : Inbox). i.unanswered) (inbox_after script a older (marked b (step_of g)))
      ∙ same_unanswered script a (inbox script a older) b g) member))
    where
      on : IsSomewhere script (IsTaken older before) older a r
          → IsSomewhere script (IsTaken (older ++ marked b (step_of g) ∷ []) (slice_set before b true))
          (older ++ marked b (step_of g) ∷ []) a r
      on s = record {
        envelope = s.envelope;
        number = s.number;
        to = s.to;
        from = s.from;
        request = s.request;
        sent = subst (In s.envelope) (sym (mail-taken older b g)) s.sent;
        place = spot s.place;
      }
        where
          copied : In s.envelope (inbox_at script s.envelope.to (inbox script s.envelope.to older) b (step_of g)).copies
              → In s.envelope (inbox script s.envelope.to (older ++ marked b (step_of g) ∷ [])).copies
          copied there =
              subst (λ (i : Inbox). In s.envelope i.copies)
              (sym (inbox_after script s.envelope.to older (marked b (step_of g)))) there

          here : b ≡ s.envelope.to → In s.envelope (inbox script s.envelope.to older).copies
              → In s.envelope (inbox script s.envelope.to (older ++ marked b (step_of g) ∷ [])).copies
              ⊎ IsTaken (older ++ marked b (step_of g) ∷ []) (slice_set before b true) s.envelope
          here is there =
              by (own_copies script decl b (inbox script b older) g s.envelope rdy
              (subst (λ (k : ℕ). In s.envelope (inbox script k older).copies) (sym is) there))
            where
              by : (g ≡ inputs.Got s.envelope)
                  ⊎ In s.envelope (inbox_at script b (inbox script b older) b (step_of g)).copies
                  → In s.envelope (inbox script s.envelope.to (older ++ marked b (step_of g) ∷ [])).copies
                  ⊎ IsTaken (older ++ marked b (step_of g) ∷ []) (slice_set before b true) s.envelope
              by (inl it) = inr (record {
                is_open =
                    subst (λ (k : ℕ). slice_get (slice_set before b true) k ≡ Some true) is
                    (slice_get-set_same before b true false free);
                before = deeds b [] older;
                last =
                    subst (λ (k : ℕ). deeds k [] (older ++ marked b (step_of g) ∷ [])
                    ≡ deeds b [] older ++ Takes (inputs.Got s.envelope) ∷ []) is
                    (grown ∙ ap (λ (x : Input). deeds b [] older ++ Takes x ∷ []) it);
              })
              by (inr still) =
                  inl (copied (subst (λ (k : ℕ). In s.envelope
                  (inbox_at script k (inbox script k older) b (step_of g)).copies) is still))

          spot : In s.envelope (inbox script s.envelope.to older).copies ⊎ IsTaken older before s.envelope
              → In s.envelope (inbox script s.envelope.to (older ++ marked b (step_of g) ∷ [])).copies
              ⊎ IsTaken (older ++ marked b (step_of g) ∷ []) (slice_set before b true) s.envelope
          spot (inl there) = at (s.envelope.to == b) refl
            where
              at : (t : Bool) → (s.envelope.to == b) ≡ t
                  → In s.envelope (inbox script s.envelope.to (older ++ marked b (step_of g) ∷ [])).copies
                  ⊎ IsTaken (older ++ marked b (step_of g) ∷ []) (slice_set before b true) s.envelope
              at true mine = here (sym (eqb-true s.envelope.to b mine)) there
              at false other =
                  inl (copied (copies_left script s.envelope.to (inbox script s.envelope.to older) b (step_of g)
                  (input_spares s.envelope.to b g other) s.envelope there))
          spot (inr t) =
              let differs : b ≡ s.envelope.to → ⊥ =
              λ is. (let one : slice_get before s.envelope.to ≡ Some false =
              subst (λ (k : ℕ). slice_get before k ≡ Some false) is free in
              let two : slice_get before s.envelope.to ≡ Some true = t.is_open in
              let never : ⊥ = cc in never) in
              inr (taken_stays older (marked b (step_of g) ∷ []) before (slice_set before b true) s.envelope
              (deeds-other b s.envelope.to [] older (step_of g ∷ []) (numbers_apart b s.envelope.to differs))
              (slice_get-set_other before b s.envelope.to true differs) t)
