-- An actor takes what is ready; another's entries leave its open input, and a request is at its site.
use Rattle.std.proofs.Common.{[], ◌≡◌, ℕ, ◌<◌, ◌≤◌, ◌==◌, ◌⊎◌, Bool, true, false, if◌then◌else◌, inl, inr}
use Rattle.std.proofs.Common.{List, ◌∷◌, ◌++◌, drop, Some, slice_get, refl, sym, ap, ◌∙◌, subst, eqb-true, eq-eqb}
use Rattle.std.specs.Prelude.{slice_set, MatchOption}
use Rattle.std.specs.Bool.{MatchBool}
use Rattle.std.proofs.lemmas.List.Sums.{fold-append}
use Rattle.qc_list.specs.Vocabulary.{In}
use Rattle.qc_decl.specs.declared.declaration.Declaration.{Declaration}
use Rattle.qc_decl.specs.Vocabulary.{IsAccepted}
use Rattle.qc_link.specs.Vocabulary.{most_actors}
use Rattle.qc_msg.specs.declared.message.Envelope.{Envelope}
use Rattle.qc_msg.specs.declared.message.Message.{Message}
use Rattle.qc_msg.specs.declared.message.Message.TheVariants as messages
use Rattle.qc_msg.specs.declared.step.Input.{Input}
use Rattle.qc_msg.specs.declared.step.Input.TheVariants as inputs
use Rattle.qc_msg.specs.declared.step.Step.{Step}
use Rattle.qc_msg.specs.Vocabulary.{Deed, Entry, Takes, deeds, marked, quiet, step_of, Requested, wants_answer}
use Rattle.qc_msg.proofs.GrownMail.{mail-taken}
use Rattle.qc_msg.proofs.DeedsGrow.{deeds-other}
use Rattle.qc_script.specs.declared.script.Script.{Script}
use Rattle.qc_script.specs.Vocabulary.{Inbox, SentRequest, command_called, copy_taken, empty_inbox, inbox, inbox_at}
use Rattle.qc_script.specs.Vocabulary.{is_request, loss_taken, request_numbers}
use Rattle.qc_site.specs.Vocabulary.{SiteState, moved, new_site, passed, site_after, site_at, site_does}
use Rattle.laws_turns.specs.Vocabulary.{AsksDeclared, IsTaken}
use Rattle.laws_turns.proofs.StepsKeep.{AreSomewhere, IsSomewhere}
use Rattle.laws_turns.proofs.SiteReplies.{IsProperFrom, IsReply, request_reply}
use Rattle.laws_turns.proofs.MessageCases.{message_cases}
use Rattle.laws_turns.proofs.Rounds.{IsProper}
use Rattle.qc_list.proofs.Places.{slice_get-set_other, slice_get-set_same}

-- what a site's turn for a request begins with

pub record IsDeclared (decl : Declaration) (e : Envelope) : Type 0 where
  pub site : e.to < decl.sites
  pub past : decl.sites ≤ e.from
  pub replies : (s : SiteState) → IsReply e.from e.number (site_at decl s e.from e.number e.message)

pub declared_request : (decl : Declaration) (e : Envelope) (m : Message) → e.message ≡ m → is_request m ≡ true
    → IsProperFrom decl e.from e.to m → IsDeclared decl e
declared_request decl e m is request p =
    message_cases
    (λ m r a d i. e.message ≡ m → is_request m ≡ true → MatchOption r (MatchBool (wants_answer m) ⊥ (Unit {0}))
    (λ (q : Requested). (decl.sites ≤ e.from) × IsProper decl e.to (messages.Request q.tx q.epoch q.life q.want))
    → IsDeclared decl e)
    (λ q is request p. record {
      site = p.1.0;
      past = p.0;
      replies = λ s. subst (λ (m : Message). IsReply e.from e.number (site_at decl s e.from e.number m)) (sym is)
          (request_reply decl s e.from e.number q.tx q.epoch q.life q.want p.1.1);
    })
    (λ a is request p. absurd (let never : ⊥ = cc in never)) (λ v is request p. absurd (let never : ⊥ = cc in never))
    (λ tx is request p. absurd (let never : ⊥ = cc in never))
    (λ m is request p. absurd (subst (λ (t : Bool). MatchBool t ⊥ (Unit {0})) request p)) m is request p

pub site_turn : (decl : Declaration) (b : ℕ) (before : List Deed) (e : Envelope)
    → site_after decl b (before ++ Takes (inputs.Got e) ∷ [])
    ≡ site_at decl (passed (site_after decl b before).site e.message) e.from e.number e.message
site_turn decl b before e = fold-append (site_does decl) (moved (new_site b) quiet) before (Takes (inputs.Got e) ∷ [])

module _ (decl : Declaration) (script : Script) (accepted : IsAccepted decl) (asks : AsksDeclared decl script) (a : ℕ)
    (a_low : a < most_actors) where
  abbrev pub IsKept : List Entry → List Bool → Type 0
  IsKept h open_inputs = AreSomewhere script (IsTaken h open_inputs) h a

  inbox_then : (s : ℕ) (h : List Entry) (b : ℕ) (step : Step)
      → inbox script s (h ++ marked b step ∷ []) ≡ inbox_at script s (inbox script s h) b step
  inbox_then s h b step =
      fold-append (λ (i : Inbox) (e : Entry). inbox_at script s i e.actor e.step) empty_inbox h (marked b step ∷ [])

  -- where else it may be, as that becomes another
  pub moved_to : (X Y : Envelope → Type 0) (h : List Entry)
      → ((n : ℕ) (r : IsSomewhere script X h a n) → In n (request_numbers (inbox script a h).unanswered) → X r.envelope
      → Y r.envelope) → AreSomewhere script X h a → AreSomewhere script Y h a
  moved_to X Y h change are n member = at (are n member)
    where
      at : IsSomewhere script X h a n → IsSomewhere script Y h a n
      at r =
          record {
            envelope = r.envelope;
            number = r.number;
            from = r.from;
            request = r.request;
            proper = r.proper;
            place = on r.place;
          }
        where
          on : In r.envelope (inbox script r.envelope.to h).copies ⊎ X r.envelope
              → In r.envelope (inbox script r.envelope.to h).copies ⊎ Y r.envelope
          on (inl there) = inl there
          on (inr taken) = inr (change n r member taken)

  -- another's entries leave the open input of an actor

  pub taken_stays : (older k : List Entry) (before after : List Bool) (e : Envelope)
      → deeds e.to [] (older ++ k) ≡ deeds e.to [] older → slice_get after e.to ≡ slice_get before e.to
      → IsTaken older before e → IsTaken (older ++ k) after e
  taken_stays older k before after e same place t =
      record { is_open = place ∙ t.is_open; before = t.before; last = same ∙ t.last }

  pub flip : (x y : ℕ) → (x ≡ y → ⊥) → (x == y) ≡ false
  flip x y differs = at (x == y) refl
    where
      at : (t : Bool) → (x == y) ≡ t → t ≡ false
      at true same = absurd (differs (eqb-true x y same))
      at false other = refl

  -- an actor takes what is ready

  same_unanswered : (i : Inbox) (b : ℕ) (taken : Input)
      → (inbox_at script a i b (step_of taken)).unanswered ≡ i.unanswered
  same_unanswered i b (inputs.Called command) = at (b == a)
    where
      at : (t : Bool) → (if t then command_called i else i).unanswered ≡ i.unanswered
      at true = refl
      at false = refl
  same_unanswered i b (inputs.Got e) = at (b == a)
    where
      at : (t : Bool) → (if t then copy_taken i else i).unanswered ≡ i.unanswered
      at true = refl
      at false = refl
  same_unanswered i b (inputs.Lost n) = at (b == a)
    where
      at : (t : Bool) → (if t then loss_taken i else i).unanswered ≡ i.unanswered
      at true = refl
      at false = refl

  -- the copies of an actor that isn't the taker, or takes no message
  other_copies : (s : ℕ) (i : Inbox) (b : ℕ) (taken : Input) (x : Envelope) → (b == s) ≡ false → In x i.copies
      → In x (inbox_at script s i b (step_of taken)).copies
  other_copies s i b (inputs.Called command) x other there =
      subst (λ (t : Bool). In x (if t then command_called i else i).copies) (sym other) there
  other_copies s i b (inputs.Got e) x other there =
      subst (λ (t : Bool). In x (if t then copy_taken i else i).copies) (sym other) there
  other_copies s i b (inputs.Lost n) x other there =
      subst (λ (t : Bool). In x (if t then loss_taken i else i).copies) (sym other) there

  own_copies : (b : ℕ) (i : Inbox) (taken : Input) (x : Envelope) → (b == b) ≡ true → (taken ≡ inputs.Got x → ⊥)
      → ((e : Envelope) → taken ≡ inputs.Got e → i.copies ≡ e ∷ drop 1 i.copies) → In x i.copies
      → In x (inbox_at script b i b (step_of taken)).copies
  own_copies b i (inputs.Called command) x mine not_it head there =
      subst (λ (t : Bool). In x (if t then command_called i else i).copies) (sym mine) there
  own_copies b i (inputs.Lost n) x mine not_it head there =
      subst (λ (t : Bool). In x (if t then loss_taken i else i).copies) (sym mine) there
  own_copies b i (inputs.Got e) x mine not_it head there =
      subst (λ (t : Bool). In x (if t then copy_taken i else i).copies) (sym mine)
      (at (subst (In x) (head e refl) there))
    where
      at : In x (e ∷ drop 1 i.copies) → In x (drop 1 i.copies)
      at (inl same) = absurd (not_it (ap (λ (v : Envelope). inputs.Got v) (sym same)))
      at (inr later) = later

  head_of : (b : ℕ) (i : Inbox) (taken : Input)
      → ((e : Envelope) → taken ≡ inputs.Got e → i.copies ≡ e ∷ drop 1 i.copies) → (x : Envelope) → In x i.copies
      → (taken ≡ inputs.Got x) ⊎ ((taken ≡ inputs.Got x → ⊥) ⊎ In x (drop 1 i.copies))
  head_of b i (inputs.Called command) head x there = inr (inl (λ same. let never : ⊥ = cc in never))
  head_of b i (inputs.Lost n) head x there = inr (inl (λ same. let never : ⊥ = cc in never))
  head_of b i (inputs.Got e) head x there = at (subst (In x) (head e refl) there)
    where
      at : In x (e ∷ drop 1 i.copies)
          → (inputs.Got e ≡ inputs.Got x) ⊎ ((inputs.Got e ≡ inputs.Got x → ⊥) ⊎ In x (drop 1 i.copies))
      at (inl same) = inl (ap (λ (v : Envelope). inputs.Got v) (sym same))
      at (inr later) = inr (inr later)

  rest_copies : (b : ℕ) (i : Inbox) (taken : Input) (x : Envelope) → (b == b) ≡ true → In x (drop 1 i.copies)
      → In x i.copies → In x (inbox_at script b i b (step_of taken)).copies
  rest_copies b i (inputs.Called command) x mine later there =
      subst (λ (t : Bool). In x (if t then command_called i else i).copies) (sym mine) there
  rest_copies b i (inputs.Lost n) x mine later there =
      subst (λ (t : Bool). In x (if t then loss_taken i else i).copies) (sym mine) there
  rest_copies b i (inputs.Got e) x mine later there =
      subst (λ (t : Bool). In x (if t then copy_taken i else i).copies) (sym mine) later

  pub take_kept : (b : ℕ) (taken : Input) (before : List Bool) (older : List Entry) → slice_get before b ≡ Some false
      → ((e : Envelope) → taken ≡ inputs.Got e
      → (inbox script b older).copies ≡ e ∷ drop 1 (inbox script b older).copies)
      → deeds b [] (older ++ marked b (step_of taken) ∷ []) ≡ deeds b [] older ++ Takes taken ∷ [] → IsKept older before
      → IsKept (older ++ marked b (step_of taken) ∷ []) (slice_set before b true)
  take_kept b taken before older free head grown are n member =
      on (are n
      (subst (λ (rs : List SentRequest). In n (request_numbers rs)) (same_unanswered (inbox script a older) b taken)
      (subst (λ (i : Inbox). In n (request_numbers i.unanswered)) (inbox_then a older b (step_of taken)) member)))
    where
      on : IsSomewhere script (IsTaken older before) older a n
          → IsSomewhere script (IsTaken (older ++ marked b (step_of taken) ∷ []) (slice_set before b true))
          (older ++ marked b (step_of taken) ∷ []) a n
      on r = record {
        envelope = r.envelope;
        number = r.number;
        from = r.from;
        request = r.request;
        proper = subst (In r.envelope) (sym (mail-taken older b taken)) r.proper;
        place = spot r.place;
      }
        where
          x : Envelope
          x = r.envelope

          copied : In r.envelope
              (inbox_at script r.envelope.to (inbox script r.envelope.to older) b (step_of taken)).copies
              → In r.envelope (inbox script r.envelope.to (older ++ marked b (step_of taken) ∷ [])).copies
          copied there =
              subst (λ (i : Inbox). In r.envelope i.copies) (sym (inbox_then r.envelope.to older b (step_of taken)))
              there

          here : (b == r.envelope.to) ≡ true → In r.envelope (inbox script r.envelope.to older).copies
              → In r.envelope (inbox script r.envelope.to (older ++ marked b (step_of taken) ∷ [])).copies
              ⊎ IsTaken (older ++ marked b (step_of taken) ∷ []) (slice_set before b true) r.envelope
          here mine there =
              by (head_of b (inbox script b older) taken head r.envelope
              (subst (λ (s : ℕ). In r.envelope (inbox script s older).copies) (sym is) there))
            where
              is : b ≡ r.envelope.to
              is = eqb-true b r.envelope.to mine

              back : In r.envelope (inbox_at script b (inbox script b older) b (step_of taken)).copies
                  → In r.envelope (inbox script r.envelope.to (older ++ marked b (step_of taken) ∷ [])).copies
              back there_now =
                  copied (subst (λ (s : ℕ). In r.envelope
                  (inbox_at script s (inbox script s older) b (step_of taken)).copies) is there_now)

              mine_copies : In r.envelope (inbox script b older).copies
              mine_copies = subst (λ (s : ℕ). In r.envelope (inbox script s older).copies) (sym is) there

              by : (taken ≡ inputs.Got r.envelope)
                  ⊎ ((taken ≡ inputs.Got r.envelope → ⊥) ⊎ In r.envelope (drop 1 (inbox script b older).copies))
                  → In r.envelope (inbox script r.envelope.to (older ++ marked b (step_of taken) ∷ [])).copies
                  ⊎ IsTaken (older ++ marked b (step_of taken) ∷ []) (slice_set before b true) r.envelope
              by (inl it) = inr (record {
                is_open =
                    subst (λ (s : ℕ). slice_get (slice_set before b true) s ≡ Some true) is
                    (slice_get-set_same before b true false free);
                before = deeds b [] older;
                last =
                    subst (λ (s : ℕ). deeds s [] (older ++ marked b (step_of taken) ∷ [])
                    ≡ deeds b [] older ++ Takes (inputs.Got r.envelope) ∷ []) is
                    (grown ∙ ap (λ (g : Input). deeds b [] older ++ Takes g ∷ []) it);
              })
              by (inr (inl not_it)) =
                  inl (back (own_copies b (inbox script b older) taken r.envelope (eq-eqb b b refl) not_it head
                  mine_copies))
              by (inr (inr later)) =
                  inl (back (rest_copies b (inbox script b older) taken r.envelope (eq-eqb b b refl) later mine_copies))

          spot : In r.envelope (inbox script r.envelope.to older).copies ⊎ IsTaken older before r.envelope
              → In r.envelope (inbox script r.envelope.to (older ++ marked b (step_of taken) ∷ [])).copies
              ⊎ IsTaken (older ++ marked b (step_of taken) ∷ []) (slice_set before b true) r.envelope
          spot (inl there) = at (b == r.envelope.to) refl
            where
              at : (t : Bool) → (b == r.envelope.to) ≡ t
                  → In r.envelope (inbox script r.envelope.to (older ++ marked b (step_of taken) ∷ [])).copies
                  ⊎ IsTaken (older ++ marked b (step_of taken) ∷ []) (slice_set before b true) r.envelope
              at true mine = here mine there
              at false other =
                  inl (copied (other_copies r.envelope.to (inbox script r.envelope.to older) b taken r.envelope other
                  there))
          spot (inr t) =
              let apart : b ≡ r.envelope.to → ⊥ =
              λ is. (let one : slice_get before r.envelope.to ≡ Some false =
              subst (λ (s : ℕ). slice_get before s ≡ Some false) is free in
              let two : slice_get before r.envelope.to ≡ Some true = t.is_open in
              let never : ⊥ = cc in never) in
              inr (taken_stays older (marked b (step_of taken) ∷ []) before (slice_set before b true) r.envelope
              (deeds-other b r.envelope.to [] older (step_of taken ∷ []) (flip b r.envelope.to apart))
              (slice_get-set_other before b r.envelope.to true apart) t)
