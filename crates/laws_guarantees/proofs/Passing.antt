-- In each run of a script without rules and control lines each message passes: what was sent is taken or ready, in
-- order.
use Rattle.std.proofs.Common.{◌≡◌, ℕ, ◌+◌, ◌-◌, ◌==◌, Bool, true, false, if◌then◌else◌, List, [], ◌∷◌, ◌++◌, length}
use Rattle.std.proofs.Common.{Option, Some, None, slice_get, refl, sym, ap, ◌∙◌, subst, eq-eqb, eqb-true}
use Rattle.std.specs.Prelude.{drop}
use Rattle.std.specs.List.{cons_option}
use Rattle.std.specs.Option.{option_map_or}
use Rattle.std.proofs.lemmas.List.{append-nil, append_assoc}
use Rattle.std.proofs.lemmas.List.Elements.{filter-append, filter_map-append}
use Rattle.std.proofs.lemmas.List.Sums.{fold-append}
use Rattle.qc_list.proofs.Members.{every-at}
use Rattle.qc_core.specs.Vocabulary.{IsLawful}
use Rattle.qc_decl.specs.declared.declaration.Declaration.{Declaration}
use Rattle.qc_decl.specs.Vocabulary.{controller}
use Rattle.qc_msg.specs.declared.message.Envelope.{Envelope}
use Rattle.qc_msg.specs.declared.record.Record.{Record}
use Rattle.qc_msg.specs.declared.reply.Reply.{Reply}
use Rattle.qc_msg.specs.declared.step.Control.{Control}
use Rattle.qc_msg.specs.declared.step.Input.{Input}
use Rattle.qc_msg.specs.declared.step.Input.TheVariants as inputs
use Rattle.qc_msg.specs.declared.step.Step.TheVariants as steps
use Rattle.qc_msg.specs.declared.turn.Posting.{Posting}
use Rattle.qc_msg.specs.declared.turn.Turn.{Turn}
use Rattle.qc_msg.specs.Vocabulary.{Deed, Entry, Takes, by, deeds, envelopes, mail, marked, posted, sends_of, step_of}
use Rattle.qc_msg.specs.Vocabulary.{tells_of, turn_deeds, writes_of}
use Rattle.qc_msg.proofs.GrownMail.{mail-append, mail-posted, mail-taken}
use Rattle.qc_msg.proofs.DeedsGrow.{deeds-other}
use Rattle.qc_msg.proofs.Growth.{deeds-posted, deeds-taken}
use Rattle.qc_script.specs.Vocabulary.{Inbox, Runs, command_called, commands_for, copy_taken, empty_inbox, if_up, inbox}
use Rattle.qc_script.specs.Vocabulary.{inbox_at, is_up, opened, phase_begun, phase_of, ready}
use Rattle.qc_script.specs.Runs.{begins, takes, posts, phase, control}
use Rattle.qc_script.specs.declared.script.PhaseLines.{PhaseLines}
use Rattle.qc_script.specs.declared.script.Script.{Script}
use Rattle.laws_turns.proofs.Acted.{deeds-silent}
use Rattle.laws_turns.proofs.Arrivals.{what_is_ready_was_sent}
use Rattle.laws_turns.proofs.ReadyFirst.{ready_copy, ready_loss}
use Rattle.laws_turns.proofs.Numbered.{mail-silent, phase_silent}
use Rattle.laws_guarantees.specs.Vocabulary.{Arrives, IsCalm, IsLossless, message_in, sent_to, taken, taken_by}
use Rattle.laws_guarantees.specs.Vocabulary.{taken_in}
use Rattle.laws_guarantees.proofs.Calm.{after, turn_calm}

-- in each run

module _ (decl : Declaration) (script : Script) (calm : IsLossless script) where
  inbox_after : (a : ℕ) (h k : List Entry) → inbox script a (h ++ k) ≡ after script a (inbox script a h) k
  inbox_after a h k = fold-append (λ (i : Inbox) (e : Entry). inbox_at script a i e.actor e.step) empty_inbox h k

  -- an actor takes what is ready

  taken_same : (a b : ℕ) (g : Input) (h : List Entry) → (b == a) ≡ false
      → taken a (h ++ marked b (step_of g) ∷ []) ≡ taken a h
  taken_same a b g h other = ap taken_in (deeds-other b a [] h (step_of g ∷ []) other)

  kept_by_other : (a b : ℕ) (g : Input) (copies : List Envelope) (i : Inbox) → (b == a) ≡ false → IsCalm copies i
      → IsCalm copies (inbox_at script a i b (step_of g))
  kept_by_other a b (inputs.Called command) copies i other c =
      subst (λ (t : Bool). IsCalm copies (if t then record i { commands = drop 1 i.commands; busy = true } else i))
      (sym other) c
  kept_by_other a b (inputs.Got e) copies i other c =
      subst (λ (t : Bool). IsCalm copies (if t then record i { copies = drop 1 i.copies } else i)) (sym other) c
  kept_by_other a b (inputs.Lost n) copies i other c =
      subst (λ (t : Bool). IsCalm copies (if t then record i { lost = drop 1 i.lost } else i)) (sym other) c

  -- the taker, which takes the first copy, or a command

  abbrev Stands : ℕ → List Envelope → List Envelope → Inbox → List Deed → Type 0
  Stands a copies sent i ds = IsCalm copies i × (taken_in ds ++ copies ≡ sent)

  nothing_taken : (ds : List Deed) (g : Input) → message_in g ≡ None → taken_in (ds ++ Takes g ∷ []) ≡ taken_in ds
  nothing_taken ds g none =
      filter_map-append taken_by ds (Takes g ∷ []) ∙ ap (λ (o : Option Envelope). taken_in ds ++ cons_option o []) none
      ∙ append-nil (taken_in ds)

  own_kept : (a : ℕ) (g : Input) (h : List Entry) (before : List Bool) → Runs (IsLawful decl) decl script h before
      → ready decl script a h ≡ Some g → Arrives script a h → Arrives script a (h ++ marked a (step_of g) ∷ [])
  own_kept a g h before run rdy r = by g refl
    where
      here : (a == a) ≡ true
      here = eq-eqb a a refl

      grown : deeds a [] (h ++ marked a (step_of g) ∷ []) ≡ deeds a [] h ++ Takes g ∷ []
      grown = deeds-taken a h g (what_is_ready_was_sent (IsLawful decl) decl script h before run a g rdy)

      sent : mail (h ++ marked a (step_of g) ∷ []) ≡ mail h
      sent = mail-taken h a g

      now : inbox script a (h ++ marked a (step_of g) ∷ []) ≡ inbox_at script a (inbox script a h) a (step_of g)
      now = inbox_after a h (marked a (step_of g) ∷ [])

      c : IsCalm r.ready (inbox script a h)
      c = r.calm

      by : (x : Input) → g ≡ x → Arrives script a (h ++ marked a (step_of g) ∷ [])
      by (inputs.Called command) is = record {
        ready = r.ready;
        calm = subst (IsCalm r.ready) (sym (now ∙ ap
            (λ (x : Input). inbox_at script a (inbox script a h) a (step_of x)) is
            ∙ ap (λ (t : Bool). if t then command_called (inbox script a h) else inbox script a h) here))
            (record {
              copies = c.copies;
              lost = c.lost;
              late = c.late;
              opening = c.opening;
              cuts = c.cuts;
              up = c.up;
              controls = c.controls;
            });
        in_order =
            ap (λ (v : List Envelope). v ++ r.ready)
            (ap taken_in grown ∙ nothing_taken (deeds a [] h) g (ap message_in is))
            ∙ r.in_order ∙ ap (sent_to a) (sym sent);
      }
      by (inputs.Lost n) is =
          let lost : (inbox script a h).lost ≡ n ∷ drop 1 (inbox script a h).lost =
          ready_loss decl a (inbox script a h) n (rdy ∙ ap (λ (x : Input). Some x) is) in
          let none : (inbox script a h).lost ≡ [] = c.lost in
          absurd (let never : ⊥ = cc in never)
      by (inputs.Got e) is =
          let first : (inbox script a h).copies ≡ e ∷ drop 1 (inbox script a h).copies =
          ready_copy decl a (inbox script a h) e (rdy ∙ ap (λ (x : Input). Some x) is) in
          let split : r.ready ≡ e ∷ drop 1 r.ready = sym c.copies ∙ first
          ∙ ap (λ (v : List Envelope). e ∷ drop 1 v) c.copies in
          record {
            ready = drop 1 r.ready;
            calm = subst (IsCalm (drop 1 r.ready)) (sym
                (now ∙ ap (λ (x : Input). inbox_at script a (inbox script a h) a (step_of x)) is
                ∙ ap (λ (t : Bool). if t then copy_taken (inbox script a h) else inbox script a h) here))
                (record {
                  copies = ap (λ (v : List Envelope). drop 1 v) c.copies;
                  lost = c.lost;
                  late = c.late;
                  opening = c.opening;
                  cuts = c.cuts;
                  up = c.up;
                  controls = c.controls;
                });
            in_order =
                ap (λ (v : List Envelope). v ++ drop 1 r.ready)
                (ap taken_in grown ∙ filter_map-append taken_by (deeds a [] h) (Takes g ∷ [])
                ∙ ap (λ (x : Input). taken a h ++ cons_option (message_in x) []) is)
                ∙ append_assoc (taken a h) (e ∷ []) (drop 1 r.ready)
                ∙ ap (λ (v : List Envelope). taken a h ++ v) (sym split) ∙ r.in_order ∙ ap (sent_to a) (sym sent);
          }

  other_kept : (a b : ℕ) (g : Input) (h : List Entry) → (b == a) ≡ false → Arrives script a h
      → Arrives script a (h ++ marked b (step_of g) ∷ [])
  other_kept a b g h other r = record {
    ready = r.ready;
    calm = subst (IsCalm r.ready) (sym (inbox_after a h (marked b (step_of g) ∷ [])))
        (kept_by_other a b g r.ready (inbox script a h) other r.calm);
    in_order = ap (λ (v : List Envelope). v ++ r.ready) (taken_same a b g h other) ∙ r.in_order
        ∙ ap (sent_to a) (sym (mail-taken h b g));
  }

  -- a turn is posted

  turn_takes_none : (n : ℕ) (turn : Turn) → taken_in (turn_deeds n turn) ≡ []
  turn_takes_none n turn =
      filter_map-append taken_by (writes_of turn.write) (sends_of n turn.sends ++ tells_of turn.told)
      ∙ ap (λ (v : List Envelope). v ++ taken_in (sends_of n turn.sends ++ tells_of turn.told))
      (none_written turn.write)
      ∙ filter_map-append taken_by (sends_of n turn.sends) (tells_of turn.told)
      ∙ ap (λ (v : List Envelope). v ++ taken_in (tells_of turn.told)) (none_sent n turn.sends)
      ∙ none_told turn.told
    where
      none_written : (o : Option Record) → taken_in (writes_of o) ≡ []
      none_written None = refl
      none_written (Some written) = refl

      none_sent : (n : ℕ) (ps : List Posting) → taken_in (sends_of n ps) ≡ []
      none_sent n [] = refl
      none_sent n (p ∷ ps) = none_sent (n + 1) ps

      none_told : (o : Option Reply) → taken_in (tells_of o) ≡ []
      none_told None = refl
      none_told (Some reply) = refl

  posts_kept : (a b : ℕ) (turn : Turn) (h : List Entry) → Arrives script a h
      → Arrives script a (h ++ by b (posted (length (mail h)) turn))
  posts_kept a b turn h r = record {
    ready = r.ready ++ sent_to a (envelopes b (length (mail h)) turn.sends);
    calm = subst (IsCalm (r.ready ++ sent_to a (envelopes b (length (mail h)) turn.sends)))
        (sym (inbox_after a h (by b (posted (length (mail h)) turn))))
        (turn_calm script a calm.links b (length (mail h)) turn r.ready (inbox script a h) r.calm);
    in_order =
        sym (append_assoc (taken a (h ++ by b (posted (length (mail h)) turn))) r.ready
        (sent_to a (envelopes b (length (mail h)) turn.sends)))
        ∙ ap (λ (v : List Envelope). (v ++ r.ready) ++ sent_to a (envelopes b (length (mail h)) turn.sends))
        (same (b == a) refl)
        ∙ ap (λ (v : List Envelope). v ++ sent_to a (envelopes b (length (mail h)) turn.sends)) r.in_order
        ∙ sym (filter-append (λ (e : Envelope). e.to == a) (mail h) (envelopes b (length (mail h)) turn.sends))
        ∙ ap (sent_to a) (sym (mail-append h (by b (posted (length (mail h)) turn))
        ∙ ap (λ (v : List Envelope). mail h ++ v) (mail-posted b (length (mail h)) turn)));
  } where
    same : (t : Bool) → (b == a) ≡ t → taken a (h ++ by b (posted (length (mail h)) turn)) ≡ taken a h
    same true is =
        subst (λ (k : ℕ). taken k (h ++ by b (posted (length (mail h)) turn)) ≡ taken k h) (eqb-true b a is)
        (ap taken_in (deeds-posted b (length (mail h)) h turn)
        ∙ filter_map-append taken_by (deeds b [] h) (turn_deeds (length (mail h)) turn)
        ∙ ap (λ (v : List Envelope). taken b h ++ v) (turn_takes_none (length (mail h)) turn) ∙ append-nil (taken b h))
    same false other = ap taken_in (deeds-other b a [] h (posted (length (mail h)) turn) other)

  -- a phase begins

  none_late : (up : Bool) → if_up up [] ≡ []
  none_late true = refl
  none_late false = refl

  phase_calm : (a : ℕ) (copies : List Envelope) (i : Inbox) (o : Option PhaseLines)
      → ((p : PhaseLines) → o ≡ Some p → p.controls ≡ []) → IsCalm copies i
      → IsCalm copies (option_map_or (phase_begun a i) o i)
  phase_calm a copies i None none c = c
  phase_calm a copies i (Some p) none c =
      subst (λ (lines : List Control). IsCalm copies
      (opened a (record i {
        opening = i.opening ++ i.late;
        late = [];
        controls = lines;
        commands = i.commands ++ commands_for a p.commands;
      }))) (sym (none p refl))
      (record {
        copies =
            ap (λ (v : List Envelope). if_up (is_up i.up a) (v ++ i.late) ++ i.copies) c.opening
            ∙ ap (λ (v : List Envelope). if_up (is_up i.up a) v ++ i.copies) c.late
            ∙ ap (λ (v : List Envelope). v ++ i.copies) (none_late (is_up i.up a)) ∙ c.copies;
        lost = c.lost;
        late = refl;
        opening = refl;
        cuts = c.cuts;
        up = c.up;
        controls = refl;
      })

  phase_kept : (a b k : ℕ) (h : List Entry) → Arrives script a h → Arrives script a (h ++ marked b (steps.Phase k) ∷ [])
  phase_kept a b k h r = record {
    ready = r.ready;
    calm = subst (IsCalm r.ready) (sym (inbox_after a h (marked b (steps.Phase k) ∷ [])))
        (phase_calm a r.ready (inbox script a h) (slice_get script.phases (k - 1))
        (λ p is. every-at (λ (p : PhaseLines). p.controls ≡ []) script.phases (k - 1) p calm.controls is) r.calm);
    in_order =
        ap (λ (v : List Envelope). v ++ r.ready) (ap taken_in (deeds-silent a b h (steps.Phase k) (phase_silent k)))
        ∙ r.in_order ∙ ap (sent_to a) (sym (mail-silent h b (steps.Phase k) (phase_silent k)));
  }

  pub run_arrives_in : (h : List Entry) (open_inputs : List Bool) → Runs (IsLawful decl) decl script h open_inputs
      → (a : ℕ) → Arrives script a h
  run_arrives_in h open_inputs begins a = record {
    ready = [];
    calm = record {
      copies = refl;
      lost = refl;
      late = refl;
      opening = refl;
      cuts = refl;
      up = refl;
      controls = refl;
    };
    in_order = refl;
  }
  run_arrives_in h open_inputs (takes b g before older run free rdy) a =
      at (b == a) refl (run_arrives_in older before run a)
    where
      at : (t : Bool) → (b == a) ≡ t → Arrives script a older → Arrives script a (older ++ marked b (step_of g) ∷ [])
      at true is r =
          subst (λ (k : ℕ). Arrives script a (older ++ marked k (step_of g) ∷ [])) (sym (eqb-true b a is))
          (own_kept a g older before run (subst (λ (k : ℕ). ready decl script k older ≡ Some g) (eqb-true b a is) rdy)
          r)
      at false other r = other_kept a b g older other r
  run_arrives_in h open_inputs (posts b turn before older run open_still lawful) a =
      posts_kept a b turn older (run_arrives_in older before run a)
  run_arrives_in h open_inputs (phase before older run none done quiet more) a =
      phase_kept a (controller decl) (phase_of older + 1) older (run_arrives_in older before run a)
  run_arrives_in h open_inputs (control line lines step before older run left is) a =
      let r : Arrives script 0 older = run_arrives_in older before run 0 in
      let none : (inbox script 0 older).controls ≡ [] = r.calm.controls in
      absurd (let never : ⊥ = cc in never)

pub no_request_is_lost : (decl : Declaration) (script : Script) (h : List Entry) (open_inputs : List Bool)
    → IsLossless script → Runs (IsLawful decl) decl script h open_inputs → (a : ℕ) → Arrives script a h
no_request_is_lost decl script h open_inputs calm run a = run_arrives_in decl script calm h open_inputs run a
