-- Whether an actor is down by its deeds, as a history goes on; and the tie of that to who is up in an inbox.
use Rattle.std.proofs.Common.{◌≡◌, ℕ, zero, suc, ◌+◌, ◌<◌, ◌==◌, Bool, true, false, not, cond, List, [], ◌∷◌, ◌++◌}
use Rattle.std.proofs.Common.{length, Option, Some, None, refl, ap, sym, subst, ◌∙◌, append_assoc, arith}
use Rattle.std.specs.Prelude.{set, slice_get}
use Rattle.std.specs.List.{fold}
use Rattle.std.proofs.lemmas.Bool.{eqb-false, eqb-true}
use Rattle.std.proofs.lemmas.List.{append-nil, get_or-set_other, get_or-set_same}
use Rattle.std.proofs.lemmas.List.Sums.{fold-append}
use Rattle.qc_link.specs.Vocabulary.{most_actors}
use Rattle.qc_msg.specs.declared.message.Envelope.{Envelope}
use Rattle.qc_msg.specs.declared.record.Record.{Record}
use Rattle.qc_msg.specs.declared.reply.Reply.{Reply}
use Rattle.qc_msg.specs.declared.step.Input.{Input}
use Rattle.qc_msg.specs.declared.step.Input.TheVariants as inputs
use Rattle.qc_msg.specs.declared.step.Step.{Step}
use Rattle.qc_msg.specs.declared.step.Step.TheVariants as steps
use Rattle.qc_msg.specs.declared.turn.Appended.{Appended}
use Rattle.qc_msg.specs.declared.turn.Appended.TheVariants.{Done, Failed, Stopped}
use Rattle.qc_msg.specs.declared.turn.Posting.{Posting}
use Rattle.qc_msg.specs.declared.turn.Turn.{Turn}
use Rattle.qc_msg.specs.Vocabulary.{Deed, Entry, by, deed_at, deeds, deeds_as, heard, mail, marked, posted_as, sends_of}
use Rattle.qc_msg.specs.Vocabulary.{step_of, tells_of, turn_deeds, writes_of}
use Rattle.qc_msg.proofs.DeedsGrow.{deeds-append, deeds-other}
use Rattle.qc_msg.proofs.Growth.{deeds-posted_as}
use Rattle.qc_script.specs.Vocabulary.{is_up}
use Rattle.qc_mailbox.specs.Vocabulary.{down_at, is_down}
use Rattle.qc_list.proofs.Numbers.{number_same}

-- a step more

pub down_step : (a : ℕ) (h : List Entry) (step : Step)
    → is_down (deeds a [] (h ++ marked a step ∷ [])) ≡ fold down_at (is_down (deeds a [] h)) (deed_at (mail h) step)
down_step a h step =
    ap is_down (deeds-append a [] h (marked a step ∷ []))
    ∙ fold-append down_at false (deeds a [] h) (deeds a (mail h) (marked a step ∷ []))
    ∙ ap (λ (t : Bool). fold down_at (is_down (deeds a [] h)) (cond t (deed_at (mail h) step) [] ++ [])) (number_same a)
    ∙ ap (λ (ds : List Deed). fold down_at (is_down (deeds a [] h)) ds) (append-nil (deed_at (mail h) step))

-- a step that is no deed, whoever makes it
pub down_silent : (a c : ℕ) (h : List Entry) (step : Step) → deed_at (mail h) step ≡ []
    → is_down (deeds a [] (h ++ marked c step ∷ [])) ≡ is_down (deeds a [] h)
down_silent a c h step none =
    ap is_down (deeds-append a [] h (marked c step ∷ []))
    ∙ fold-append down_at false (deeds a [] h) (deeds a (mail h) (marked c step ∷ []))
    ∙ ap (λ (ds : List Deed). fold down_at (is_down (deeds a [] h)) (cond (c == a) ds [] ++ [])) none
    ∙ nothing (c == a)
  where
    nothing : (t : Bool) → fold down_at (is_down (deeds a [] h)) (cond {A = List Deed} t [] [] ++ []) ≡ is_down
        (deeds a [] h)
    nothing true = refl
    nothing false = refl

heard_keeps : (down : Bool) (o : Option Envelope) → fold down_at down (heard o) ≡ down
heard_keeps down None = refl
heard_keeps down (Some e) = refl

pub input_keeps : (down : Bool) (ms : List Envelope) (g : Input) → fold down_at down (deed_at ms (step_of g)) ≡ down
input_keeps down ms (inputs.Called command) = refl
input_keeps down ms (inputs.Got e) = heard_keeps down (slice_get ms e.number)
input_keeps down ms (inputs.Lost number) = refl

-- a post

sends_keep : (down : Bool) (n : ℕ) (ps : List Posting) (more : List Deed)
    → fold down_at down (sends_of n ps ++ more) ≡ fold down_at down more
sends_keep down n [] more = refl
sends_keep down n (p ∷ ps) more = sends_keep down (n + 1) ps more

tells_keep : (down : Bool) (reply : Option Reply) (more : List Deed)
    → fold down_at down (tells_of reply ++ more) ≡ fold down_at down more
tells_keep down None more = refl
tells_keep down (Some reply) more = refl

tells_alone : (down : Bool) (reply : Option Reply) → fold down_at down (tells_of reply) ≡ down
tells_alone down None = refl
tells_alone down (Some reply) = refl

done_keeps : (down : Bool) (n : ℕ) (turn : Turn) → fold down_at down (turn_deeds n turn) ≡ down
done_keeps down n turn = at turn.write
  where
    at : (w : Option Record) → fold down_at down (writes_of w ++ (sends_of n turn.sends ++ tells_of turn.told)) ≡ down
    at None = sends_keep down n turn.sends (tells_of turn.told) ∙ tells_alone down turn.told
    at (Some written) = sends_keep down n turn.sends (tells_of turn.told) ∙ tells_alone down turn.told

-- whether its record was written
abbrev pub ends_down : Appended → Bool → Bool
ends_down Done down = down
ends_down Failed down = true
ends_down Stopped down = true

post_downs : (end : Appended) (down : Bool) (n : ℕ) (turn : Turn)
    → fold down_at down (deeds_as end n turn) ≡ ends_down end down
post_downs Done down n turn = done_keeps down n turn
post_downs Failed down n turn = sends_keep down n turn.failed_sends _ ∙ tells_keep down turn.failed_told _
post_downs Stopped down n turn = tells_keep down turn.failed_told _

pub down_posted : (end : Appended) (a n : ℕ) (h : List Entry) (turn : Turn)
    → is_down (deeds a [] (h ++ by a (posted_as end n turn))) ≡ ends_down end (is_down (deeds a [] h))
down_posted end a n h turn =
    ap is_down (deeds-posted_as end a n h turn) ∙ fold-append down_at false (deeds a [] h) (deeds_as end n turn)
    ∙ post_downs end (is_down (deeds a [] h)) n turn

-- a rise
pub down_risen : (end : Appended) (a n : ℕ) (h : List Entry) (records : List Record) (turn : Turn)
    → is_down (deeds a [] (h ++ by a (steps.Rose records ∷ posted_as end n turn))) ≡ ends_down end false
down_risen end a n h records turn =
    ap (λ (k : List Entry). is_down (deeds a [] k))
    (sym (append_assoc h (marked a (steps.Rose records) ∷ []) (by a (posted_as end n turn))))
    ∙ down_posted end a n (h ++ marked a (steps.Rose records) ∷ []) turn
    ∙ ap (ends_down end) (down_step a h (steps.Rose records))

-- who is up, by an inbox and by deeds

abbrev pub AreTied : List Bool → List Entry → Type 0
AreTied up h = (a : ℕ) → a < most_actors → is_up up a ≡ not (is_down (deeds a [] h))

pub tied_on : (up now : List Bool) (h : List Entry) (r : ℕ) (xs : List Step) → AreTied up h
    → ((a : ℕ) → (r == a) ≡ false → is_up now a ≡ is_up up a)
    → (r < most_actors → is_up now r ≡ not (is_down (deeds r [] (h ++ by r xs)))) → AreTied now (h ++ by r xs)
tied_on up now h r xs tied others own a within = at (r == a) refl
  where
    at : (t : Bool) → (r == a) ≡ t → is_up now a ≡ not (is_down (deeds a [] (h ++ by r xs)))
    at true here =
        let is : r ≡ a = eqb-true r a here in
        subst (λ (k : ℕ). is_up now k ≡ not (is_down (deeds k [] (h ++ by r xs)))) is
        (own (subst (λ (k : ℕ). k < most_actors) (sym is) within))
    at false other = others a other ∙ tied a within
        ∙ ap (λ (ds : List Deed). not (is_down ds)) (sym (deeds-other r a [] h xs other))

pub tied_silent : (up now : List Bool) (h : List Entry) (c : ℕ) (step : Step) → AreTied up h → now ≡ up
    → deed_at (mail h) step ≡ [] → AreTied now (h ++ marked c step ∷ [])
tied_silent up now h c step tied same none a within =
    ap (λ (v : List Bool). is_up v a) same ∙ tied a within ∙ ap not (sym (down_silent a c h step none))

pub up_other : (up : List Bool) (r a : ℕ) (v : Bool) → (r == a) ≡ false → is_up (set up r v) a ≡ is_up up a
up_other up r a v other = get_or-set_other up r a v true (λ e. eqb-false r a other (sym e))

pub up_same : (up : List Bool) (r : ℕ) (v : Bool) → length up ≡ most_actors → r < most_actors → is_up (set up r v) r ≡ v
up_same up r v long within = get_or-set_same up r v true (subst (λ (n : ℕ). r < n) (sym long) within)

-- who is down is an actor
pub down_within : (up : List Bool) (r : ℕ) → is_up up r ≡ false → r < length up
down_within [] r down = absurd (let never : ⊥ = cc in never)
down_within (u ∷ up) zero down = omega arith
down_within (u ∷ up) (suc r) down = let rest : r < length up = down_within up r down in omega arith
