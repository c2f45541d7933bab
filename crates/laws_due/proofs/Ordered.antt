-- In each run with falls the commands and replies of a client are in order, and it falls and rises only where no
-- command runs; so each command has its reply but the one that runs.
use Rattle.std.proofs.Common.{◌≡◌, ℕ, ◌+◌, ◌==◌, Bool, true, false, cond, List, [], ◌∷◌, ◌++◌, length, Option, Some}
use Rattle.std.proofs.Common.{None, is_some, refl, sym, ap, ◌∙◌, subst, arith}
use Rattle.std.specs.Prelude.{fold, slice_get, slice_set}
use Rattle.std.specs.List.{filter_map}
use Rattle.std.proofs.lemmas.Bool.{eqb-true}
use Rattle.std.proofs.lemmas.List.Sums.{fold-append}
use Rattle.qc_core.specs.Vocabulary.{IsLawfulWithFalls, MayTake, is_running, runs_at, with_record}
use Rattle.laws_due.proofs.Fallings.{as_record}
use Rattle.qc_decl.specs.Vocabulary.{IsAccepted, controller, is_client}
use Rattle.qc_decl.specs.declared.declaration.Declaration.{Declaration}
use Rattle.qc_mailbox.proofs.FallMail.{ready_messages_were_sent_through_falls}
use Rattle.laws_turns.specs.Vocabulary.{AsksDeclared, LivesIn, call_in, reply_in}
use Rattle.laws_turns.proofs.Acted.{deeds-silent}
use Rattle.laws_turns.proofs.Commands.{may_take}
use Rattle.laws_turns.proofs.LivedMoves.{deeds-fall}
use Rattle.laws_turns.proofs.Lived.{actors_live_in_runs_with_falls}
use Rattle.qc_msg.specs.declared.record.Record.{Record}
use Rattle.qc_msg.specs.declared.reply.Reply.{Reply}
use Rattle.qc_msg.specs.declared.step.Control.{Control}
use Rattle.qc_msg.specs.declared.step.Control.TheVariants as controls
use Rattle.qc_msg.specs.declared.step.Fall.{Fall}
use Rattle.qc_msg.specs.declared.step.Fall.TheVariants as causes
use Rattle.qc_msg.specs.declared.step.Input.{Input}
use Rattle.qc_msg.specs.declared.step.Input.TheVariants as inputs
use Rattle.qc_msg.specs.declared.step.Step.{Step}
use Rattle.qc_msg.specs.declared.step.Step.TheVariants as steps
use Rattle.qc_msg.specs.declared.turn.Appended.{Appended}
use Rattle.qc_msg.specs.declared.turn.Appended.TheVariants.{Done, Failed, Stopped}
use Rattle.qc_msg.specs.declared.turn.Posting.{Posting}
use Rattle.qc_msg.specs.declared.turn.Turn.{Turn}
use Rattle.qc_msg.specs.Vocabulary.{Deed, Entry, Falls, MayEnd, Rises, Sends, Takes, Tells, Writes, by, deeds, deeds_as}
use Rattle.qc_msg.specs.Vocabulary.{mail, marked, posted_as, sends_of, step_of, tells_of, writes_of}
use Rattle.qc_msg.proofs.DeedsGrow.{deeds-other, deeds-rise}
use Rattle.qc_msg.proofs.Growth.{deeds-posted_as, deeds-taken}
use Rattle.qc_recover.specs.Vocabulary.{rising}
use Rattle.qc_script.specs.Vocabulary.{RunsWithFalls, begins, control, controls_left, damaged, falls, phase, phase_of}
use Rattle.qc_script.specs.Vocabulary.{posts, ready, rises, takes, unopened}
use Rattle.qc_script.specs.declared.script.Script.{Script}
use Rattle.laws_due.specs.Vocabulary.{AreInOrder, MayBeGiven}
use Rattle.laws_due.proofs.EndsWithFalls.{no_command_runs_while_a_line_is_left}
use Rattle.laws_due.proofs.Places.{apart_from_controller, rose_split}
use Rattle.laws_due.proofs.Telling.{Replies}
use Rattle.laws_due.proofs.LifelongWithFalls.{client_lives, rising_turn, turn_replies}
use Rattle.laws_due.proofs.Tied.{IsAtInput}
use Rattle.qc_script.proofs.Actors.{few_actors}

-- deeds behind others

order_more : (r : Bool) (xs ys : List Deed) → AreInOrder r xs → AreInOrder (fold runs_at r xs) ys
    → AreInOrder r (xs ++ ys)
order_more r [] ys first second = second
order_more r (x ∷ xs) ys first second = (first.0, order_more (runs_at r x) xs ys first.1 second)

pub order_first : (r : Bool) (xs ys : List Deed) → AreInOrder r (xs ++ ys) → AreInOrder r xs
order_first r [] ys are = tt
order_first r (x ∷ xs) ys are = (are.0, order_first (runs_at r x) xs ys are.1)

pub order_second : (r : Bool) (xs ys : List Deed) → AreInOrder r (xs ++ ys) → AreInOrder (fold runs_at r xs) ys
order_second r [] ys are = are
order_second r (x ∷ xs) ys are = order_second (runs_at r x) xs ys are.1

-- a post

pub sends_ordered : (r : Bool) (n : ℕ) (ps : List Posting) (rest : List Deed) → AreInOrder r rest
    → AreInOrder r (sends_of n ps ++ rest)
sends_ordered r n [] rest after = after
sends_ordered r n (p ∷ ps) rest after = (tt, sends_ordered r (n + 1) ps rest after)

pub told_ordered : (r : Bool) (told : Option Reply) → (is_some told ≡ true → r ≡ true) → AreInOrder r (tells_of told)
told_ordered r None runs = tt
told_ordered r (Some reply) runs = (runs refl, tt)

pub failed_ordered : (r : Bool) (told : Option Reply) (cause : Fall) (pending : Option Record) → r ≡ true
    → is_some told ≡ true → AreInOrder r (tells_of told ++ Falls cause pending ∷ [])
failed_ordered r None cause pending runs some = absurd (let never : ⊥ = cc in never)
failed_ordered r (Some reply) cause pending runs some = (runs, (refl, tt))

pub post_ordered : (r : Bool) (n : ℕ) (turn : Turn) (end : Appended) → Replies r turn → MayEnd turn.write end
    → AreInOrder r (deeds_as end n turn)
post_ordered r n turn Done replies may = at turn.write
  where
    at : (w : Option Record) → AreInOrder r (writes_of w ++ (sends_of n turn.sends ++ tells_of turn.told))
    at None = sends_ordered r n turn.sends (tells_of turn.told) (told_ordered r turn.told replies.told)
    at (Some written) = (tt, sends_ordered r n turn.sends (tells_of turn.told) (told_ordered r turn.told replies.told))
post_ordered r n turn Failed replies may =
    sends_ordered r n turn.failed_sends (tells_of turn.failed_told ++ Falls causes.Disk turn.write ∷ [])
    (failed_ordered r turn.failed_told causes.Disk turn.write (replies.failed may).0 (replies.failed may).1)
post_ordered r n turn Stopped replies may =
    failed_ordered r turn.failed_told causes.Stop turn.write (replies.failed may).0 (replies.failed may).1

rising_ordered : (n : ℕ) (end : Appended) → AreInOrder false (deeds_as end n (rising []))
rising_ordered n Done = (tt, tt)
rising_ordered n Failed = (refl, tt)
rising_ordered n Stopped = (refl, tt)

may_be_given : (ds : List Deed) (g : Input) → MayTake ds g → MayBeGiven (is_running ds) g
may_be_given ds (inputs.Called command) may = may
may_be_given ds (inputs.Got envelope) may = tt
may_be_given ds (inputs.Lost number) may = tt

-- an actor that runs no command while a control line is left, posts in order and begins anew as it rises

pub record PostsInOrder (decl : Declaration) (script : Script) (fits : ℕ → List Record → Type 0) (a : ℕ) : Type 0 where
  pub other : (controller decl == a) ≡ false
  pub idle : (h : List Entry) (open_inputs : List Bool)
      → RunsWithFalls (IsLawfulWithFalls decl) fits decl script h open_inputs → (line : Control) (lines : List Control)
      → controls_left script h ≡ line ∷ lines
      → is_running (deeds a [] h) ≡ false
  pub ordered : (older : List Entry) (before after : List Bool) (turn : Turn)
      → RunsWithFalls (IsLawfulWithFalls decl) fits decl script older before → slice_get before a ≡ Some true
      → IsLawfulWithFalls decl a (deeds a [] older) turn
      → RunsWithFalls (IsLawfulWithFalls decl) fits decl script
      (older ++ by a (posted_as turn.append (length (mail older)) turn)) after
      → AreInOrder (is_running (deeds a [] older)) (deeds_as turn.append (length (mail older)) turn)
  pub rising_is : (ds : List Deed) (kept : List Record) (turn : Turn)
      → IsLawfulWithFalls decl a (ds ++ Rises kept ∷ []) turn → rising [] ≡ with_record turn

module _ (decl : Declaration) (script : Script) (fits : ℕ → List Record → Type 0) (a : ℕ)
    (in_order : PostsInOrder decl script fits a) where
  abbrev IsRun : List Entry → List Bool → Type 0
  IsRun h open_inputs = RunsWithFalls (IsLawfulWithFalls decl) fits decl script h open_inputs

  abbrev Ordered : List Entry → Type 0
  Ordered h = AreInOrder false (deeds a [] h)

  grown : (h k : List Entry) (more : List Deed) → deeds a [] k ≡ deeds a [] h ++ more → Ordered h
      → AreInOrder (is_running (deeds a [] h)) more → Ordered k
  grown h k more is first second = subst (AreInOrder false) (sym is) (order_more false (deeds a [] h) more first second)

  same : (h k : List Entry) → deeds a [] k ≡ deeds a [] h → Ordered h → Ordered k
  same h k is are = subst (AreInOrder false) (sym is) are

  others : (h : List Entry) (b : ℕ) (xs : List Step) → (b == a) ≡ false → Ordered h → Ordered (h ++ by b xs)
  others h b xs other are = same h (h ++ by b xs) (deeds-other b a [] h xs other) are

  own_posts : (older : List Entry) (before after : List Bool) (turn : Turn) → IsRun older before
      → slice_get before a ≡ Some true → IsLawfulWithFalls decl a (deeds a [] older) turn
      → IsRun (older ++ by a (posted_as turn.append (length (mail older)) turn)) after → Ordered older
      → Ordered (older ++ by a (posted_as turn.append (length (mail older)) turn))
  own_posts older before after turn run taken law whole are =
      grown older (older ++ by a (posted_as turn.append (length (mail older)) turn))
      (deeds_as turn.append (length (mail older)) turn)
      (deeds-posted_as turn.append a (length (mail older)) older turn) are
      (in_order.ordered older before after turn run taken law whole)

  own_rises : (older : List Entry) (kept : List Record) (turn : Turn) (n : ℕ) → is_running (deeds a [] older) ≡ false
      → IsLawfulWithFalls decl a (deeds a [] (older ++ marked a (steps.Rose kept) ∷ [])) turn
      → Ordered older → Ordered (older ++ by a (steps.Rose kept ∷ posted_as turn.append n turn))
  own_rises older kept turn n idle law are =
      subst (AreInOrder false) (sym (rose_split a older kept turn.append n turn))
      (subst (λ (v : List Deed). AreInOrder false ((deeds a [] older ++ Rises kept ∷ []) ++ v))
      (ap (λ (t : Turn). deeds_as turn.append n t)
      (in_order.rising_is (deeds a [] older) kept turn
      (subst (λ (v : List Deed). IsLawfulWithFalls decl a v turn) (deeds-rise a older kept) law))
      ∙ as_record turn.append n turn)
      (order_more false (deeds a [] older ++ Rises kept ∷ []) (deeds_as turn.append n (rising []))
      (order_more false (deeds a [] older) (Rises kept ∷ []) are (idle, tt))
      (subst (λ (r : Bool). AreInOrder r (deeds_as turn.append n (rising []))) (sym risen)
      (rising_ordered n turn.append))))
    where
      risen : is_running (deeds a [] older ++ Rises kept ∷ []) ≡ false
      risen = fold-append runs_at false (deeds a [] older) (Rises kept ∷ [])

  own_falls : (older : List Entry) (cause : Fall) → is_running (deeds a [] older) ≡ false → Ordered older
      → Ordered (older ++ marked a (steps.Fell cause None) ∷ [])
  own_falls older cause idle are = grown older (older ++ marked a (steps.Fell cause None) ∷ []) (Falls cause None ∷ [])
      (deeds-fall a older cause) are (idle, tt)

  -- an event of actor b, which is this one or another
  either : (b : ℕ) (older : List Entry) (xs : List Step) → Ordered older → (b ≡ a → Ordered (older ++ by a xs))
      → Ordered (older ++ by b xs)
  either b older xs are own = at (b == a) refl
    where
      at : (t : Bool) → (b == a) ≡ t → Ordered (older ++ by b xs)
      at true mine = subst (λ (k : ℕ). Ordered (older ++ by k xs)) (sym (eqb-true b a mine)) (own (eqb-true b a mine))
      at false other = others older b xs other are

  pub run_in_order : (h : List Entry) (open_inputs : List Bool) → IsRun h open_inputs → AreInOrder false (deeds a [] h)
  run_in_order h open_inputs begins = tt
  run_in_order h open_inputs (takes b g before older run free rdy) =
      either b older (step_of g ∷ []) (run_in_order older before run)
      (λ is. grown older (older ++ marked a (step_of g) ∷ []) (Takes g ∷ [])
      (subst (λ (k : ℕ). deeds k [] (older ++ marked k (step_of g) ∷ []) ≡ deeds k [] older ++ Takes g ∷ []) is
      (deeds-taken b older g
      (ready_messages_were_sent_through_falls (IsLawfulWithFalls decl) fits decl script older before run b g rdy)))
      (run_in_order older before run) (
        may_be_given (deeds a [] older) g
            (may_take decl script a older g (subst (λ (k : ℕ). ready decl script k older ≡ Some g) is rdy)),
        tt,
      ))
  run_in_order h open_inputs (posts b turn before older run taken law) =
      either b older (posted_as turn.append (length (mail older)) turn) (run_in_order older before run)
      (λ is. own_posts older before (slice_set before b false) turn run
      (subst (λ (k : ℕ). slice_get before k ≡ Some true) is taken)
      (subst (λ (k : ℕ). IsLawfulWithFalls decl k (deeds k [] older) turn) is law)
      (subst (λ (k : ℕ). IsRun (older ++ by k (posted_as turn.append (length (mail older)) turn))
      (slice_set before b false)) is (posts b turn before older run taken law)) (run_in_order older before run))
  run_in_order h open_inputs (phase before older run none done quiet more) =
      others older (controller decl) (steps.Phase (phase_of older + 1) ∷ []) in_order.other
      (run_in_order older before run)
  run_in_order h open_inputs (control line lines step before older run left is) =
      others older (controller decl) (step ∷ []) in_order.other (run_in_order older before run)
  run_in_order h open_inputs (falls b lines before older run left) =
      either b older (steps.Fell causes.Script None ∷ []) (run_in_order older before run)
      (λ is. own_falls older causes.Script (in_order.idle older before run (controls.Crash b) lines left)
      (run_in_order older before run))
  run_in_order h open_inputs (rises b kept turn lines before older run left fit has law) =
      either b older (steps.Rose kept ∷ posted_as turn.append (length (mail older)) turn)
      (run_in_order older before run)
      (λ is. own_rises older kept turn (length (mail older))
      (in_order.idle older before run (controls.Restart b) lines left)
      (subst (λ (k : ℕ). IsLawfulWithFalls decl k (deeds k [] (older ++ marked k (steps.Rose kept) ∷ [])) turn) is law)
      (run_in_order older before run))
  run_in_order h open_inputs (damaged b offset lines before older run left) =
      same older (older ++ marked b (steps.Damaged offset) ∷ [])
      (deeds-silent a b older (steps.Damaged offset) (record { sends = λ x. refl; deeds = λ ms. refl }))
      (run_in_order older before run)
  run_in_order h open_inputs (unopened b cause lines before older run left disk) =
      either b older (steps.Fell cause None ∷ []) (run_in_order older before run)
      (λ is. own_falls older cause (in_order.idle older before run (controls.Restart b) lines left)
      (run_in_order older before run))

-- a client

module _ (decl : Declaration) (script : Script) (accepted : IsAccepted decl) (asks : AsksDeclared decl script)
    (fits : ℕ → List Record → Type 0) (a : ℕ) (client : is_client decl a ≡ true) where
  client_ordered : (older : List Entry) (before : List Bool) (turn : Turn)
      → RunsWithFalls (IsLawfulWithFalls decl) fits decl script older before → slice_get before a ≡ Some true
      → IsLawfulWithFalls decl a (deeds a [] older) turn
      → AreInOrder (is_running (deeds a [] older)) (deeds_as turn.append (length (mail older)) turn)
  client_ordered older before turn run taken law =
      let lived : LivesIn decl a older true = actors_live_in_runs_with_falls decl script fits
      (few_actors decl accepted) older before run a true taken in
      let at : IsAtInput decl a client (deeds a [] older) =
      client_lives decl a client (deeds a [] older) true lived.above lived.lives in
      let replies : Replies (is_running (at.before ++ Takes at.given ∷ [])) turn =
      turn_replies decl a client at.before at.rest at.given at.may at.reach turn
      (subst (λ (v : List Deed). IsLawfulWithFalls decl a v turn) at.is law) in
      post_ordered (is_running (deeds a [] older)) (length (mail older)) turn turn.append
      (subst (λ (v : List Deed). Replies (is_running v) turn) (sym at.is) replies) law.may_end

  pub run_ordered : (h : List Entry) (open_inputs : List Bool)
      → RunsWithFalls (IsLawfulWithFalls decl) fits decl script h open_inputs → AreInOrder false (deeds a [] h)
  run_ordered h open_inputs run =
      run_in_order decl script fits a (record {
        other = apart_from_controller decl a client;
        idle =
            λ older before r line lines left. no_command_runs_while_a_line_is_left decl script accepted asks fits older
            before r line lines left
            a client;
        ordered = λ older before after turn r taken law whole. client_ordered older before turn r taken law;
        rising_is = λ ds kept turn law. rising_turn decl a client ds kept turn law;
      }) h open_inputs run

-- so each command that was called has its reply, but for the one that runs

abbrev pub open_commands : Bool → ℕ
open_commands running = cond running 1 0

counted : (r : Bool) (ds : List Deed) → AreInOrder r ds
    → length (filter_map call_in ds) + open_commands r ≡ length (filter_map reply_in ds) + open_commands
    (fold runs_at r ds)
counted r [] are = refl
counted r (Takes (inputs.Called command) ∷ ds) are =
    let none : open_commands r ≡ 0 = ap open_commands are.0 in
    let rest : length (filter_map call_in ds) + 1 ≡ length (filter_map reply_in ds) + open_commands
    (fold runs_at true ds) = counted true ds are.1 in
    omega arith
counted r (Takes (inputs.Got envelope) ∷ ds) are = counted r ds are.1
counted r (Takes (inputs.Lost number) ∷ ds) are = counted r ds are.1
counted r (Writes written ∷ ds) are = counted r ds are.1
counted r (Sends number to message ∷ ds) are = counted r ds are.1
counted r (Tells reply ∷ ds) are =
    let one : open_commands r ≡ 1 = ap open_commands are.0 in
    let rest : length (filter_map call_in ds) + 0 ≡ length (filter_map reply_in ds) + open_commands
    (fold runs_at false ds) = counted false ds are.1 in
    omega arith
counted r (Falls cause pending ∷ ds) are =
    let none : open_commands r ≡ 0 = ap open_commands are.0 in
    let rest : length (filter_map call_in ds) + 0 ≡ length (filter_map reply_in ds) + open_commands
    (fold runs_at false ds) = counted false ds are.1 in
    omega arith
counted r (Rises records ∷ ds) are =
    let none : open_commands r ≡ 0 = ap open_commands are.0 in
    let rest : length (filter_map call_in ds) + 0 ≡ length (filter_map reply_in ds) + open_commands
    (fold runs_at false ds) = counted false ds are.1 in
    omega arith

pub all_counted : (ds : List Deed) → AreInOrder false ds
    → length (filter_map call_in ds) ≡ length (filter_map reply_in ds) + open_commands (is_running ds)
all_counted ds are = let count : length (filter_map call_in ds) + 0 ≡ length (filter_map reply_in ds) + open_commands
    (is_running ds) = counted false ds are in omega arith
