-- No client is told that its transaction aborted because a site has forgotten it, in a run with falls;
-- and nobody else is.
use Rattle.std.proofs.Common.{◌*◌, ◌≡◌, ◌≤◌, ◌<◌, ◌+◌, ◌-◌, ◌==◌, ℕ, Bool, true, false, if◌then◌else◌, List, [], ◌∷◌}
use Rattle.std.proofs.Common.{◌++◌, inl, inr, Option, Some, None, is_some, length, refl, sym, ap, ◌∙◌, subst, arith}
use Rattle.std.proofs.Common.{eqb-true, ltb-true}
use Rattle.std.specs.Prelude.{fold, option_and_then, sum_by}
use Rattle.std.proofs.lemmas.List.{append-nil}
use Rattle.std.proofs.lemmas.List.Sums.{fold-append}
use Rattle.laws_votes.proofs.Inputs.{deeds-risen}
use Rattle.laws_votes.proofs.Unforgotten.{AreAll}
use Rattle.laws_votes.proofs.Counted.{votes_remember}
use Rattle.qc_core.proofs.AdminOver.{IsAdminMove, admin_over}
use Rattle.qc_core.proofs.AdminTurns.{IsAdminReply, SaysAsAdmin}
use Rattle.qc_core.specs.Vocabulary.{IsLawfulWithFalls, actor_after, with_record}
use Rattle.qc_decl.specs.Vocabulary.{IsAccepted, actors, controller, is_client, is_site, most_committed_operations}
use Rattle.qc_decl.specs.declared.declaration.Declaration.{Declaration}
use Rattle.qc_entry.specs.declared.record.Commit.{Commit as CommitRecord}
use Rattle.laws_guarantees.proofs.Against.{IsForgottenVote, due_why}
use Rattle.laws_votes.proofs.Stamps.{client_due, due_behind}
use Rattle.qc_mailbox.proofs.FallMail.{ready_messages_were_sent_through_falls}
use Rattle.laws_turns.proofs.Acted.{deeds-silent}
use Rattle.laws_turns.proofs.Numbered.{IsSilent, phase_silent}
use Rattle.qc_link.specs.Vocabulary.{most_actors}
use Rattle.qc_list.specs.Vocabulary.{In}
use Rattle.laws_turns.proofs.ByMailWithFalls.{actors_go_by_turns_with_falls}
use Rattle.laws_turns.proofs.LivedMoves.{deeds-fall, line_silent}
use Rattle.qc_msg.proofs.DeedsGrow.{deeds-other}
use Rattle.qc_msg.proofs.Growth.{deeds-posted_as, deeds-taken}
use Rattle.qc_msg.specs.Vocabulary.{Deed, Entry, Falls, Rises, Takes, Tells, answered, by, deeds, deeds_as, mail}
use Rattle.qc_msg.specs.Vocabulary.{marked, posted_as, sends_of, step_of, tells_of, writes_of}
use Rattle.qc_msg.specs.declared.record.Record.{Record}
use Rattle.qc_msg.specs.declared.reply.Reply.{Reply}
use Rattle.qc_msg.specs.declared.reply.Reply.TheVariants as replies
use Rattle.qc_msg.specs.declared.reply.AbortCause.{AbortCause}
use Rattle.qc_msg.specs.declared.reply.AbortCause.TheVariants as causes
use Rattle.qc_msg.specs.declared.step.Command.{Command}
use Rattle.qc_msg.specs.declared.step.Command.TheVariants as commands
use Rattle.qc_msg.specs.declared.step.Fall.TheVariants as falling
use Rattle.qc_msg.specs.declared.step.Step.{Step}
use Rattle.qc_msg.specs.declared.step.Step.TheVariants as steps
use Rattle.qc_msg.specs.declared.turn.Appended.{Appended}
use Rattle.qc_msg.specs.declared.turn.Appended.TheVariants as ends
use Rattle.qc_msg.specs.declared.turn.Posting.{Posting}
use Rattle.qc_msg.specs.declared.turn.Turn.{Turn}
use Rattle.qc_promise.specs.Vocabulary.{Account, AreByTurns, AreDeedsDue, AreRepliesDue, Current, Kept, Place}
use Rattle.qc_promise.specs.Vocabulary.{account_of, are_votes_in, commit_row, due, first_against, goes_on}
use Rattle.qc_promise.specs.Vocabulary.{is_declared_for, is_prepare, new_account, pending_next, place_after, reply_to}
use Rattle.qc_promise.specs.Vocabulary.{requests_for, row_of, running_row, vote_row}
use Rattle.qc_promise.specs.Turns as turns
use Rattle.laws_reach.proofs.PostedTurns.{takes_inputs}
use Rattle.laws_reach.specs.Vocabulary.{TakesInputs}
use Rattle.qc_script.specs.Vocabulary.{IsScriptFor, RunsWithFalls, begins, control, damaged, falls, phase, phase_of}
use Rattle.qc_script.specs.Vocabulary.{posts, rises, takes, unopened}
use Rattle.qc_script.specs.declared.script.Script.{Script}
use Rattle.qc_core.proofs.PostsByTurns.{called_turn}
use Rattle.qc_list.proofs.Members.{In-either}

-- where an element stands
pub in_place : {A : Type 0} (x : A) (xs : List A) → In x xs
    → (before : List A) × ((after : List A) × (xs ≡ before ++ x ∷ after))
in_place x [] among = absurd among
in_place x (y ∷ ys) (inl same) = ([], (ys, λ i. (sym same) i ∷ ys))
in_place x (y ∷ ys) (inr there) = let p = in_place x ys there in (y ∷ p.0, (p.1.0, λ i. y ∷ p.1.1 i))

-- a reply that tells that a transaction aborted is due alike where the record of its post isn't written

module _ (decl : Declaration) where
  commit_alike : (d : Account) (u : Bool) (t : Current) (why : AbortCause)
      → commit_row decl d u t ≡ Some (replies.Aborted why) → commit_row decl d false t ≡ Some (replies.Aborted why)
  commit_alike d u t why is = by u t.doomed (are_votes_in decl d t) (first_against (requests_for is_prepare d)) is
    where
      by : (u x y : Bool) (o : Option AbortCause)
          → (if x then Some (replies.Aborted causes.Doomed) else (if y then vote_row d u o else None))
          ≡ Some (replies.Aborted why)
          → (if x then Some (replies.Aborted causes.Doomed) else (if y then vote_row d false o else None))
          ≡ Some (replies.Aborted why)
      by u true y o e = e
      by u false false o e = e
      by u false true (Some w) e = e
      by false false true None e = e
      by true false true None e =
          absurd (let both : replies.Unknown ≡ replies.Aborted why = cc in let never : ⊥ = cc in never)

  row_alike : (d : Account) (u : Bool) (o : Option Current) (command : Command) (why : AbortCause)
      → row_of decl d u o command ≡ Some (replies.Aborted why)
      → row_of decl d false o command ≡ Some (replies.Aborted why)
  row_alike d u None command why e = e
  row_alike d u (Some t) commands.Begin why e = e
  row_alike d u (Some t) (commands.Do object inv) why e = e
  row_alike d u (Some t) commands.Commit why e = commit_alike d u t why e
  row_alike d u (Some t) commands.Abort why e = e
  row_alike d u (Some t) (commands.Epoch number) why e = e

  due_alike : (d : Account) (u : Bool) (why : AbortCause) → due decl d u ≡ Some (replies.Aborted why)
      → running_row decl d false ≡ Some (replies.Aborted why)
  due_alike d u why is = by d.command is
    where
      at : (command : Command) (up declared : Bool)
          → (if up then (if declared then row_of decl d u d.current command else None) else Some replies.Down)
          ≡ Some (replies.Aborted why) → row_of decl d false d.current command ≡ Some (replies.Aborted why)
      at command true true e = row_alike d u d.current command why e
      at command true false e = absurd (let never : ⊥ = cc in never)
      at command false declared e =
          absurd (let both : replies.Down ≡ replies.Aborted why = cc in let never : ⊥ = cc in never)

      by : (c : Option Command) → option_and_then (reply_to decl d u) c ≡ Some (replies.Aborted why)
          → option_and_then (row_of decl d false d.current) c ≡ Some (replies.Aborted why)
      by None e = absurd (let never : ⊥ = cc in never)
      by (Some command) e = at command d.up (is_declared_for decl d.current command) e

-- a site tells nothing

nowhere : (ds : List Deed) → fold (goes_on true) None ds ≡ None
nowhere [] = refl
nowhere (d ∷ ds) = nowhere ds

told_nowhere : (o : Option Place) (reply : Reply) → goes_on true o (Tells reply) ≡ None
told_nowhere None reply = refl
told_nowhere (Some place) reply = refl

sites_tell : (ds : List Deed) (reply : Reply) → AreByTurns true ds → In (Tells reply) ds → ⊥
sites_tell ds reply are among =
    let p = in_place (Tells reply) ds among in
    let none : place_after true ds ≡ None =
    ap (place_after true) p.1.1 ∙ fold-append (goes_on true) (Some turns.Idle) p.0 (Tells reply ∷ p.1.0)
    ∙ ap (λ (o : Option Place). fold (goes_on true) o p.1.0) (told_nowhere (place_after true p.0) reply)
    ∙ nowhere p.1.0 in
    let no : false ≡ true = sym (ap is_some none) ∙ are in
    let never : ⊥ = cc in
    never

-- who is neither a site nor a client tells nobody that a transaction aborted

abbrev IsMute : List Deed → Type 0
IsMute ds = (why : AbortCause) → In (Tells (replies.Aborted why)) ds → ⊥

one_mute : (d : Deed) → ((why : AbortCause) → Tells (replies.Aborted why) ≡ d → ⊥) → IsMute (d ∷ [])
one_mute d other why (inl same) = other why same
one_mute d other why (inr never) = never

writes_mute : (w : Option Record) (more : List Deed) → IsMute more → IsMute (writes_of w ++ more)
writes_mute None more mute why among = mute why among
writes_mute (Some r) more mute why (inl same) = let never : ⊥ = cc in never
writes_mute (Some r) more mute why (inr among) = mute why among

sends_mute : (n : ℕ) (ps : List Posting) (more : List Deed) → IsMute more → IsMute (sends_of n ps ++ more)
sends_mute n [] more mute why among = mute why among
sends_mute n (p ∷ ps) more mute why (inl same) = let never : ⊥ = cc in never
sends_mute n (p ∷ ps) more mute why (inr among) = sends_mute (n + 1) ps more mute why among

tells_mute : (o : Option Reply) (more : List Deed) → SaysAsAdmin o → IsMute more → IsMute (tells_of o ++ more)
tells_mute None more his mute why among = mute why among
tells_mute (Some reply) more his mute why (inl same) =
    subst IsAdminReply (let is : replies.Aborted why ≡ reply = cc in sym is) his
tells_mute (Some reply) more his mute why (inr among) = mute why among

none_mute : IsMute []
none_mute why among = among

turn_mute : (end : Appended) (n : ℕ) (turn : Turn) → SaysAsAdmin turn.told → SaysAsAdmin turn.failed_told
    → IsMute (deeds_as end n turn)
turn_mute ends.Done n turn his failed =
    writes_mute turn.write (sends_of n turn.sends ++ tells_of turn.told) (sends_mute n turn.sends (tells_of turn.told)
    (subst IsMute (append-nil (tells_of turn.told)) (tells_mute turn.told [] his none_mute)))
turn_mute ends.Failed n turn his failed =
    sends_mute n turn.failed_sends (tells_of turn.failed_told ++ Falls falling.Disk turn.write ∷ [])
    (tells_mute turn.failed_told (Falls falling.Disk turn.write ∷ []) failed
    (one_mute (Falls falling.Disk turn.write) (λ why same. let never : ⊥ = cc in never)))
turn_mute ends.Stopped n turn his failed =
    tells_mute turn.failed_told (Falls falling.Stop turn.write ∷ []) failed
    (one_mute (Falls falling.Stop turn.write) (λ why same. let never : ⊥ = cc in never))

module _ (decl : Declaration) (script : Script) (fits : ℕ → List Record → Type 0) (a : ℕ)
    (no_site : is_site decl a ≡ false) (no_client : is_client decl a ≡ false) where
  event : (c : ℕ) (h : List Entry) (xs : List Step) (new : List Deed) → deeds c [] (h ++ by c xs) ≡ deeds c [] h ++ new
      → (c ≡ a → IsMute new) → IsMute (deeds a [] h) → IsMute (deeds a [] (h ++ by c xs))
  event c h xs new same mute old = at (c == a) refl
    where
      at : (t : Bool) → (c == a) ≡ t → IsMute (deeds a [] (h ++ by c xs))
      at true is = λ why among.
          elim (In-either (Tells (replies.Aborted why)) (deeds a [] h) new
          (subst (In (Tells (replies.Aborted why)))
          (subst (λ (k : ℕ). deeds k [] (h ++ by c xs) ≡ deeds k [] h ++ new) (eqb-true c a is) same) among)) [
            | inl before ↦ old why before
            | inr now ↦ mute (eqb-true c a is) why now
          ]
      at false other = subst IsMute (sym (deeds-other c a [] h xs other)) old

  -- whose turn it is is the administrator

  his_move : (c : ℕ) (ds : List Deed) (turn : Turn) → IsLawfulWithFalls decl c ds turn → c ≡ a
      → IsAdminMove (actor_after decl c ds)
  his_move c ds turn law same = by_kind (takes_inputs decl c ds turn law)
    where
      by_kind : TakesInputs decl c → IsAdminMove (actor_after decl c ds)
      by_kind (inl site) =
          absurd (let none : is_site decl c ≡ false = ap (is_site decl) same ∙ no_site in let never : ⊥ = cc in never)
      by_kind (inr (inl client)) =
          absurd (let none : is_client decl c ≡ false = ap (is_client decl) same ∙ no_client in
          let never : ⊥ = cc in never)
      by_kind (inr (inr at)) = subst (λ (b : ℕ). IsAdminMove (actor_after decl b ds)) (sym at) (admin_over decl ds)

  his_mute : (c n : ℕ) (ds : List Deed) (turn : Turn) → IsLawfulWithFalls decl c ds turn → c ≡ a
      → IsMute (deeds_as turn.append n turn)
  his_mute c n ds turn law same =
      let m : IsAdminMove (actor_after decl c ds) = his_move c ds turn law same in
      let is : (actor_after decl c ds).turn ≡ with_record turn = called_turn decl c ds turn law in
      turn_mute turn.append n turn (subst SaysAsAdmin (ap (λ (t : Turn). t.told) is) m.says)
      (subst SaysAsAdmin (ap (λ (t : Turn). t.failed_told) is) m.fails_say)

  silent : (c : ℕ) (h : List Entry) (step : Step) → IsSilent step → IsMute (deeds a [] h)
      → IsMute (deeds a [] (h ++ marked c step ∷ []))
  silent c h step is old = subst IsMute (sym (deeds-silent a c h step is)) old

  others_mute : (h : List Entry) (inputs : List Bool) → RunsWithFalls (IsLawfulWithFalls decl) fits decl script h inputs
      → IsMute (deeds a [] h)
  others_mute h inputs begins = none_mute
  others_mute h inputs (takes c g slots older run free rdy) =
      event c older (step_of g ∷ []) (Takes g ∷ [])
      (deeds-taken c older g
      (ready_messages_were_sent_through_falls (IsLawfulWithFalls decl) fits decl script older slots run c g rdy))
      (λ same. one_mute (Takes g) (λ why e. let never : ⊥ = cc in never)) (others_mute older slots run)
  others_mute h inputs (posts c turn slots older run taken law) =
      event c older (posted_as turn.append (length (mail older)) turn) (deeds_as turn.append (length (mail older)) turn)
      (deeds-posted_as turn.append c (length (mail older)) older turn)
      (λ same. his_mute c (length (mail older)) (deeds c [] older) turn law same) (others_mute older slots run)
  others_mute h inputs (phase slots older run none done quiet more) =
      silent (controller decl) older (steps.Phase (phase_of older + 1)) (phase_silent (phase_of older + 1))
      (others_mute older slots run)
  others_mute h inputs (control line lines step slots older run left is) =
      silent (controller decl) older step (line_silent line step is) (others_mute older slots run)
  others_mute h inputs (falls c lines slots older run left) =
      event c older (steps.Fell falling.Script None ∷ []) (Falls falling.Script None ∷ [])
      (deeds-fall c older falling.Script)
      (λ same. one_mute (Falls falling.Script None) (λ why e. let never : ⊥ = cc in never))
      (others_mute older slots run)
  others_mute h inputs (rises c records turn lines slots older run left fit has law) =
      event c older (steps.Rose records ∷ posted_as turn.append (length (mail older)) turn)
      (Rises records ∷ deeds_as turn.append (length (mail older)) turn)
      (deeds-risen c older records turn.append turn) (λ same. risen_mute same) (others_mute older slots run)
    where
      risen_mute : c ≡ a → IsMute (Rises records ∷ deeds_as turn.append (length (mail older)) turn)
      risen_mute same why (inl e) = let never : ⊥ = cc in never
      risen_mute same why (inr among) =
          his_mute c (length (mail older)) (deeds c [] (older ++ marked c (steps.Rose records) ∷ [])) turn law same why
          among
  others_mute h inputs (damaged c offset lines slots older run left) =
      silent c older (steps.Damaged offset) (record { sends = λ k. refl; deeds = λ ms. refl })
      (others_mute older slots run)
  others_mute h inputs (unopened c cause lines slots older run left disk) =
      event c older (steps.Fell cause None ∷ []) (Falls cause None ∷ []) (deeds-fall c older cause)
      (λ same. one_mute (Falls cause None) (λ why e. let never : ⊥ = cc in never)) (others_mute older slots run)

module _ (fits : ℕ → List Record → Type 0) (decl : Declaration) (script : Script) (accepted : IsAccepted decl)
    (sound : IsScriptFor decl script) (commits : List CommitRecord)
    (within : sum_by (λ (c : CommitRecord). answered c.ops) commits ≤ 2 * most_committed_operations) (h : List Entry)
    (inputs : List Bool) (run : RunsWithFalls (IsLawfulWithFalls decl) fits decl script h inputs) (kept : Kept h)
    (all : AreAll fits decl script accepted sound commits within h) (a site : ℕ)
    (told : In (Tells (replies.Aborted (causes.Forgot site))) (deeds a [] h)) where
  few : actors decl ≤ most_actors
  few = let s = accepted.sites in let c = accepted.clients in omega arith

  client_told : is_client decl a ≡ true → ⊥
  client_told client =
      let p = in_place (Tells (replies.Aborted (causes.Forgot site))) (deeds a [] h) told in
      let behind : AreDeedsDue decl (account_of decl (a - decl.sites) p.0)
      (Tells (replies.Aborted (causes.Forgot site)) ∷ p.1.0) =
      due_behind decl p.0 (Tells (replies.Aborted (causes.Forgot site)) ∷ p.1.0) (new_account (a - decl.sites))
      (subst (AreRepliesDue decl (a - decl.sites)) p.1.1
      (client_due fits decl script h inputs accepted sound run kept a client)) in
      let v : IsForgottenVote decl (account_of decl (a - decl.sites) p.0) site =
      due_why decl (account_of decl (a - decl.sites) p.0) site
      (due_alike decl (account_of decl (a - decl.sites) p.0) (is_some (pending_next p.1.0))
      (causes.Forgot site) behind.0.0) in
      votes_remember fits decl script accepted sound commits within h inputs run kept all a client p.0
      (Tells (replies.Aborted (causes.Forgot site)) ∷ p.1.0) p.1.1 v.0 v.1 v.2 v.3

  site_told : is_site decl a ≡ true → ⊥
  site_told is =
      let low : a < decl.sites = ltb-true a decl.sites is in
      let in_all : a < actors decl = omega arith in
      sites_tell (deeds a [] h) (replies.Aborted (causes.Forgot site))
      (subst (λ (t : Bool). AreByTurns t (deeds a [] h)) is
      (actors_go_by_turns_with_falls decl script fits few h inputs run a in_all)) told

  pub never_told : ⊥
  never_told = by (is_site decl a) (is_client decl a) refl refl
    where
      by : (s c : Bool) → is_site decl a ≡ s → is_client decl a ≡ c → ⊥
      by true c is other = site_told is
      by false true none client = client_told client
      by false false none no_client =
          others_mute decl script fits a none no_client h inputs run (causes.Forgot site) told
