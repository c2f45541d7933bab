-- The Asks that the administrator sends are called for: about the promised transactions that are left. And what stands
-- then.
use Rattle.std.proofs.Common.{◌≡◌, ◌<◌, ◌≤◌, ℕ, zero, suc, ◌+◌, Bool, true, false, cond, List, [], ◌∷◌, ◌++◌, length}
use Rattle.std.proofs.Common.{map, fold, drop, take, Option, Some, None, refl, sym, ap, ◌∙◌, subst, arith, eq-eqb}
use Rattle.std.proofs.Common.{slice_get, lt-ltb}
use Rattle.std.specs.List.{AllByRecursion as Every}
use Rattle.std.specs.Option.{option_map_or}
use Rattle.qc_list.proofs.Members.{every-append}
use Rattle.qc_stamp.specs.declared.stamp.TxId.{TxId}
use Rattle.qc_stamp.specs.Vocabulary.{same_tx}
use Rattle.qc_stamp.proofs.Orders.{same_tx_itself}
use Rattle.qc_decl.specs.declared.declaration.Declaration.{Declaration}
use Rattle.qc_decl.specs.Vocabulary.{client_actor}
use Rattle.qc_plan.specs.declared.standing.Verdict.TheVariants as verdicts
use Rattle.qc_plan.specs.Vocabulary.{first, verdict}
use Rattle.qc_msg.specs.declared.message.Message.TheVariants as messages
use Rattle.qc_msg.specs.declared.turn.Posting.{Posting}
use Rattle.qc_msg.specs.Vocabulary.{Deed, Sends, sends_of}
use Rattle.qc_promise.specs.Vocabulary.{AdminAccount, AdminRequest, AreAdminDeedsDue, Ask, Promised, admin_account_at}
use Rattle.qc_promise.specs.Vocabulary.{admin_requested, asks, calls_ask, close_round, closes, commanded, decided_epoch}
use Rattle.qc_promise.specs.Vocabulary.{installs, is_ask, is_close, is_install, is_met, is_this, most_questions}
use Rattle.qc_promise.specs.Vocabulary.{promised_once}
use Rattle.qc_epoch.specs.Vocabulary.{Admin, Asking, ShutSite, doing}
use Rattle.qc_admin.specs.Vocabulary.{sent_each}
use Rattle.laws_due.proofs.AdminRequests.{wanting_more, wanting_same}
use Rattle.laws_due.proofs.AdminCloses.{round_of}
use Rattle.laws_due.proofs.AdminStages.{Moves}
use Rattle.laws_due.proofs.AdminFrames.{Frame, frame_then, length_last, request, requested_frame, same_frame}
use Rattle.laws_due.proofs.AdminQuestions.{AreAbout, about_more, asked_more, asked_of, promised_of}

module _ (decl : Declaration) where
  -- Asks, about the promised transactions that are left

  abbrev pub ask_to : Promised → Posting
  ask_to p = record { to = client_actor decl p.tx.client; message = messages.Ask p.tx }

  pub record AsksSent (first epoch : ℕ) (d : AdminAccount) (ps : List Promised) : Type 0 where
    pub end : AdminAccount
    pub is : fold (admin_account_at decl) d (sends_of first (map ask_to ps)) ≡ end
    pub due : (ys : List Deed) → AreAdminDeedsDue decl end ys
        → AreAdminDeedsDue decl d (sends_of first (map ask_to ps) ++ ys)
    pub frame : Frame d end
    pub closes_same : closes end ≡ closes d
    pub installs_same : installs end ≡ installs d
    pub about_promised : AreAbout (promised_once d) (asks end)
    pub few : length (asks end) ≤ most_questions
    pub none_left : drop (length (asks end)) (take most_questions (promised_once d)) ≡ []
    pub untaken : Every (λ (q : AdminRequest). q.taken ≡ None) (asks d)
        → Every (λ (q : AdminRequest). q.taken ≡ None) (asks end)
    pub admin : (m : Admin) (shuts : List ShutSite)
        → sent_each (doing m (Asking epoch shuts (asked_of (promised_once d) (asks d)))) first (map ask_to ps) ≡ doing m
        (Asking epoch shuts (asked_of (promised_once d) (asks end)))

  drop_parts : {A : Type 0} (k : ℕ) (xs : List A) (x : A) (ys : List A) → drop k xs ≡ x ∷ ys
      → (slice_get xs k ≡ Some x) × (drop (suc k) xs ≡ ys)
  drop_parts zero [] x ys is = absurd (let never : ⊥ = cc in never)
  drop_parts zero (z ∷ xs) x ys is = (
    ap (λ (v : _). Some v) (let same : z ≡ x = cc in same),
    (let same : xs ≡ ys = cc in same),
  )
  drop_parts (suc k) [] x ys is = absurd (let never : ⊥ = cc in never)
  drop_parts (suc k) (z ∷ xs) x ys is = drop_parts k xs x ys is

  take_parts : {A : Type 0} (n k : ℕ) (xs : List A) (x : A) → slice_get (take n xs) k ≡ Some x
      → (slice_get xs k ≡ Some x) × (k < n)
  take_parts zero k [] x is = absurd (let never : ⊥ = cc in never)
  take_parts zero k (z ∷ xs) x is = absurd (let never : ⊥ = cc in never)
  take_parts (suc n) k [] x is = absurd (let never : ⊥ = cc in never)
  take_parts (suc n) zero (z ∷ xs) x is = (is, omega arith)
  take_parts (suc n) (suc k) (z ∷ xs) x is = let more : (slice_get xs k ≡ Some x) × (k < n) = take_parts n k xs x is in
      (more.0, (let low : k < n = more.1 in omega arith))

  ask_called : (epoch : ℕ) (d : AdminAccount) (p : Promised) → Moves d epoch
      → verdict (close_round decl d) ≡ verdicts.Met → slice_get (promised_once d) (length (asks d)) ≡ Some p
      → length (asks d) < most_questions
      → calls_ask decl d (client_actor decl p.tx.client) p.tx ≡ true
  ask_called epoch d p moves met is low =
      let asked : commanded d ≡ Some epoch = rw moves.command refl in
      rw (
        ap (is_this (decided_epoch d + 1)) asked ∙ eq-eqb epoch (decided_epoch d + 1) moves.next,
        ap is_met met,
        lt-ltb (length (asks d)) most_questions low,
        ap (λ (o : Option Promised). option_map_or (λ (x : Promised). same_tx x.tx p.tx) o false) is
            ∙ same_tx_itself p.tx,
        eq-eqb (client_actor decl p.tx.client) (client_actor decl p.tx.client) refl,
      ) refl

  asks_one : (d : AdminAccount) (number to : ℕ) (tx : TxId)
      → asks (admin_requested d number to (Ask tx)) ≡ asks d ++ request number to (Ask tx) ∷ []
  asks_one d number to tx = wanting_more is_ask d.requests (request number to (Ask tx)) refl

  pub asks_sent : (epoch : ℕ) (ps : List Promised) (first : ℕ) (d : AdminAccount) → Moves d epoch
      → verdict (close_round decl d) ≡ verdicts.Met
      → AreAbout (promised_once d) (asks d) → length (asks d) ≤ most_questions
      → drop (length (asks d)) (take most_questions (promised_once d)) ≡ ps → AsksSent first epoch d ps
  asks_sent epoch [] first d moves met are few left = record {
    end = d;
    is = refl;
    due = λ ys dues. dues;
    frame = same_frame d;
    closes_same = refl;
    installs_same = refl;
    about_promised = are;
    few = few;
    none_left = left;
    untaken = λ all. all;
    admin = λ m shuts. refl;
  }
  asks_sent epoch (p ∷ ps) first d moves met are few left =
      let parts : (slice_get (take most_questions (promised_once d)) (length (asks d)) ≡ Some p)
      × (drop (suc (length (asks d))) (take most_questions (promised_once d)) ≡ ps) =
      drop_parts (length (asks d)) (take most_questions (promised_once d)) p ps left in
      let here : (slice_get (promised_once d) (length (asks d)) ≡ Some p)
      × (length (asks d) < most_questions) = take_parts most_questions (length (asks d))
      (promised_once d) p parts.0 in
      let to : ℕ = client_actor decl p.tx.client in
      let e : AdminAccount = admin_requested d first (client_actor decl p.tx.client) (Ask p.tx) in
      let same : closes (admin_requested d first (client_actor decl p.tx.client) (Ask p.tx)) ≡ closes d =
      wanting_same is_close d.requests (request first (client_actor decl p.tx.client) (Ask p.tx)) refl in
      let longer : length (asks (admin_requested d first (client_actor decl p.tx.client) (Ask p.tx))) ≡ suc
      (length (asks d)) =
      ap (λ (v : List AdminRequest). length v) (asks_one d first (client_actor decl p.tx.client) p.tx)
      ∙ length_last (asks d) (request first (client_actor decl p.tx.client) (Ask p.tx)) in
      then_more here.0 here.1 same
      (asks_sent epoch ps (first + 1) (admin_requested d first (client_actor decl p.tx.client) (Ask p.tx))
      (record {
        command = moves.command;
        next = moves.next;
        unwritten = moves.unwritten;
        installs_none = wanting_same is_install d.requests
            (request first (client_actor decl p.tx.client) (Ask p.tx)) refl ∙ moves.installs_none;
      })
      (ap (λ (cs : List AdminRequest). verdict (round_of decl (decided_epoch d) cs)) same ∙ met)
      (subst (λ (cs : List AdminRequest). AreAbout (promised_of cs)
      (asks (admin_requested d first (client_actor decl p.tx.client) (Ask p.tx)))) (sym same)
      (subst (AreAbout (promised_once d)) (sym (asks_one d first (client_actor decl p.tx.client) p.tx))
      (about_more (promised_once d) (asks d) p
      (request first (client_actor decl p.tx.client) (Ask p.tx)) here.0 refl are)))
      (let low : length (asks d) < most_questions = here.1 in omega (arith, longer, low))
      ((λ i. drop (longer i) (take most_questions (promised_of (same i)))) ∙ parts.1))
    where
      then_more : slice_get (promised_once d) (length (asks d)) ≡ Some p → length (asks d) < most_questions
          → closes (admin_requested d first (client_actor decl p.tx.client) (Ask p.tx)) ≡ closes d
          → AsksSent (first + 1) epoch (admin_requested d first (client_actor decl p.tx.client) (Ask p.tx)) ps
          → AsksSent first epoch d (p ∷ ps)
      then_more is low same more = record {
        end = more.end;
        is = ap (λ (x : AdminAccount). fold (admin_account_at decl) x (sends_of (first + 1) (map ask_to ps))) step
            ∙ more.is;
        due = λ ys dues. (
          ask_called epoch d p moves met is low,
          subst (λ (x : AdminAccount). AreAdminDeedsDue decl x (sends_of (first + 1) (map ask_to ps) ++ ys))
              (sym step) (more.due ys dues),
        );
        frame = frame_then d (admin_requested d first (client_actor decl p.tx.client) (Ask p.tx)) more.end
            (requested_frame d first (client_actor decl p.tx.client) (Ask p.tx)) more.frame;
        closes_same = more.closes_same ∙ same;
        installs_same = more.installs_same ∙ wanting_same is_install d.requests
            (request first (client_actor decl p.tx.client) (Ask p.tx)) refl;
        about_promised = subst (λ (cs : List AdminRequest). AreAbout (promised_of cs) (asks more.end)) same
            more.about_promised;
        few = more.few;
        none_left = ap (λ (cs : List AdminRequest). drop (length (asks more.end))
            (take most_questions (promised_of cs))) (sym same) ∙ more.none_left;
        untaken = λ all. more.untaken (subst (Every (λ (q : AdminRequest). q.taken ≡ None))
            (sym (asks_one d first (client_actor decl p.tx.client) p.tx))
            (every-append (λ (q : AdminRequest). q.taken ≡ None) (asks d)
            (request first (client_actor decl p.tx.client) (Ask p.tx) ∷ []) all (refl, tt)));
        admin = λ m shuts.
            ap (λ (v : List _). sent_each (doing m (Asking epoch shuts v)) (first + 1) (map ask_to ps))
            (asked_more (promised_once d) (asks d) p (request first (client_actor decl p.tx.client) (Ask p.tx)) is refl
            ∙ (λ i. asked_of (promised_of (sym same i))
            (sym (asks_one d first (client_actor decl p.tx.client) p.tx) i)))
            ∙ more.admin m shuts
            ∙ ap (λ (cs : List AdminRequest). doing m (Asking epoch shuts (asked_of (promised_of cs) (asks more.end))))
            same;
      }
        where
          step : admin_account_at decl d (Sends first (client_actor decl p.tx.client) (messages.Ask p.tx))
              ≡ admin_requested d first (client_actor decl p.tx.client) (Ask p.tx)
          step = ap (λ (b : Bool). cond b (admin_requested d first (client_actor decl p.tx.client) (Ask p.tx)) d)
              (ask_called epoch d p moves met is low)
