-- The Installs that the administrator sends are called for: to the sites that are left. And what stands then.
use Rattle.std.proofs.Common.{◌≡◌, ◌≤◌, ℕ, zero, suc, ◌+◌, ◌==◌, ◌&&◌, Bool, true, false, cond, List, [], ◌∷◌, ◌++◌}
use Rattle.std.proofs.Common.{length, map, fold, Option, Some, None, refl, sym, ap, ◌∙◌, subst, arith, eq-eqb, eqb-true}
use Rattle.std.specs.Prelude.{is_some}
use Rattle.std.specs.List.{range_with_len}
use Rattle.std.specs.Option.{option_map_or}
use Rattle.qc_decl.specs.declared.declaration.Declaration.{Declaration}
use Rattle.qc_plan.specs.Vocabulary.{first}
use Rattle.qc_msg.specs.declared.call.Call.{Call}
use Rattle.qc_msg.specs.declared.message.Message.TheVariants as messages
use Rattle.qc_msg.specs.Vocabulary.{Deed, Sends, sends_of}
use Rattle.qc_msg.specs.declared.payload.EpochStart.{EpochStart}
use Rattle.qc_promise.specs.Vocabulary.{AdminAccount, AdminRequest, AreAdminDeedsDue, Install, admin_account_at}
use Rattle.qc_promise.specs.Vocabulary.{admin_requested, asks, calls_install, closes, commanded, decided_now, installs}
use Rattle.qc_promise.specs.Vocabulary.{is_ask, is_close, is_install, is_same_start, same_line}
use Rattle.qc_epoch.specs.Vocabulary.{Admin, Installing, doing, install_of}
use Rattle.qc_admin.specs.Vocabulary.{sent_each}
use Rattle.laws_due.proofs.AdminRequests.{all_taken, calls_more, open_calls, wanting_more, wanting_same}
use Rattle.laws_due.proofs.AdminDecisions.{started}
use Rattle.laws_due.proofs.AdminInstalls.{installed_more, installed_of}
use Rattle.laws_due.proofs.AdminStages.{Numbered}
use Rattle.laws_due.proofs.AdminFrames.{Frame, frame_then, later, length_last, no_more, numbered_more, one_more}
use Rattle.laws_due.proofs.AdminFrames.{request, requested_frame, same_frame, this_some}
use Rattle.laws_due.proofs.DoRows.{all_same, line_itself}

module _ (decl : Declaration) where
  -- Installs, to the sites that are left

  pub record InstallsSent (dd : EpochStart) (first k c : ℕ) (d : AdminAccount) : Type 0 where
    pub end : AdminAccount
    pub is : fold (admin_account_at decl) d (sends_of first (map (install_of dd) (range_with_len k c))) ≡ end
    pub due : (ys : List Deed) → AreAdminDeedsDue decl end ys
        → AreAdminDeedsDue decl d (sends_of first (map (install_of dd) (range_with_len k c)) ++ ys)
    pub frame : Frame d end
    pub closes_same : closes end ≡ closes d
    pub asks_same : asks end ≡ asks d
    pub all : length (installs end) ≡ k + c
    pub installed_same : installed_of (installs end) ≡ installed_of (installs d)
    pub numbers : Numbered (first + c) (installs end)
    pub open_still : all_taken (installs end) ≡ cond (c == 0) (all_taken (installs d)) false
    pub admin : (m : Admin) (closed awaited installed : List ℕ)
        → sent_each (doing m (Installing closed awaited (open_calls (installs d)) installed)) first
        (map (install_of dd) (range_with_len k c)) ≡ doing m
        (Installing closed awaited (open_calls (installs end)) installed)

  same_start : (i : EpochStart) → is_same_start i i ≡ true
  same_start i = rw (eq-eqb i.epoch i.epoch refl, eq-eqb i.clock i.clock refl) (all_same same_line line_itself i.lines)

  install_called : (dd : EpochStart) (d : AdminAccount) (k : ℕ) → commanded d ≡ Some dd.epoch
      → decided_now d ≡ Some (started dd) → length (installs d) ≡ k → calls_install d k (started dd) ≡ true
  install_called dd d k asked decided count =
      rw (
        this_some dd.epoch (commanded d) asked,
        eq-eqb k (length (installs d)) (sym count),
        ap (λ (o : Option EpochStart). option_map_or (is_same_start (started dd)) o false) decided
            ∙ same_start (started dd),
      ) refl

  installs_one : (d : AdminAccount) (number to : ℕ)
      → installs (admin_requested d number to Install) ≡ installs d ++ request number to Install ∷ []
  installs_one d number to = wanting_more is_install d.requests (request number to Install) refl

  last_open : (qs : List AdminRequest) (q : AdminRequest) → q.taken ≡ None → all_taken (qs ++ q ∷ []) ≡ false
  last_open [] q open_still = rw open_still refl
  last_open (x ∷ qs) q open_still = by (is_some x.taken) (last_open qs q open_still)
    where
      by : (b : Bool) → all_taken (qs ++ q ∷ []) ≡ false → (b && all_taken (qs ++ q ∷ [])) ≡ false
      by true e = e
      by false e = refl

  pub installs_sent : (dd : EpochStart) (c n first k : ℕ) (d : AdminAccount) → n ≤ first → commanded d ≡ Some dd.epoch
      → decided_now d ≡ Some (started dd) → length (installs d) ≡ k → Numbered n (installs d)
      → InstallsSent dd first k c d
  installs_sent dd zero n first k d low asked decided count numbers = record {
    end = d;
    is = refl;
    due = λ ys dues. dues;
    frame = same_frame d;
    closes_same = refl;
    asks_same = refl;
    all = (let same : length (installs d) ≡ k = count in omega (arith, same));
    installed_same = refl;
    numbers = later n (first + 0) (installs d) (no_more n first low) numbers;
    open_still = refl;
    admin = λ m closed awaited installed. refl;
  }
  installs_sent dd (suc c) n first k d low asked decided count numbers =
      then_more
      (installs_sent dd c (first + 1) (first + 1) (k + 1) (admin_requested d first k Install)
      (omega arith) asked decided
      (ap (λ (v : List AdminRequest). length v) (installs_one d first k)
      ∙ length_last (installs d) (request first k Install)
      ∙ (let same : length (installs d) ≡ k = count in omega (arith, same)))
      (subst (Numbered (first + 1)) (sym (installs_one d first k))
      (numbered_more n (installs d) (request first k Install) low numbers)))
    where
      then_more : InstallsSent dd (first + 1) (k + 1) c (admin_requested d first k Install)
          → InstallsSent dd first k (suc c) d
      then_more more = record {
        end = more.end;
        is = ap (λ (x : AdminAccount). fold (admin_account_at decl) x
            (sends_of (first + 1) (map (install_of dd) (range_with_len (k + 1) c)))) step ∙ more.is;
        due = λ ys dues. (
          install_called dd d k asked decided count,
          subst (λ (x : AdminAccount). AreAdminDeedsDue decl x
              (sends_of (first + 1) (map (install_of dd) (range_with_len (k + 1) c)) ++ ys)) (sym step)
              (more.due ys dues),
        );
        frame = frame_then d (admin_requested d first k Install) more.end
            (requested_frame d first k Install) more.frame;
        closes_same = more.closes_same ∙ wanting_same is_close d.requests (request first k Install) refl;
        asks_same = more.asks_same ∙ wanting_same is_ask d.requests (request first k Install) refl;
        all = more.all ∙ one_more k c;
        installed_same = more.installed_same ∙ ap installed_of (installs_one d first k)
            ∙ installed_more (installs d) (request first k Install) refl;
        numbers = subst (λ (x : ℕ). Numbered x (installs more.end)) (one_more first c) more.numbers;
        open_still =
            more.open_still
            ∙ ap (λ (b : Bool). cond (c == 0) b false)
            (ap all_taken (installs_one d first k) ∙ last_open (installs d) (request first k Install) refl)
            ∙ both (c == 0)
            ∙ sym (ap (λ (b : Bool). cond b (all_taken (installs d)) false) (some_none (suc c == 0) refl));
        admin = λ m closed awaited installed.
            ap (λ (cs : List Call). sent_each (doing m (Installing closed awaited cs installed)) (first + 1)
            (map (install_of dd) (range_with_len (k + 1) c)))
            (sym (ap open_calls (installs_one d first k) ∙ calls_more (installs d) (request first k Install) refl))
            ∙ more.admin m closed awaited installed;
      }
        where
          step : admin_account_at decl d (Sends first k (messages.Install dd))
              ≡ admin_requested d first k Install
          step = ap (λ (b : Bool). cond b (admin_requested d first k Install) d)
              (install_called dd d k asked decided count)

          both : (b : Bool) → cond b false false ≡ false
          both true = refl
          both false = refl

          some_none : (b : Bool) → (suc c == 0) ≡ b → (suc c == 0) ≡ false
          some_none true is = absurd (let no : suc c ≡ 0 = eqb-true (suc c) 0 is in omega (arith, no))
          some_none false is = is
