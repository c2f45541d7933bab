-- The Closes that the administrator sends are called for: to all sites that his round wants. And what stands then.
use Rattle.std.proofs.Common.{◌≡◌, ◌≤◌, ℕ, ◌+◌, Bool, true, false, cond, List, [], ◌∷◌, ◌++◌, length, map, fold, drop}
use Rattle.std.proofs.Common.{Some, None, refl, sym, ap, ◌∙◌, subst, arith, eq-eqb}
use Rattle.qc_decl.specs.declared.declaration.Declaration.{Declaration}
use Rattle.qc_plan.specs.Vocabulary.{RoundState, asking_all, first, may_ask, next_site, wanted}
use Rattle.qc_msg.specs.declared.call.Call.{Call}
use Rattle.qc_msg.specs.declared.message.Message.TheVariants as messages
use Rattle.qc_msg.specs.Vocabulary.{Deed, Sends, sends_of}
use Rattle.qc_promise.specs.Vocabulary.{AdminAccount, AdminRequest, AreAdminDeedsDue, Close, admin_account_at}
use Rattle.qc_promise.specs.Vocabulary.{admin_requested, asks, calls_close, close_round, closes, commanded}
use Rattle.qc_promise.specs.Vocabulary.{decided_epoch, is_ask, is_close, is_install, is_this}
use Rattle.qc_epoch.specs.Vocabulary.{Admin, Closing, ShutSite, close_of, doing}
use Rattle.qc_admin.specs.Vocabulary.{sent_each}
use Rattle.laws_due.proofs.Nexts.{asking_one, first_wanted}
use Rattle.laws_due.proofs.AdminRequests.{calls_more, open_calls, sites_of, wanting_more, wanting_same}
use Rattle.laws_due.proofs.AdminCloses.{round_more, round_of}
use Rattle.laws_due.proofs.AdminShuts.{shuts_more}
use Rattle.laws_due.proofs.AdminStages.{HasClosed, Moves}
use Rattle.laws_due.proofs.AdminFrames.{Frame, frame_then, later, no_more, numbered_more, one_more, request}
use Rattle.laws_due.proofs.AdminFrames.{requested_frame, same_frame, this_some}

-- the site that is next is the first of the rest

next_first : (r : RoundState) (site : ℕ) → next_site r ≡ Some site → site ∷ drop 1 r.rest ≡ r.rest
next_first r site is = by (may_ask r) is
  where
    at : (rest : List ℕ) → first rest ≡ Some site → site ∷ drop 1 rest ≡ rest
    at [] e = absurd (let never : ⊥ = cc in never)
    at (x ∷ rest) e = ap (λ (k : ℕ). k ∷ rest) (let same : site ≡ x = cc in same)

    by : (b : Bool) → cond b (first r.rest) None ≡ Some site → site ∷ drop 1 r.rest ≡ r.rest
    by true e = at r.rest e
    by false e = absurd (let never : ⊥ = cc in never)

sites_last : (cs : List AdminRequest) (q : AdminRequest) (rest : List ℕ)
    → sites_of (cs ++ q ∷ []) ++ rest ≡ sites_of cs ++ q.to ∷ rest
sites_last [] q rest = refl
sites_last (x ∷ cs) q rest = ap (λ (v : List ℕ). x.to ∷ v) (sites_last cs q rest)

module _ (decl : Declaration) where
  -- Closes, to all sites that the round wants

  pub record ClosesSent (first epoch : ℕ) (d : AdminAccount) (shuts : List ShutSite) (sites : List ℕ) : Type 0 where
    pub end : AdminAccount
    pub is : fold (admin_account_at decl) d (sends_of first (map (close_of epoch) sites)) ≡ end
    pub due : (ys : List Deed) → AreAdminDeedsDue decl end ys
        → AreAdminDeedsDue decl d (sends_of first (map (close_of epoch) sites) ++ ys)
    pub frame : Frame d end
    pub moves : Moves end epoch
    pub asks_none : asks end ≡ []
    pub has : HasClosed decl (first + length sites) (decided_epoch end) (closes end) (open_calls (closes end)) shuts
    pub round : close_round decl end ≡ asking_all (close_round decl d) sites
    pub wants_none : wanted (close_round decl end) ≡ []
    pub admin : (m : Admin) (r : RoundState)
        → sent_each (doing m (Closing epoch (open_calls (closes d)) r shuts)) first (map (close_of epoch) sites)
        ≡ doing m (Closing epoch (open_calls (closes end)) r shuts)

  close_called : (epoch : ℕ) (d : AdminAccount) (site : ℕ) → Moves d epoch → next_site (close_round decl d) ≡ Some site
      → calls_close decl d site epoch ≡ true
  close_called epoch d site moves next =
      let asked : commanded d ≡ Some epoch = rw moves.command refl in
      rw (
        ap (is_this (decided_epoch d + 1)) asked
            ∙ eq-eqb epoch (decided_epoch d + 1) moves.next,
        eq-eqb epoch (decided_epoch d + 1) moves.next,
        this_some site (next_site (close_round decl d)) next,
      ) refl

  closes_one : (d : AdminAccount) (number to : ℕ)
      → closes (admin_requested d number to Close) ≡ closes d ++ request number to Close ∷ []
  closes_one d number to = wanting_more is_close d.requests (request number to Close) refl

  has_one : (n first : ℕ) (d : AdminAccount) (site : ℕ) (calls : List Call) (shuts : List ShutSite) → n ≤ first
      → next_site (close_round decl d) ≡ Some site
      → HasClosed decl n (decided_epoch d) (closes d) calls shuts
      → HasClosed decl (first + 1) (decided_epoch d) (closes d ++ request first site Close ∷ [])
      (open_calls (closes d ++ request first site Close ∷ [])) shuts
  has_one n first d site calls shuts low next has = record {
    calls_are = refl;
    shuts_are = shuts_more shuts (closes d) (request first site Close) refl has.shuts_are;
    sites =
        sites_last (closes d) (request first site Close)
        (round_of decl (decided_epoch d) (closes d ++ request first site Close ∷ [])).rest
        ∙ ap (λ (r : RoundState). sites_of (closes d) ++ site ∷ r.rest)
        (round_more decl (decided_epoch d) (closes d) (request first site Close) refl)
        ∙ ap (λ (v : List ℕ). sites_of (closes d) ++ v) (next_first (close_round decl d) site next)
        ∙ has.sites;
    numbers = numbered_more n (closes d) (request first site Close) low has.numbers;
  }

  pub closes_sent : (epoch : ℕ) (shuts : List ShutSite) (sites : List ℕ) (n first : ℕ) (d : AdminAccount)
      (calls : List Call) → n ≤ first → Moves d epoch → asks d ≡ []
      → HasClosed decl n (decided_epoch d) (closes d) calls shuts → wanted (close_round decl d) ≡ sites
      → ClosesSent first epoch d shuts sites
  closes_sent epoch shuts [] n first d calls low moves none has want = record {
    end = d;
    is = refl;
    due = λ ys dues. dues;
    frame = same_frame d;
    moves = moves;
    asks_none = none;
    has = record {
      calls_are = refl;
      shuts_are = has.shuts_are;
      sites = has.sites;
      numbers = later n (first + 0) (closes d) (no_more n first low) has.numbers;
    };
    round = refl;
    wants_none = want;
    admin = λ m r. refl;
  }
  closes_sent epoch shuts (s ∷ ss) n first d calls low moves none has want =
      let next : (next_site (close_round decl d) ≡ Some s)
      × (wanted (asking_one (close_round decl d) s) ≡ ss) = first_wanted (close_round decl d) s ss want in
      let round : close_round decl (admin_requested d first s Close) ≡ asking_one (close_round decl d) s =
      ap (round_of decl (decided_epoch d)) (closes_one d first s)
      ∙ round_more decl (decided_epoch d) (closes d) (request first s Close) refl in
      then_more next.0 round
      (closes_sent epoch shuts ss (first + 1) (first + 1) (admin_requested d first s Close)
      (open_calls (closes d ++ request first s Close ∷ [])) (omega arith)
      (record {
        command = moves.command;
        next = moves.next;
        unwritten = moves.unwritten;
        installs_none = wanting_same is_install d.requests (request first s Close) refl ∙ moves.installs_none;
      })
      (wanting_same is_ask d.requests (request first s Close) refl ∙ none)
      (subst (λ (cs : List AdminRequest). HasClosed decl (first + 1) (decided_epoch d) cs
      (open_calls (closes d ++ request first s Close ∷ [])) shuts) (sym (closes_one d first s))
      (has_one n first d s calls shuts low next.0 has))
      (ap wanted round ∙ next.1))
    where
      then_more : next_site (close_round decl d) ≡ Some s
          → close_round decl (admin_requested d first s Close) ≡ asking_one (close_round decl d) s
          → ClosesSent (first + 1) epoch (admin_requested d first s Close) shuts ss
          → ClosesSent first epoch d shuts (s ∷ ss)
      then_more next round more = record {
        end = more.end;
        is = ap (λ (e : AdminAccount). fold (admin_account_at decl) e (sends_of (first + 1) (map (close_of epoch) ss)))
            step ∙ more.is;
        due = λ ys dues. (
          close_called epoch d s moves next,
          subst (λ (e : AdminAccount). AreAdminDeedsDue decl e (sends_of (first + 1) (map (close_of epoch) ss) ++ ys))
              (sym step) (more.due ys dues),
        );
        frame = frame_then d (admin_requested d first s Close) more.end (requested_frame d first s Close) more.frame;
        moves = more.moves;
        asks_none = more.asks_none;
        has = subst (λ (k : ℕ). HasClosed decl k (decided_epoch more.end) (closes more.end)
            (open_calls (closes more.end)) shuts) (one_more first (length ss)) more.has;
        round = more.round ∙ ap (λ (r : RoundState). asking_all r ss) round;
        wants_none = more.wants_none;
        admin = λ m r.
            ap (λ (cs : List Call). sent_each (doing m (Closing epoch cs r shuts)) (first + 1)
            (map (close_of epoch) ss))
            (sym (ap open_calls (closes_one d first s) ∙ calls_more (closes d) (request first s Close) refl))
            ∙ more.admin m r;
      }
        where
          step : admin_account_at decl d (Sends first s (messages.Close epoch)) ≡ admin_requested d first s Close
          step = ap (λ (b : Bool). cond b (admin_requested d first s Close) d) (close_called epoch d s moves next)
