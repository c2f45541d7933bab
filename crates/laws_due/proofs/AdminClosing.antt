-- Once a Close is answered or lost: the round of Closes goes on, is short, or is met; then clients are asked, or there
-- is nobody to ask.
use Rattle.std.proofs.Common.{◌≡◌, ◌≤◌, ℕ, zero, suc, ◌+◌, ◌==◌, ◌&&◌, Bool, true, false, cond, List, [], ◌∷◌, ◌++◌}
use Rattle.std.proofs.Common.{length, map, drop, take, Option, None, refl, sym, ap, ◌∙◌, subst, arith}
use Rattle.std.specs.Prelude.{is_some}
use Rattle.std.specs.List.{AllByRecursion as Every, list_all}
use Rattle.std.proofs.lemmas.List.{length-map}
use Rattle.qc_msg.specs.Vocabulary.{sending}
use Rattle.qc_msg.specs.declared.payload.EpochStart.{EpochStart}
use Rattle.qc_decl.specs.declared.declaration.Declaration.{Declaration}
use Rattle.qc_plan.specs.declared.standing.Asked.{Asked}
use Rattle.qc_plan.specs.declared.standing.Verdict.{Verdict}
use Rattle.qc_plan.specs.declared.standing.Verdict.TheVariants as verdicts
use Rattle.qc_plan.specs.Vocabulary.{RoundState, all_noted, asking_all, verdict, wanted}
use Rattle.qc_msg.specs.declared.call.Call.{Call}
use Rattle.qc_msg.specs.declared.reply.Half.TheVariants as halves
use Rattle.qc_msg.specs.declared.reply.Reply.TheVariants as replies
use Rattle.qc_msg.specs.declared.turn.Posting.{Posting}
use Rattle.qc_promise.specs.Vocabulary.{AdminAccount, AdminRequest, Promised, asks, close_round, close_row, closes}
use Rattle.qc_promise.specs.Vocabulary.{decided_epoch, decided_met, most_questions, promised_once}
use Rattle.qc_epoch.specs.Vocabulary.{Admin, Asking, Closing, Question, ShutSite, ask_of, close_of, doing}
use Rattle.qc_epoch.specs.Vocabulary.{in_asked_order, most_asks, moved, questions_of, settles}
use Rattle.qc_epoch.specs.Conduct as conduct
use Rattle.qc_epoch.specs.Deciding as deciding
use Rattle.qc_admin.specs.Vocabulary.{sent_each}
use Rattle.laws_due.specs.Vocabulary.{AreApart}
use Rattle.laws_due.proofs.Halves.{waiting_verdict}
use Rattle.laws_due.proofs.AdminRequests.{all_taken, differ, open_calls, sites_of}
use Rattle.laws_due.proofs.AdminCloses.{IsOne, one_of, over_taken, round_of, sites_apart}
use Rattle.laws_due.proofs.AdminCloses as rounds
use Rattle.laws_due.proofs.AdminShuts.{in_order, shuts_of}
use Rattle.laws_due.proofs.AdminDecisions.{answered_is}
use Rattle.laws_due.proofs.AdminStages.{Base, epoch_of, HasClosed, IsMet, Moves, Ties, asked_about, next_decided}
use Rattle.laws_due.proofs.AdminStages.{next_row}
use Rattle.laws_due.proofs.AdminGoes.{Goes, base_frame, sends_goes, tells_goes}
use Rattle.laws_due.proofs.AdminDeciding.{settles_goes}
use Rattle.laws_due.proofs.AdminAgreements.{agree}
use Rattle.laws_due.proofs.AdminAskSends.{AsksSent, ask_to, asks_sent}
use Rattle.laws_due.proofs.AdminCloseSends.{ClosesSent, closes_sent}
use Rattle.laws_due.proofs.AdminQuestions.{AreAbout, asked_of, none_asked, promised_distinct, promised_of}
use Rattle.laws_due.proofs.AdminQuestions.{questions_are, unasked}
use Rattle.qc_front.proofs.Apart.{apart_first}

pub closed_apart : (decl : Declaration) (n e : ℕ) (cs : List AdminRequest) (calls : List Call) (shuts : List ShutSite)
    → HasClosed decl n e cs calls shuts → AreApart (sites_of cs)
closed_apart decl n e cs calls shuts has =
    apart_first (sites_of cs) (round_of decl e cs).rest (subst AreApart (sym has.sites) (sites_apart decl e))

-- a round of Closes comes to nothing else

abbrev IsLeft : Verdict → Type 0
IsLeft verdicts.Waiting = Unit {0}
IsLeft verdicts.Met = Unit {0}
IsLeft (verdicts.Closed epoch site) = ⊥
IsLeft (verdicts.Clash tx site) = ⊥
IsLeft (verdicts.Short got need) = Unit {0}

left : {v : Verdict} → IsOne v → IsLeft v
left rounds.waits = tt
left rounds.met = tt
left (rounds.short got need) = tt

-- who was asked just now is awaited

last_awaited : (asked_so : List Asked) (site : ℕ)
    → all_noted (asked_so ++ record { site = site; standing = None } ∷ []) ≡ false
last_awaited [] site = refl
last_awaited (a ∷ rest) site = by (is_some a.standing) (last_awaited rest site)
  where
    by : (b : Bool) → all_noted (rest ++ record { site = site; standing = None } ∷ []) ≡ false
        → (b && all_noted (rest ++ record { site = site; standing = None } ∷ [])) ≡ false
    by true e = e
    by false e = refl

still_waits : (sites : List ℕ) (r : RoundState) → verdict r ≡ verdicts.Waiting
    → verdict (asking_all r sites) ≡ verdicts.Waiting
still_waits [] r waits = waits
still_waits (s ∷ ss) r waits =
    still_waits ss (record r { asked = r.asked ++ record { site = s; standing = None } ∷ []; rest = drop 1 r.rest })
    (waiting_verdict (record r { asked = r.asked ++ record { site = s; standing = None } ∷ []; rest = drop 1 r.rest })
    (last_awaited r.asked s))

-- the messages that ask

asking_posts : (decl : Declaration) (n : ℕ) (ps : List Promised)
    → map (ask_of decl) (take n (map unasked ps)) ≡ map (ask_to decl) (take n ps)
asking_posts decl zero [] = refl
asking_posts decl zero (p ∷ ps) = refl
asking_posts decl (suc n) [] = refl
asking_posts decl (suc n) (p ∷ ps) = ap (λ (v : List Posting). ask_to decl p ∷ v) (asking_posts decl n ps)

first_untaken : (n : ℕ) (p : Promised) (ps : List Promised) (qs : List AdminRequest)
    → Every (λ (q : AdminRequest). q.taken ≡ None) qs
    → list_all (λ (x : Question). is_some x.taken) (take (suc n) (asked_of (p ∷ ps) qs)) ≡ false
first_untaken n p ps [] none = refl
first_untaken n p ps (q ∷ qs) none = rw none.0 refl

module _ (decl : Declaration) (some : (decl.sites == 0) ≡ false) (first : ℕ) (d : AdminAccount) (m : Admin) (epoch : ℕ)
    (base : Base d m) (moves : Moves d epoch) (none : asks d ≡ []) where
  -- clients are asked

  asking_goes : (p : Promised) (ps : List Promised) → promised_once d ≡ p ∷ ps → IsMet decl d
      → Goes decl first d (moved (doing m (Asking epoch (shuts_of (closes d)) (asked_of (promised_once d) [])))
      (sending (map (ask_of decl) (take most_asks (asked_of (promised_once d) [])))))
  asking_goes p ps promised met =
      subst (λ (v : List Posting). Goes decl first d
      (moved (doing m (Asking epoch (shuts_of (closes d)) (asked_of (promised_once d) []))) (sending v)))
      (sym posts)
      (sends_goes decl first d (doing m (Asking epoch (shuts_of (closes d)) (asked_of (promised_once d) [])))
      (map (ask_to decl) (take most_questions (promised_once d))) sent.end sent.is sent.due
      (subst (λ (x : Admin). Ties decl (first + length (map (ask_to decl) (take most_questions (promised_once d))))
      sent.end x) (sym admin_is) (record {
        base = base_now;
        stage = record {
          moves = record {
            command = (sent.frame).command ∙ moves.command;
            next = moves.next ∙ ap (λ (o : Option EpochStart). epoch_of o + 1) (sym (sent.frame).decided);
            unwritten = (sent.frame).written ∙ moves.unwritten;
            installs_none = sent.installs_same ∙ moves.installs_none;
          };
          met = record {
            met = (λ i. verdict (round_of decl (epoch_of ((sent.frame).decided i)) (sent.closes_same i))) ∙ met.met;
            closed = ap all_taken sent.closes_same ∙ met.closed;
            about_promised = subst (λ (cs : List AdminRequest). AreAbout (promised_of cs) (asks sent.end))
                (sym sent.closes_same) sent.about_promised;
            few = sent.few;
          };
          shuts_are = ap shuts_of (sym sent.closes_same);
          questions_are = ap (λ (cs : List AdminRequest). asked_of (promised_of cs) (asks sent.end))
              (sym sent.closes_same);
          open_still =
              ap (λ (v : List Promised). deciding.all_taken (asked_of v (asks sent.end))) promised
              ∙ first_untaken 65535 p ps (asks sent.end)
              (sent.untaken (subst (Every (λ (q : AdminRequest). q.taken ≡ None)) (sym none) tt));
          none_left = ap (λ (cs : List AdminRequest). drop (length (asks sent.end))
              (take most_questions (promised_of cs))) sent.closes_same ∙ sent.none_left;
        };
      })))
    where
      posts : map (ask_of decl) (take most_asks (asked_of (promised_once d) [])) ≡ map (ask_to decl)
          (take most_questions (promised_once d))
      posts = ap (λ (v : List Question). map (ask_of decl) (take most_asks v)) (none_asked (promised_once d))
          ∙ asking_posts decl most_asks (promised_once d)

      sent : AsksSent decl first epoch d (take most_questions (promised_once d))
      sent =
          asks_sent decl epoch (take most_questions (promised_once d)) first d moves met.met
          (subst (AreAbout (promised_once d)) (sym none) tt) met.few
          (ap (λ (qs : List AdminRequest). drop (length qs) (take most_questions (promised_once d))) none)

      admin_is : sent_each (doing m (Asking epoch (shuts_of (closes d)) (asked_of (promised_once d) []))) first
          (map (ask_to decl) (take most_questions (promised_once d)))
          ≡ doing m (Asking epoch (shuts_of (closes d)) (asked_of (promised_once d) (asks sent.end)))
      admin_is =
          ap (λ (qs : List AdminRequest). sent_each
          (doing m (Asking epoch (shuts_of (closes d)) (asked_of (promised_once d) qs))) first
          (map (ask_to decl) (take most_questions (promised_once d)))) (sym none)
          ∙ sent.admin m (shuts_of (closes d))

      base_now : Base sent.end (doing m (Asking epoch (shuts_of (closes d))
          (asked_of (promised_once d) (asks sent.end))))
      base_now = let b : Base sent.end m = base_frame d sent.end m sent.frame base in
          record { up = b.up; decided = b.decided; epoch = b.epoch }

  -- enough sites have closed

  pub asks_goes : IsMet decl d → Goes decl first d
      (conduct.asks decl m epoch (shuts_of (closes d)) (asked_of (promised_once d) []))
  asks_goes met = by (promised_once d) refl
    where
      settled_now : promised_once d ≡ [] → Goes decl first d
          (settles decl m epoch (shuts_of (closes d)) (asked_of (promised_once d) []))
      settled_now nobody =
          subst (λ (qs : List AdminRequest). Goes decl first d
          (settles decl m epoch (shuts_of (closes d)) (asked_of (promised_once d) qs))) none
          (settles_goes decl some first d m epoch base moves met (ap all_taken none)
          (sym (answered_is d (asks d) (asked_about d) (asked_of (promised_once d) (asks d))
          (agree (promised_once d) (asks d) (promised_distinct (closes d)) met.about_promised))
          ∙ (λ i. deciding.all_taken (asked_of (nobody i) (none i)))))

      by : (ps : List Promised) → promised_once d ≡ ps
          → Goes decl first d (conduct.asks decl m epoch (shuts_of (closes d)) (asked_of (promised_once d) []))
      by [] is =
          subst (λ (b : Bool). Goes decl first d (cond b
          (settles decl m epoch (shuts_of (closes d)) (asked_of (promised_once d) []))
          (moved (doing m (Asking epoch (shuts_of (closes d)) (asked_of (promised_once d) [])))
          (sending (map (ask_of decl) (take most_asks (asked_of (promised_once d) [])))))))
          (sym (ap (λ (ps : List Promised). length (asked_of ps []) == 0) is)) (settled_now is)
      by (p ∷ ps) is =
          subst (λ (b : Bool). Goes decl first d (cond b
          (settles decl m epoch (shuts_of (closes d)) (asked_of (promised_once d) []))
          (moved (doing m (Asking epoch (shuts_of (closes d)) (asked_of (promised_once d) [])))
          (sending (map (ask_of decl) (take most_asks (asked_of (promised_once d) [])))))))
          (sym (ap (λ (v : List Promised). length (asked_of v []) == 0) is
          ∙ differ (suc (length (asked_of ps []))) 0 (λ same. omega arith))) (asking_goes p ps is met)

  -- the round goes on, or is over

  module _ (n : ℕ) (low : n ≤ first) (calls : List Call) (shuts : List ShutSite)
      (has : HasClosed decl n (decided_epoch d) (closes d) calls shuts) where
    waits_goes : verdict (close_round decl d) ≡ verdicts.Waiting
        → Goes decl first d (conduct.goes_on m epoch calls (close_round decl d) shuts)
    waits_goes waits =
        sends_goes decl first d (doing m (Closing epoch calls
        (asking_all (close_round decl d) (wanted (close_round decl d))) shuts))
        (map (close_of epoch) (wanted (close_round decl d))) sent.end sent.is sent.due
        (subst (λ (x : Admin). Ties decl (first + length (map (close_of epoch) (wanted (close_round decl d)))) sent.end
        x) (sym admin_is) (record {
          base = base_now;
          stage = (
            record {
              moves = sent.moves;
              asks_none = sent.asks_none;
              has = subst (λ (k : ℕ). HasClosed decl (first + k) (decided_epoch sent.end) (closes sent.end)
                  (open_calls (closes sent.end)) shuts) (sym
                  (length-map (wanted (close_round decl d)) (close_of epoch))) sent.has;
              waits = ap verdict sent.round ∙ still_waits (wanted (close_round decl d)) (close_round decl d) waits;
              wants_none = sent.wants_none;
            },
            sym sent.round,
          );
        }))
      where
        sent : ClosesSent decl first epoch d shuts (wanted (close_round decl d))
        sent = closes_sent decl epoch shuts (wanted (close_round decl d)) n first d calls low moves none has refl

        admin_is : sent_each (doing m (Closing epoch calls
            (asking_all (close_round decl d) (wanted (close_round decl d))) shuts)) first
            (map (close_of epoch) (wanted (close_round decl d)))
            ≡ doing m (Closing epoch (open_calls (closes sent.end))
            (asking_all (close_round decl d) (wanted (close_round decl d))) shuts)
        admin_is =
            ap (λ (cs : List Call). sent_each (doing m
            (Closing epoch cs (asking_all (close_round decl d) (wanted (close_round decl d))) shuts)) first
            (map (close_of epoch) (wanted (close_round decl d)))) has.calls_are
            ∙ sent.admin m (asking_all (close_round decl d) (wanted (close_round decl d)))

        base_now : Base sent.end (doing m (Closing epoch (open_calls (closes sent.end))
            (asking_all (close_round decl d) (wanted (close_round decl d))) shuts))
        base_now = let b : Base sent.end m = base_frame d sent.end m sent.frame base in
            record { up = b.up; decided = b.decided; epoch = b.epoch }

    met_goes : verdict (close_round decl d) ≡ verdicts.Met
        → Goes decl first d (conduct.asks decl m epoch (in_asked_order (close_round decl d).asked shuts)
        (questions_of (in_asked_order (close_round decl d).asked shuts)))
    met_goes met =
        subst (λ (v : List ShutSite). Goes decl first d (conduct.asks decl m epoch v (questions_of v)))
        (sym (in_order shuts (closes d) (closed_apart decl n (decided_epoch d) (closes d) calls shuts has)
        has.shuts_are))
        (subst (λ (v : List Question). Goes decl first d (conduct.asks decl m epoch (shuts_of (closes d)) v))
        (sym (questions_are (closes d)))
        (asks_goes (record {
          met = met;
          closed = over_taken decl (decided_epoch d) (closes d) (subst rounds.IsOver (sym met) tt);
          about_promised = subst (AreAbout (promised_once d)) (sym none) tt;
          few = subst (λ (qs : List AdminRequest). length qs ≤ most_questions) (sym none) (omega arith);
        })))

    pub closes_goes : Goes decl first d (conduct.closes decl m epoch calls (close_round decl d) shuts)
    closes_goes = by (verdict (close_round decl d)) refl (one_of decl (decided_epoch d) (closes d))
      where
        by : (v : Verdict) → verdict (close_round decl d) ≡ v → IsOne (verdict (close_round decl d))
            → Goes decl first d (conduct.closes_by decl m epoch calls (close_round decl d) shuts v)
        by verdicts.Waiting is one = waits_goes is
        by verdicts.Met is one = met_goes is
        by (verdicts.Closed e site) is one = absurd (subst IsLeft is (left one))
        by (verdicts.Clash tx site) is one = absurd (subst IsLeft is (left one))
        by (verdicts.Short got need) is one =
            tells_goes decl first d m (replies.Quorum halves.Close got need) base
            (next_row decl d base.up epoch moves.command moves.next false ∙ ap (close_row decl d false) is)
            (moves.unwritten ∙ sym (next_decided decl d base.up epoch moves.command moves.next ∙ ap (decided_met d) is))
