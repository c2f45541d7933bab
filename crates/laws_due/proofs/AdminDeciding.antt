-- Once all that was asked is answered: who is in doubt is told, or the next epoch is decided and installed.
use Rattle.std.proofs.Common.{◌≡◌, ℕ, zero, suc, ◌+◌, ◌==◌, nat_le, Bool, true, false, cond, List, [], ◌∷◌, ◌++◌}
use Rattle.std.proofs.Common.{length, map, fold, Option, Some, None, option_map, refl, sym, ap, ◌∙◌, subst, arith}
use Rattle.std.specs.Prelude.{is_some}
use Rattle.std.specs.List.{filter_map, range_with_len}
use Rattle.std.specs.Option.{option_or}
use Rattle.std.proofs.lemmas.List.{append-nil, length-map}
use Rattle.qc_decl.specs.Vocabulary.{most_record_bytes}
use Rattle.qc_decl.specs.declared.declaration.Declaration.{Declaration}
use Rattle.qc_plan.specs.declared.standing.Verdict.TheVariants as verdicts
use Rattle.qc_plan.specs.Vocabulary.{verdict}
use Rattle.qc_msg.specs.declared.reply.Reply.TheVariants as replies
use Rattle.qc_msg.specs.Vocabulary.{Deed, epoch_length, sends_of}
use Rattle.qc_msg.specs.declared.payload.EpochStart.{EpochStart}
use Rattle.qc_promise.specs.Vocabulary.{AdminAccount, AdminRequest, AreAdminDeedsDue, Promised, ToldShut}
use Rattle.qc_promise.specs.Vocabulary.{admin_account_at, admin_due, all_answered, asks, close_round, close_row}
use Rattle.qc_promise.specs.Vocabulary.{closed_sites, closes, decide_due, decide_record, decided_met, decided_now}
use Rattle.qc_promise.specs.Vocabulary.{decided_of, decided_row, decision_due, doubt_row, first_doubt, installs}
use Rattle.qc_promise.specs.Vocabulary.{promised_once, shuts_told, site_set, told_shut}
use Rattle.qc_promise.specs.AdminRows.{fits_record}
use Rattle.qc_epoch.specs.Vocabulary.{Admin, Installing, Question, ShutSite, decide_turn, decides, decision}
use Rattle.qc_epoch.specs.Vocabulary.{install_of, install_sends, installing, replies_with, settles, settles_by}
use Rattle.qc_epoch.specs.Deciding as deciding
use Rattle.qc_admin.specs.Vocabulary.{sent_each}
use Rattle.laws_due.proofs.AdminRequests.{all_taken, open_calls}
use Rattle.laws_due.proofs.AdminShuts.{shuts_of, to_shut}
use Rattle.laws_due.proofs.AdminDecisions.{SameDoubt, decision_is, doubt_is, started}
use Rattle.laws_due.proofs.AdminInstalls.{installed_of}
use Rattle.laws_due.proofs.AdminStages.{Base, IsMet, IsSettled, Moves, Numbered, Ties, asked_about, epoch_of}
use Rattle.laws_due.proofs.AdminStages.{next_decided, next_row, settled_same}
use Rattle.laws_due.proofs.AdminStages as stages
use Rattle.laws_due.proofs.AdminGoes.{Goes, tells_goes}
use Rattle.laws_due.proofs.AdminAgreements.{Agree, agree}
use Rattle.laws_due.proofs.AdminInstallSends.{InstallsSent, installs_sent}
use Rattle.laws_due.proofs.AdminQuestions.{asked_of, promised_distinct, stamp_asked}

sites_told : (ts : List ToldShut) → map (λ (s : ShutSite). s.site) (map to_shut ts) ≡ map (λ (s : ToldShut). s.site) ts
sites_told [] = refl
sites_told (t ∷ ts) = ap (λ (v : List ℕ). t.site ∷ v) (sites_told ts)

pub length_range : (k c : ℕ) → length (range_with_len k c) ≡ c
length_range k zero = refl
length_range k (suc c) = ap (λ (n : ℕ). suc n) (length_range (k + 1) c)

module _ (decl : Declaration) (some : (decl.sites == 0) ≡ false) (first : ℕ) (d : AdminAccount) (m : Admin) (epoch : ℕ)
    (base : Base d m) (moves : Moves d epoch)
    (met : verdict (close_round decl d) ≡ verdicts.Met) (answered : all_answered d ≡ true) where
  -- the row then

  row_met : (o : Option Promised) → first_doubt d ≡ o → (unwritten : Bool)
      → admin_due decl d unwritten ≡ doubt_row decl d unwritten o
  row_met o is unwritten =
      next_row decl d base.up epoch moves.command moves.next unwritten
      ∙ ap (close_row decl d unwritten) met
      ∙ ap (λ (b : Bool). cond b (doubt_row decl d unwritten (first_doubt d)) None) answered
      ∙ ap (doubt_row decl d unwritten) is

  due_met : (o : Option Promised) → first_doubt d ≡ o → decide_due decl d ≡ decided_of d o
  due_met o is =
      next_decided decl d base.up epoch moves.command moves.next
      ∙ ap (decided_met d) met
      ∙ ap (λ (b : Bool). cond b (decided_of d (first_doubt d)) None) answered
      ∙ ap (decided_of d) is

  -- the decision is written and installed

  module _ (none : first_doubt d ≡ None) (fits : fits_record (decision_due d) ≡ true) (dd : EpochStart)
      (is_due : started dd ≡ decision_due d) (of_epoch : dd.epoch ≡ epoch)
      (closed_taken : all_taken (closes d) ≡ true) (asked_taken : all_taken (asks d) ≡ true) where
    decision_now : decide_due decl d ≡ Some (started dd)
    decision_now = due_met None none ∙ ap (λ (b : Bool). cond b (Some (decision_due d)) None) fits
        ∙ ap (λ (i : EpochStart). Some i) (sym is_due)

    sent : InstallsSent decl dd first 0 decl.sites (record d { written = Some (started dd) })
    sent =
        installs_sent decl dd decl.sites first first 0 (record d { written = Some (started dd) }) (omega arith)
        (rw moves.command (ap (λ (k : ℕ). Some k) (sym of_epoch))) refl
        (ap (λ (v : List AdminRequest). length v) moves.installs_none)
        (subst (Numbered first) (sym moves.installs_none) (record { below = tt; apart = tt }))

    settled : IsSettled decl (record d { written = Some (started dd) })
    settled = record {
      met = met;
      closed = closed_taken;
      asked = asked_taken;
      answered = answered;
      doubt = none;
      fits = fits;
      written = ap (λ (i : EpochStart). Some i) is_due;
    }

    -- he is installing it

    now : decided_now sent.end ≡ Some (started dd)
    now = ap (λ (o : Option EpochStart). option_or o sent.end.decided) (sent.frame).written

    admin_is : (closed : List ℕ) → sent_each
        (record { epoch = dd.epoch; decided = Some dd; doing = installing decl closed }) first (install_sends decl dd)
        ≡ record {
          epoch = dd.epoch;
          decided = Some dd;
          doing = Installing closed (range_with_len 0 decl.sites) (open_calls (installs sent.end)) [];
        }
    admin_is closed =
        ap (λ (qs : List AdminRequest). sent_each
        (record {
          epoch = dd.epoch;
          decided = Some dd;
          doing = Installing closed (range_with_len 0 decl.sites) (open_calls qs) [];
        }) first (install_sends decl dd))
        (sym moves.installs_none)
        ∙ sent.admin (record { epoch = dd.epoch; decided = Some dd; doing = installing decl closed }) closed
        (range_with_len 0 decl.sites) []

    pub decide_goes : (closed : List ℕ) → closed ≡ closed_sites d
        → Goes decl first d (record {
          admin = record
              { epoch = dd.epoch; decided = Some dd; doing = installing decl closed };
          turn = decide_turn decl dd;
        })
    decide_goes closed closed_is = record {
      end = sent.end;
      is = ap (fold (admin_account_at decl) (record d { written = Some (started dd) }))
          (append-nil (sends_of first (install_sends decl dd))) ∙ sent.is;
      due = λ ys no_pending dues. (
        (decision_now, moves.unwritten),
        subst (λ (v : List Deed). AreAdminDeedsDue decl (record d { written = Some (started dd) }) (v ++ ys))
            (sym (append-nil (sends_of first (install_sends decl dd)))) (sent.due ys dues),
      );
      ties = subst (λ (x : Admin). Ties decl (first + length (install_sends decl dd)) sent.end x)
          (sym (admin_is closed)) (record {
            base = record {
              up = (sent.frame).up ∙ base.up;
              decided = now;
              epoch = sym (ap epoch_of now);
            };
            stage = record {
              why = stages.decided (record {
                epoch = epoch;
                command = (sent.frame).command ∙ moves.command;
                next = moves.next ∙ ap (λ (o : Option EpochStart). epoch_of o + 1) (sym (sent.frame).decided);
                settled = settled_same decl (record d { written = Some (started dd) }) sent.end
                    (record {
                      closes_same = sent.closes_same;
                      asks_same = sent.asks_same;
                      decided_same = (sent.frame).decided;
                    }) (sent.frame).written settled;
                closed_are = closed_is ∙ ap (λ (cs : List AdminRequest). map (λ (s : ToldShut). s.site)
                    (filter_map told_shut cs)) (sym sent.closes_same);
              });
              calls_are = refl;
              all = (let count : length (installs sent.end) ≡ 0 + decl.sites = sent.all in omega (arith, count));
              installed_are = ap site_set (sym (sent.installed_same ∙ ap installed_of moves.installs_none));
              numbers = subst (λ (k : ℕ). Numbered (first + k) (installs sent.end))
                  (sym (length-map (range_with_len 0 decl.sites) (install_of dd) ∙ length_range 0 decl.sites))
                  sent.numbers;
              open_still = sent.open_still ∙ ap (λ (b : Bool). cond b (all_taken (installs d)) false) some;
            };
          });
      fails = λ r is. record {
        sends_none = refl;
        told = refl;
        due = row_met None none true ∙ ap (λ (b : Bool). cond b (Some replies.Fault) (Some replies.Fault)) fits;
        unwritten = moves.unwritten;
        record_is = ap (option_map decide_record) decision_now ∙ is;
      };
    }

-- each question is answered or lost

pub settles_goes : (decl : Declaration) → (decl.sites == 0) ≡ false
    → (first : ℕ) (d : AdminAccount) (m : Admin) (epoch : ℕ) → Base d m → Moves d epoch → IsMet decl d
    → all_taken (asks d) ≡ true → all_answered d ≡ true
    → Goes decl first d (settles decl m epoch (shuts_of (closes d)) (asked_of (promised_once d) (asks d)))
settles_goes decl some first d m epoch base moves met asked answered =
    by (first_doubt d) refl (deciding.first_doubt (asked_of (promised_once d) (asks d))) refl
    (doubt_is d (asks d) (asked_about d) (asked_of (promised_once d) (asks d)) agreed)
  where
    agreed : Agree (asks d) (promised_once d) (asked_of (promised_once d) (asks d))
    agreed = agree (promised_once d) (asks d) (promised_distinct (closes d)) met.about_promised

    is_due : started (decision epoch (shuts_of (closes d)) (asked_of (promised_once d) (asks d))) ≡ decision_due d
    is_due =
        ap (λ (k : ℕ). started (decision k (shuts_of (closes d)) (asked_of (promised_once d) (asks d)))) moves.next
        ∙ decision_is d (asks d) (asked_about d) (asked_of (promised_once d) (asks d)) agreed
        (λ tx. stamp_asked (promised_once d) (asks d) tx met.about_promised)

    decides_by : first_doubt d ≡ None → (b : Bool)
        → nat_le (epoch_length (decision epoch (shuts_of (closes d)) (asked_of (promised_once d) (asks d))).lines)
        most_record_bytes ≡ b
        → Goes decl first d (decides decl m (decision epoch (shuts_of (closes d)) (asked_of (promised_once d) (asks d)))
        (map (λ (s : ShutSite). s.site) (shuts_of (closes d))))
    decides_by none true fits =
        subst (λ (b : Bool). Goes decl first d (cond b
        (record {
          admin = record {
            epoch = epoch;
            decided = Some (decision epoch (shuts_of (closes d)) (asked_of (promised_once d) (asks d)));
            doing = installing decl (map (λ (s : ShutSite). s.site) (shuts_of (closes d)));
          };
          turn = decide_turn decl (decision epoch (shuts_of (closes d)) (asked_of (promised_once d) (asks d)));
        })
        (replies_with m replies.Fault))) (sym fits)
        (decide_goes decl some first d m epoch base moves met.met answered none (ap fits_record (sym is_due) ∙ fits)
        (decision epoch (shuts_of (closes d)) (asked_of (promised_once d) (asks d))) is_due refl met.closed asked
        (map (λ (s : ShutSite). s.site) (shuts_of (closes d))) (sites_told (shuts_told d)))
    decides_by none false fits =
        subst (λ (b : Bool). Goes decl first d (cond b
        (record {
          admin = record {
            epoch = epoch;
            decided = Some (decision epoch (shuts_of (closes d)) (asked_of (promised_once d) (asks d)));
            doing = installing decl (map (λ (s : ShutSite). s.site) (shuts_of (closes d)));
          };
          turn = decide_turn decl (decision epoch (shuts_of (closes d)) (asked_of (promised_once d) (asks d)));
        })
        (replies_with m replies.Fault))) (sym fits)
        (tells_goes decl first d m replies.Fault base
        (row_met decl some first d m epoch base moves met.met answered None none false
        ∙ ap (λ (b : Bool). cond b (decided_row decl d false) (Some replies.Fault)) too_long)
        (moves.unwritten ∙ sym (due_met decl some first d m epoch base moves met.met answered None none
        ∙ ap (λ (b : Bool). cond b (Some (decision_due d)) None) too_long)))
      where
        too_long : fits_record (decision_due d) ≡ false
        too_long = ap fits_record (sym is_due) ∙ fits

    by : (o : Option Promised) → first_doubt d ≡ o → (x : Option Question)
        → deciding.first_doubt (asked_of (promised_once d) (asks d)) ≡ x → SameDoubt o x
        → Goes decl first d (settles_by decl m epoch (shuts_of (closes d)) (asked_of (promised_once d) (asks d)) x)
    by None is None is_none same = decides_by is
        (nat_le (epoch_length (decision epoch (shuts_of (closes d)) (asked_of (promised_once d) (asks d))).lines)
        most_record_bytes) refl
    by None is (Some q) is_some same = absurd same
    by (Some p) is None is_none same = absurd same
    by (Some p) is (Some q) is_some same =
        tells_goes decl first d m (replies.InDoubt q.tx q.site) base
        (row_met decl some first d m epoch base moves met.met answered (Some p) is false
        ∙ (λ i. Some (replies.InDoubt (sym same.0 i) (sym same.1 i))))
        (moves.unwritten ∙ sym (due_met decl some first d m epoch base moves met.met answered (Some p) is))
