-- An answer to an Install of the administrator's, or that one is lost: once each is answered or lost, that is told.
use Rattle.std.proofs.Common.{◌≡◌, ◌≤◌, ℕ, ◌+◌, ◌==◌, ◌&&◌, Bool, true, false, cond, List, [], length, map, Option}
use Rattle.std.proofs.Common.{Some, None, refl, sym, ap, ◌∙◌, subst, eq-eqb}
use Rattle.std.specs.Prelude.{is_some, ◌^◌}
use Rattle.std.specs.List.{filter_map}
use Rattle.std.specs.Option.{option_map_or}
use Rattle.qc_decl.specs.declared.declaration.Declaration.{Declaration}
use Rattle.qc_msg.specs.declared.call.Call.{Call}
use Rattle.qc_msg.specs.declared.message.Answer.{Answer}
use Rattle.qc_msg.specs.declared.reply.Reply.TheVariants as replies
use Rattle.qc_msg.specs.Vocabulary.{has_installed, quiet, site_called, without_call}
use Rattle.qc_msg.specs.declared.payload.EpochStart.{EpochStart}
use Rattle.qc_promise.specs.Vocabulary.{AdminAccount, AdminRequest, ToldShut, admin_counted, admin_due, asks, close_row}
use Rattle.qc_promise.specs.Vocabulary.{closed_sites, closes, decide_due, decided_met, decided_of, decided_row}
use Rattle.qc_promise.specs.Vocabulary.{decision_due, doubt_row, first_doubt, installs, moved_row, site_set, told_shut}
use Rattle.qc_epoch.specs.Vocabulary.{Admin, Installing, doing, moved, replies_with, with_installed}
use Rattle.qc_epoch.specs.Conduct as conduct
use Rattle.laws_due.proofs.AdminRequests.{IsCalled, all_taken, called, calls_taken, length_taken, none_called}
use Rattle.laws_due.proofs.AdminRequests.{none_open, open_calls, taken_already}
use Rattle.laws_due.proofs.AdminInstalls.{installed_of, installed_taken, with_installed_set}
use Rattle.laws_due.proofs.AdminStages.{Base, IsInstalling, Numbered, Stage, Ties, WhyClosing, again_decided}
use Rattle.laws_due.proofs.AdminStages.{again_row_is, next_decided, next_row, settled_same}
use Rattle.laws_due.proofs.AdminStages as stages
use Rattle.laws_due.proofs.AdminGoes.{Goes, quiet_goes, tells_goes}
use Rattle.laws_due.proofs.AdminTaken.{numbered_taken}
use Rattle.laws_due.proofs.AdminFrames.{later}
use Rattle.laws_due.proofs.AdminCounts.{asks_taken, base_counted, closes_taken, installs_taken}
use Rattle.qc_msg.specs.declared.reply.Reply.{Reply}

module _ (decl : Declaration) (some : (decl.sites == 0) ≡ false) (first : ℕ) (d : AdminAccount) (m : Admin)
    (base : Base d m) (number : ℕ) (answer : Option Answer) where
  abbrev counted : AdminAccount
  counted = admin_counted d number answer

  -- the reply where these have closed, and the epoch is installed wherever that is told
  abbrev reply : List ℕ → Option Reply
  reply sites = Some (replies.Moved (site_set sites) (site_set (installed_of (installs counted))))

  why_counted : (closed : List ℕ) → WhyClosing decl d closed → WhyClosing decl counted closed
  why_counted closed (stages.decided w) =
      let closed_same : closes counted ≡ closes d =
      closes_taken d number answer ∙ taken_already number answer (closes d) (w.settled).closed in
      let asked_same : asks counted ≡ asks d =
      (asks_taken d number answer) ∙ taken_already number answer (asks d) (w.settled).asked in
      stages.decided (record {
        epoch = w.epoch;
        command = w.command;
        next = w.next;
        settled = settled_same decl d counted
            (record { closes_same = closed_same; asks_same = asked_same; decided_same = refl }) refl w.settled;
        closed_are = w.closed_are ∙ ap
            (λ (cs : List AdminRequest). map (λ (t : ToldShut). t.site) (filter_map told_shut cs)) (sym closed_same);
      })
  why_counted closed (stages.again w) =
      stages.again (record {
        epoch = w.epoch;
        command = w.command;
        same = w.same;
        unwritten = w.unwritten;
        known =
            w.known;
        closed_none = w.closed_none;
      })

  pub installing_takes : (n : ℕ) → n ≤ first → (closed awaited : List ℕ) (calls : List Call) (installed : List ℕ)
      → m.doing ≡ Installing closed awaited calls installed → IsInstalling decl n d closed calls installed
      → Goes decl first counted (conduct.installing_takes m closed awaited calls installed number answer
      (site_called calls number))
  installing_takes n low closed awaited calls installed doing_is s = by (site_called calls number) refl
    where
      stays : site_called calls number ≡ None → Ties decl first counted m
      stays is =
          let same : installs counted ≡ installs d =
          (installs_taken d number answer)
          ∙ none_called number answer (installs d)
          (ap (λ (cs : List Call). site_called cs number) (sym s.calls_are) ∙ is) in
          record {
            base = base_counted d m base number answer;
            stage = subst (Stage decl first counted) (sym doing_is) (record {
              why = why_counted closed s.why;
              calls_are = s.calls_are ∙ ap open_calls (sym same);
              all = ap (λ (v : List AdminRequest). length v) same ∙ s.all;
              installed_are = s.installed_are ∙ ap (λ (v : List AdminRequest). site_set (installed_of v)) (sym same);
              numbers = subst (Numbered first) (sym same) (later n first (installs d) low s.numbers);
              open_still = ap all_taken same ∙ s.open_still;
            });
          }

      all_now : length (installs counted) ≡ decl.sites
      all_now = ap (λ (v : List AdminRequest). length v) (installs_taken d number answer)
          ∙ length_taken number answer (installs d) ∙ s.all

      calls_now : without_call calls number ≡ open_calls (installs counted)
      calls_now = ap (λ (cs : List Call). without_call cs number) s.calls_are ∙ calls_taken number answer (installs d)
          ∙ ap open_calls (sym (installs_taken d number answer))

      installed_now : (site : ℕ) → site_called calls number ≡ Some site
          → site_set (with_installed installed site answer) ≡ site_set (installed_of (installs counted))
      installed_now site is =
          let c : IsCalled number site (installs d) =
          called number site (installs d) (ap (λ (cs : List Call). site_called cs number) (sym s.calls_are) ∙ is) in
          with_installed_set installed site answer
          ∙ ap (λ (k : ℕ). k + cond (option_map_or has_installed answer false) (2 ^ site) 0) s.installed_are
          ∙ sym (installed_taken number site answer (installs d) (s.numbers).apart c)
          ∙ ap (λ (v : List AdminRequest). site_set (installed_of v)) (sym (installs_taken d number answer))

      -- once each is answered or lost

      moved_is : (sites : List ℕ) → all_taken (installs counted) ≡ true → moved_row decl counted sites ≡ reply sites
      moved_is sites taken =
          (λ i. cond ((all_now i == decl.sites) && taken i) (reply sites) None)
          ∙ ap (λ (b : Bool). cond (b && true) (reply sites) None) (eq-eqb decl.sites decl.sites refl)

      row_now : all_taken (installs counted) ≡ true → WhyClosing decl counted closed
          → admin_due decl counted false ≡ reply closed
      row_now taken (stages.decided w) =
          next_row decl counted base.up w.epoch w.command w.next false
          ∙ ap (close_row decl counted false) (w.settled).met
          ∙ ap (λ (b : Bool). cond b (doubt_row decl counted false (first_doubt counted)) None) (w.settled).answered
          ∙ ap (doubt_row decl counted false) (w.settled).doubt
          ∙ ap (λ (b : Bool). cond b (decided_row decl counted false) (Some replies.Fault)) (w.settled).fits
          ∙ ap (λ (o : Option EpochStart). cond (is_some o) (moved_row decl counted (closed_sites counted)) None)
          (w.settled).written
          ∙ moved_is (closed_sites counted) taken
          ∙ ap (λ (v : List ℕ). reply v) (sym w.closed_are)
      row_now taken (stages.again w) =
          again_row_is decl counted base.up w.epoch w.command w.same w.known false
          ∙ moved_is [] taken
          ∙ ap (λ (v : List ℕ). reply v) (sym w.closed_none)

      decided_so : WhyClosing decl counted closed → d.written ≡ decide_due decl counted
      decided_so (stages.decided w) =
          (w.settled).written
          ∙ sym (next_decided decl counted base.up w.epoch w.command w.next
          ∙ ap (decided_met counted) (w.settled).met
          ∙ ap (λ (b : Bool). cond b (decided_of counted (first_doubt counted)) None) (w.settled).answered
          ∙ ap (decided_of counted) (w.settled).doubt
          ∙ ap (λ (b : Bool). cond b (Some (decision_due counted)) None) (w.settled).fits)
      decided_so (stages.again w) = w.unwritten ∙ sym (again_decided decl counted base.up w.epoch w.command w.same)

      ends : (site : ℕ) → site_called calls number ≡ Some site → (b : Bool) → all_taken (installs counted) ≡ b
          → Goes decl first counted (cond b
          (replies_with m (replies.Moved (site_set closed) (site_set (with_installed installed site answer))))
          (moved (doing m (Installing closed awaited (without_call calls number)
          (with_installed installed site answer))) quiet))
      ends site is true taken =
          tells_goes decl first counted m
          (replies.Moved (site_set closed) (site_set (with_installed installed site answer)))
          (base_counted d m base number answer)
          (row_now taken (why_counted closed s.why)
          ∙ ap (λ (k : ℕ). Some (replies.Moved (site_set closed) k)) (sym (installed_now site is)))
          (decided_so (why_counted closed s.why))
      ends site is false taken =
          quiet_goes decl first counted (doing m
          (Installing closed awaited (without_call calls number) (with_installed installed site answer)))
          (record {
            base = record { up = base.up; decided = base.decided; epoch = base.epoch };
            stage = record {
              why = why_counted closed s.why;
              calls_are = calls_now;
              all = all_now;
              installed_are = installed_now site is;
              numbers = subst (Numbered first) (sym (installs_taken d number answer))
                  (numbered_taken number answer first (installs d) (later n first (installs d) low s.numbers));
              open_still = taken;
            };
          })

      by : (o : Option ℕ) → site_called calls number ≡ o
          → Goes decl first counted (conduct.installing_takes m closed awaited calls installed number answer o)
      by None is = quiet_goes decl first counted m (stays is)
      by (Some site) is =
          subst (λ (b : Bool). Goes decl first counted (cond b
          (replies_with m (replies.Moved (site_set closed) (site_set (with_installed installed site answer))))
          (moved (doing m (Installing closed awaited (without_call calls number)
          (with_installed installed site answer))) quiet)))
          (sym (ap (λ (cs : List Call). length cs == 0) calls_now ∙ none_open (installs counted)))
          (ends site is (all_taken (installs counted)) refl)
