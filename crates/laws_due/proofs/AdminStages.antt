-- Where the administrator stands between two inputs, by his account: he rests, or closes sites, asks clients or
-- installs. And the rows that are due then.
use Rattle.std.proofs.Common.{◌≡◌, ◌≢◌, ◌<◌, ◌≤◌, ℕ, ◌+◌, ◌==◌, Bool, true, false, cond, List, [], ◌++◌, length, map}
use Rattle.std.proofs.Common.{fold, max, Option, Some, None, option_map, refl, sym, ap, ◌∙◌, arith, eq-eqb, eqb-true}
use Rattle.std.proofs.Common.{drop, take}
use Rattle.std.specs.Prelude.{is_some, option_and_then, not}
use Rattle.std.specs.List.{AllByRecursion as Every, filter_map, find, list_all}
use Rattle.std.specs.Option.{option_map_or}
use Rattle.qc_stamp.specs.declared.stamp.Stamp.{Stamp}
use Rattle.qc_stamp.specs.declared.stamp.TxId.{TxId}
use Rattle.qc_entry.specs.declared.line.Line.{Line}
use Rattle.qc_entry.specs.declared.record.Prepared.{Prepared}
use Rattle.qc_entry.specs.Vocabulary.{union}
use Rattle.qc_decl.specs.declared.declaration.Declaration.{Declaration}
use Rattle.qc_plan.specs.declared.standing.Verdict.TheVariants as verdicts
use Rattle.qc_plan.specs.Vocabulary.{verdict, wanted}
use Rattle.qc_msg.specs.declared.call.Call.{Call}
use Rattle.qc_msg.specs.declared.message.Outcome.{Outcome}
use Rattle.qc_msg.specs.declared.reply.Reply.TheVariants as replies
use Rattle.qc_msg.specs.declared.step.Command.{Command}
use Rattle.qc_msg.specs.declared.step.Command.TheVariants as commands
use Rattle.qc_msg.specs.Vocabulary.{epoch_in, first_epoch}
use Rattle.qc_msg.specs.declared.payload.EpochStart.{EpochStart}
use Rattle.qc_promise.specs.Vocabulary.{AdminAccount, AdminRequest, Promised, ToldShut, admin_due, admin_row}
use Rattle.qc_promise.specs.Vocabulary.{all_answered, ask_of, asks, close_round, close_row, closed_sites, closes}
use Rattle.qc_promise.specs.Vocabulary.{commanded, decide_due, decided_epoch, decided_met, decided_now, decision_due}
use Rattle.qc_promise.specs.Vocabulary.{epoch_row, first_doubt, fresh_round, installs, lines_of, most_questions}
use Rattle.qc_promise.specs.Vocabulary.{moved_row, promised_once, site_set, stamp_in, told_shut}
use Rattle.qc_promise.specs.AdminRounds.{is_final}
use Rattle.qc_promise.specs.AdminRows.{fits_record}
use Rattle.qc_epoch.specs.Vocabulary.{Admin, Asking, Closing, Doing, Installing, Question, Resting, ShutSite}
use Rattle.qc_epoch.specs.Deciding as deciding
use Rattle.laws_due.specs.Vocabulary.{AreApart}
use Rattle.laws_due.proofs.AdminRequests.{all_taken, differ, numbers_of, open_calls, sites_of}
use Rattle.laws_due.proofs.AdminCloses.{round_of}
use Rattle.laws_due.proofs.AdminShuts.{AreShut, shuts_of}
use Rattle.laws_due.proofs.AdminDecisions.{started}
use Rattle.laws_due.proofs.AdminInstalls.{installed_of}
use Rattle.laws_due.proofs.AdminQuestions.{AreAbout, about, among_asks, asked_of, outcome_of, promised_of}

-- requests with numbers below this one, no two with the same
pub record Numbered (n : ℕ) (qs : List AdminRequest) : Type 0 where
  pub below : Every (λ (q : AdminRequest). q.number < n) qs
  pub apart : AreApart (numbers_of qs)

-- what was decided, whatever runs

abbrev pub epoch_of : Option EpochStart → ℕ
epoch_of o = option_map_or (λ (i : EpochStart). i.epoch) o first_epoch

pub record Base (d : AdminAccount) (m : Admin) : Type 0 where
  pub up : d.up ≡ true
  pub decided : decided_now d ≡ option_map started m.decided
  pub epoch : m.epoch ≡ epoch_of (decided_now d)

-- a command for an epoch
abbrev pub IsAsked : AdminAccount → ℕ → Type 0
IsAsked d k = d.command ≡ Some (commands.Epoch k)

-- for the next one, before it is decided
pub record Moves (d : AdminAccount) (epoch : ℕ) : Type 0 where
  pub command : IsAsked d epoch
  pub next : epoch ≡ decided_epoch d + 1
  pub unwritten : d.written ≡ None
  pub installs_none : installs d ≡ []

-- the Closes so far, in the epoch e
pub record HasClosed (decl : Declaration) (n e : ℕ) (cs : List AdminRequest) (calls : List Call)
    (shuts : List ShutSite) : Type 0 where
  pub calls_are : calls ≡ open_calls cs
  pub shuts_are : AreShut shuts cs
  pub sites : sites_of cs ++ (round_of decl e cs).rest ≡ (fresh_round decl e).rest
  pub numbers : Numbered n cs

-- all that the next epoch is decided from: enough sites have closed
pub record IsMet (decl : Declaration) (d : AdminAccount) : Type 0 where
  pub met : verdict (close_round decl d) ≡ verdicts.Met
  pub closed : all_taken (closes d) ≡ true
  pub about_promised : AreAbout (promised_once d) (asks d)
  pub few : length (asks d) ≤ most_questions

-- and it is decided
pub record IsSettled (decl : Declaration) (d : AdminAccount) : Type 0 where
  pub met : verdict (close_round decl d) ≡ verdicts.Met
  pub closed : all_taken (closes d) ≡ true
  pub asked : all_taken (asks d) ≡ true
  pub answered : all_answered d ≡ true
  pub doubt : first_doubt d ≡ None
  pub fits : fits_record (decision_due d) ≡ true
  pub written : d.written ≡ Some (decision_due d)

-- why Installs go out: the next epoch is decided, or the decided one is installed again

pub record IsDecided (decl : Declaration) (d : AdminAccount) (closed : List ℕ) : Type 0 where
  pub epoch : ℕ
  pub command : IsAsked d epoch
  pub next : epoch ≡ decided_epoch d + 1
  pub settled : IsSettled decl d
  pub closed_are : closed ≡ closed_sites d

pub record IsAgain (d : AdminAccount) (closed : List ℕ) : Type 0 where
  pub epoch : ℕ
  pub command : IsAsked d epoch
  pub same : epoch ≡ decided_epoch d
  pub unwritten : d.written ≡ None
  pub known : is_some d.decided ≡ true
  pub closed_none : closed ≡ []

pub data WhyClosing (decl : Declaration) (d : AdminAccount) (closed : List ℕ) : Type 0 where
  decided : IsDecided decl d closed → WhyClosing decl d closed
  again : IsAgain d closed → WhyClosing decl d closed

-- the stages

pub record Rests (d : AdminAccount) : Type 0 where
  pub commanded_none : commanded d ≡ None
  pub unwritten : d.written ≡ None

pub record IsClosing (decl : Declaration) (n : ℕ) (d : AdminAccount) (epoch : ℕ) (calls : List Call)
    (shuts : List ShutSite) : Type 0 where
  pub moves : Moves d epoch
  pub asks_none : asks d ≡ []
  pub has : HasClosed decl n (decided_epoch d) (closes d) calls shuts
  pub waits : verdict (close_round decl d) ≡ verdicts.Waiting
  pub wants_none : wanted (close_round decl d) ≡ []

pub record IsAsking (decl : Declaration) (d : AdminAccount) (epoch : ℕ) (shuts : List ShutSite)
    (questions : List Question) : Type 0 where
  pub moves : Moves d epoch
  pub met : IsMet decl d
  pub shuts_are : shuts ≡ shuts_of (closes d)
  pub questions_are : questions ≡ asked_of (promised_once d) (asks d)
  pub open_still : deciding.all_taken questions ≡ false
  pub none_left : drop (length (asks d)) (take most_questions (promised_once d)) ≡ []

pub record IsInstalling (decl : Declaration) (n : ℕ) (d : AdminAccount) (closed : List ℕ) (calls : List Call)
    (installed : List ℕ) : Type 0 where
  pub why : WhyClosing decl d closed
  pub calls_are : calls ≡ open_calls (installs d)
  pub all : length (installs d) ≡ decl.sites
  pub installed_are : site_set installed ≡ site_set (installed_of (installs d))
  pub numbers : Numbered n (installs d)
  pub open_still : all_taken (installs d) ≡ false

abbrev pub Stage : Declaration → ℕ → AdminAccount → Doing → Type 0
Stage decl n d Resting = Rests d
Stage decl n d (Closing epoch calls round shuts) = IsClosing decl n d epoch calls shuts × (round ≡ close_round decl d)
Stage decl n d (Asking epoch shuts questions) = IsAsking decl d epoch shuts questions
Stage decl n d (Installing closed awaited calls installed) = IsInstalling decl n d closed calls installed

pub record Ties (decl : Declaration) (n : ℕ) (d : AdminAccount) (m : Admin) : Type 0 where
  pub base : Base d m
  pub stage : Stage decl n d m.doing

-- the row of a command for the next epoch, and of one for the decided epoch

module _ (decl : Declaration) (d : AdminAccount) (up : d.up ≡ true) (k : ℕ) (command : IsAsked d k) where
  row_is : (unwritten : Bool) → admin_due decl d unwritten ≡ epoch_row decl d unwritten k
  row_is unwritten =
      ap (option_and_then (admin_row decl d unwritten)) command
      ∙ ap (λ (b : Bool). cond b (epoch_row decl d unwritten k) (Some replies.Down)) up

  decide_is : decide_due decl d ≡ cond (k == decided_epoch d + 1) (decided_met d (verdict (close_round decl d))) None
  decide_is =
      ap (λ (b : Bool). cond b (option_and_then
      (λ (x : ℕ). cond (x == decided_epoch d + 1) (decided_met d (verdict (close_round decl d))) None)
      (option_and_then epoch_in d.command)) None) up
      ∙ ap (λ (c : Option Command). option_and_then
      (λ (x : ℕ). cond (x == decided_epoch d + 1) (decided_met d (verdict (close_round decl d))) None)
      (option_and_then epoch_in c)) command

  pub next_row : k ≡ decided_epoch d + 1 → (unwritten : Bool)
      → admin_due decl d unwritten ≡ close_row decl d unwritten (verdict (close_round decl d))
  next_row next unwritten =
      row_is unwritten
      ∙ rw (differ k (decided_epoch d) (λ same. omega (arith, next, same)), eq-eqb k (decided_epoch d + 1) next) refl

  pub next_decided : k ≡ decided_epoch d + 1 → decide_due decl d ≡ decided_met d (verdict (close_round decl d))
  next_decided next = decide_is ∙ rw (eq-eqb k (decided_epoch d + 1) next) refl

  pub again_row_is : k ≡ decided_epoch d → is_some d.decided ≡ true → (unwritten : Bool)
      → admin_due decl d unwritten ≡ moved_row decl d []
  again_row_is same known unwritten =
      row_is unwritten
      ∙ rw (eq-eqb k (decided_epoch d) same) (ap
      (λ (b : Bool). cond b (moved_row decl d []) (Some (replies.Order (decided_epoch d)))) known)

  pub again_decided : k ≡ decided_epoch d → decide_due decl d ≡ None
  again_decided same = decide_is ∙ rw (differ k (decided_epoch d + 1) (λ next. omega (arith, next, same))) refl

  pub order_row : k ≢ decided_epoch d + 1 → (k ≡ decided_epoch d → is_some d.decided ≡ false) → (unwritten : Bool)
      → admin_due decl d unwritten ≡ Some (replies.Order (decided_epoch d))
  order_row other unknown unwritten = row_is unwritten ∙ by (k == decided_epoch d) refl
    where
      by : (b : Bool) → (k == decided_epoch d) ≡ b
          → epoch_row decl d unwritten k ≡ Some (replies.Order (decided_epoch d))
      by true is = rw is (ap (λ (b : Bool). cond b (moved_row decl d []) (Some (replies.Order (decided_epoch d))))
          (unknown (eqb-true k (decided_epoch d) is)))
      by false is = rw (is, differ k (decided_epoch d + 1) other) refl

  pub order_decided : k ≢ decided_epoch d + 1 → decide_due decl d ≡ None
  order_decided other = decide_is ∙ rw (differ k (decided_epoch d + 1) other) refl

-- Accounts with the same Closes and Asks, and the same epoch decided before, decide the same.

pub record SameViews (d e : AdminAccount) : Type 0 where
  pub closes_same : closes e ≡ closes d
  pub asks_same : asks e ≡ asks d
  pub decided_same : e.decided ≡ d.decided

pub record IsDue (decl : Declaration) (d e : AdminAccount) : Type 0 where
  pub round : close_round decl e ≡ close_round decl d
  pub promised : promised_once e ≡ promised_once d
  pub answered : all_answered e ≡ all_answered d
  pub doubt : first_doubt e ≡ first_doubt d
  pub decision : decision_due e ≡ decision_due d
  pub closed : closed_sites e ≡ closed_sites d

-- a decision by what the sites told, what they have promised and how that ended
abbrev made : ℕ → List ToldShut → List Promised → (TxId → Option Outcome) → EpochStart
made epoch ts ps v =
    record {
      epoch = epoch + 1;
      clock = fold max 0
          (map (λ (s : ToldShut). s.told.clock) ts
          ++ map (λ (s : Stamp). s.clock) (filter_map (λ (p : Promised). option_and_then stamp_in (v p.tx)) ps));
      lines = fold (λ (lines : List Line) (t : ToldShut).
          fold (λ (more : List Line) (p : Prepared). union more
          (option_map_or (λ (s : Stamp). lines_of s p.tx p.own) (option_and_then stamp_in (v p.tx)) []))
          (union lines t.told.log) t.told.prepared) [] ts;
    }

pub asked_about : (d : AdminAccount) (tx : TxId) → ask_of d tx ≡ about (asks d) tx
asked_about d tx = among_asks d.requests tx

pub same_due : (decl : Declaration) (d e : AdminAccount) → SameViews d e → IsDue decl d e
same_due decl d e same = record {
  round = λ i. round_of decl (epoch_of (same.decided_same i)) (same.closes_same i);
  promised = ap promised_of same.closes_same;
  answered = λ i. list_all (λ (p : Promised). option_map_or (λ (q : AdminRequest). is_some q.taken)
      (asked_same i p.tx) false) (take most_questions (promised_of (same.closes_same i)));
  doubt = λ i. find (λ (p : Promised). not (option_map_or is_final (outcome_of (asked_same i p.tx)) false))
      (promised_of (same.closes_same i));
  decision = λ i. made (epoch_of (same.decided_same i)) (filter_map told_shut (same.closes_same i))
      (promised_of (same.closes_same i)) (λ (tx : TxId). outcome_of (asked_same i tx));
  closed = λ i. map (λ (s : ToldShut). s.site) (filter_map told_shut (same.closes_same i));
}
  where
    asked_same : ask_of e ≡ ask_of d
    asked_same = λ i tx. (asked_about e tx ∙ ap (λ (qs : List AdminRequest). about qs tx) same.asks_same
        ∙ sym (asked_about d tx)) i

-- so what is settled stays

pub settled_same : (decl : Declaration) (d e : AdminAccount) → SameViews d e → e.written ≡ d.written → IsSettled decl d
    → IsSettled decl e
settled_same decl d e same written s =
    let is : IsDue decl d e = same_due decl d e same in
    record {
      met = ap verdict is.round ∙ s.met;
      closed = ap all_taken same.closes_same ∙ s.closed;
      asked = ap all_taken same.asks_same ∙ s.asked;
      answered = is.answered ∙ s.answered;
      doubt = is.doubt ∙ s.doubt;
      fits = ap fits_record is.decision ∙ s.fits;
      written = written ∙ s.written ∙ ap (λ (i : EpochStart). Some i) (sym is.decision);
    }
