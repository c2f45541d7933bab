-- What a front end's move asks and sends: so its turns are short.
use Rattle.std.proofs.Common.{[], ◌≡◌, ℕ, ◌<◌, ◌≤◌, ◌⊎◌, inl, inr, nat_le, Bool, true, false, cond, length, Option}
use Rattle.std.proofs.Common.{Some, None, refl, ap, subst, arith}
use Rattle.std.proofs.lemmas.List.{length-map}
use Rattle.qc_list.specs.Vocabulary.{In}
use Rattle.qc_list.proofs.Members.{every-In, every-from_In}
use Rattle.qc_decl.specs.declared.declaration.Declaration.{Declaration}
use Rattle.qc_decl.specs.Vocabulary.{IsAccepted, most_transaction_operations, read_need_of}
use Rattle.qc_plan.specs.Vocabulary.{note, verdict}
use Rattle.qc_msg.specs.declared.begun.Begun.{Begun}
use Rattle.qc_msg.specs.declared.message.Answer.{Answer}
use Rattle.qc_msg.specs.declared.message.Message.TheVariants as messages
use Rattle.qc_msg.specs.declared.message.Outcome.TheVariants.{Aborted}
use Rattle.qc_msg.specs.declared.reply.Reply.{Reply}
use Rattle.qc_msg.specs.declared.reply.Reply.TheVariants as replies
use Rattle.qc_msg.specs.declared.reply.AbortCause.TheVariants as causes
use Rattle.qc_msg.specs.declared.step.Command.{Command}
use Rattle.qc_msg.specs.declared.turn.Turn.{Turn}
use Rattle.qc_msg.specs.Vocabulary.{quiet, site_called, telling, without_call}
use Rattle.qc_front.specs.declared.doing.Doing.{Doing}
use Rattle.qc_front.specs.declared.doing.Doing.TheVariants.{Idle, Reading, Appending}
use Rattle.qc_front.specs.declared.front.Front.{Front}
use Rattle.qc_front.specs.declared.transaction.Transaction.{Transaction}
use Rattle.qc_front.specs.Vocabulary.{AsksFew, FrontFits, FrontHolds, FrontMove, aborts, appended_with, appending_takes}
use Rattle.qc_front.specs.Vocabulary.{begins, called, commits, fresh, gives_up, learns, moved, next_tx, performs}
use Rattle.qc_front.specs.Vocabulary.{read_with, reading_takes, reads, round_for, standing_of, takes, takes_in}
use Rattle.qc_front.proofs.Fitting.{front_ends_fit}
use Rattle.qc_front.proofs.CommandsKeep.{commands_keep_hold}
use Rattle.qc_front.proofs.Keeping.{appended_is, answers_keep_hold}
use Rattle.laws_turns.specs.Vocabulary.{AreSites, AskedSites}
use Rattle.laws_turns.proofs.Asked.{InRound, doing_below, few_sites}
use Rattle.laws_turns.proofs.AskedSites.{Grows, count_in, AsksOn, same_asked, asked_by, still_grows, append_by-asks}
use Rattle.laws_turns.proofs.AskedSites.{read_by-asks}
use Rattle.laws_turns.proofs.ClientCases.{front_cases}
use Rattle.laws_turns.proofs.AnswerCases.{read_cases}

-- nothing is asked
still : (front : Front) (turn : Turn) → turn.sends ≡ [] → AsksOn (asked_by front.transaction) (moved front turn)
still front turn none = record {
  grows = still_grows front.transaction front.doing;
  short = inr (let few : length turn.sends ≡ 0 = ap length none in omega arith);
}

gives-asks : (front : Front) (t : Transaction) (reply : Reply) → AsksOn t.begun.asked (gives_up front t reply)
gives-asks front t reply = record {
  grows = tt;
  short =
      inr (let same : length (gives_up front t reply).turn.sends ≡ length t.begun.asked =
      length-map t.begun.asked
      (λ (site : ℕ). record { to = site; message = messages.Decision t.begun.tx Aborted }) in
      omega arith);
}

module _ (decl : Declaration) (front : Front) where
  performs-asks : (o : Option Transaction) (object inv : ℕ) → front.transaction ≡ o
      → AsksOn (asked_by o) (performs decl front o object inv)
  performs-asks None object inv is =
      subst (λ (p : Option Transaction). AsksOn (asked_by p) (moved front (telling replies.NoTransaction))) is
      (still front (telling replies.NoTransaction) refl)
  performs-asks (Some t) object inv is =
      by t.begun.doomed (nat_le most_transaction_operations (length t.begun.ops)) where
        said : (reply : Reply) → AsksOn t.begun.asked (moved front (telling reply))
        said reply =
            subst (λ (p : Option Transaction). AsksOn (asked_by p) (moved front (telling reply))) is
            (still front (telling reply) refl)

        by : (doomed long : Bool)
            → AsksOn t.begun.asked
            (cond doomed (moved front (telling replies.Doomed))
            (cond long (moved front (telling replies.TooLong))
            (reads decl front t object inv [] (round_for decl front t (read_need_of decl t.begun.epoch object inv)))))
        by true long = said replies.Doomed
        by false true = said replies.TooLong
        by false false =
            read_by-asks decl t.begun.asked front t object inv []
            (round_for decl front t (read_need_of decl t.begun.epoch object inv))
            (verdict (round_for decl front t (read_need_of decl t.begun.epoch object inv))) refl

  begins-asks : (o : Option Transaction) → front.transaction ≡ o → AsksOn (asked_by o) (begins decl front o)
  begins-asks None is =
      record {
        grows = same_asked [] (fresh decl (next_tx front) front.epoch) front.doing refl;
        short = inr (omega arith);
      }
  begins-asks (Some t) is =
      subst (λ (p : Option Transaction). AsksOn (asked_by p) (moved front (telling (replies.Already t.begun.tx)))) is
      (still front (telling (replies.Already t.begun.tx)) refl)

  commits-asks : (o : Option Transaction) → front.transaction ≡ o → AsksOn (asked_by o) (commits front o)
  commits-asks None is =
      subst (λ (p : Option Transaction). AsksOn (asked_by p) (moved front (telling replies.NoTransaction))) is
      (still front (telling replies.NoTransaction) refl)
  commits-asks (Some t) is = by t.begun.doomed where
    by : (doomed : Bool)
        → AsksOn t.begun.asked (cond doomed (gives_up front t (replies.Aborted causes.Doomed)) (moved front quiet))
    by true = gives-asks front t (replies.Aborted causes.Doomed)
    by false = subst (λ (p : Option Transaction). AsksOn (asked_by p) (moved front quiet)) is (still front quiet refl)

  aborts-asks : (o : Option Transaction) → front.transaction ≡ o → AsksOn (asked_by o) (aborts front o)
  aborts-asks None is =
      subst (λ (p : Option Transaction). AsksOn (asked_by p) (moved front (telling replies.NoTransaction))) is
      (still front (telling replies.NoTransaction) refl)
  aborts-asks (Some t) is = gives-asks front t replies.Dropped

  called-asks : (command : Command) → AsksOn (asked_by front.transaction) (called decl front command)
  called-asks command =
      front_cases decl front (λ command m. AsksOn (asked_by front.transaction) m) (begins-asks front.transaction refl)
      (λ object inv. performs-asks front.transaction object inv refl) (commits-asks front.transaction refl)
      (aborts-asks front.transaction refl) (λ number. still front quiet refl) command

  read_asked : (t : Transaction) (site object : ℕ) (answer : Option Answer)
      → (read_with t site object answer).begun.asked ≡ t.begun.asked
  read_asked t site object answer =
      read_cases t site object (λ (b : Begun). b.asked ≡ t.begun.asked) (λ lives. refl) answer

  takes_in-asks : (doing : Doing) (o : Option Transaction) (number : ℕ) (answer : Option Answer) → front.transaction ≡ o
      → AsksOn (asked_by o) (takes_in decl front doing o number answer)
  takes_in-asks doing None number answer is =
      subst (λ (p : Option Transaction). AsksOn (asked_by p) (moved front quiet)) is (still front quiet refl)
  takes_in-asks Idle (Some t) number answer is =
      subst (λ (p : Option Transaction). AsksOn (asked_by p) (moved front quiet)) is (still front quiet refl)
  takes_in-asks (Reading object inv calls round) (Some t) number answer is = by (site_called calls number) where
    by : (s : Option ℕ) → AsksOn t.begun.asked (reading_takes decl front t object inv calls round number answer s)
    by None = subst (λ (p : Option Transaction). AsksOn (asked_by p) (moved front quiet)) is (still front quiet refl)
    by (Some site) =
        read_by-asks decl t.begun.asked (learns front answer) (read_with t site object answer) object inv
        (without_call calls number) (note round site (standing_of answer))
        (verdict (note round site (standing_of answer)))
        (read_asked t site object answer)
  takes_in-asks (Appending object inv event calls round) (Some t) number answer is = by (site_called calls number) where
    by : (s : Option ℕ)
        → AsksOn t.begun.asked (appending_takes decl front t object inv event calls round number answer s)
    by None = subst (λ (p : Option Transaction). AsksOn (asked_by p) (moved front quiet)) is (still front quiet refl)
    by (Some site) =
        append_by-asks decl t.begun.asked (learns front answer) (appended_with t site answer) object inv event
        (without_call calls number) (note round site (standing_of answer))
        (verdict (note round site (standing_of answer)))
        (ap (λ (u : Transaction). u.begun.asked) (appended_is t site answer))

-- so sites alone are asked, and turns are short

few_in : (doing : Doing) → AsksFew doing → count_in doing ≤ 16
few_in Idle few = omega arith
few_in (Reading object inv calls round) few = few
few_in (Appending object inv event calls round) few = few

pub record IsShort (decl : Declaration) (m : FrontMove) : Type 0 where
  pub asked : AskedSites decl m.front.transaction
  pub few : length m.turn.sends ≤ 16

shorten : (decl : Declaration) (front : Front) (m : FrontMove) → IsAccepted decl → AskedSites decl front.transaction
    → FrontHolds decl m.front → AsksOn (asked_by front.transaction) m → IsShort decl m
shorten decl front m accepted sites holds asks =
    record { asked = grown m.front.transaction asks.grows; few = short asks.short } where
      old : (o : Option Transaction) → AskedSites decl o → AreSites decl (asked_by o)
      old None are = record { ascending = tt; declared = tt }
      old (Some t) are = are

      before : AreSites decl (asked_by front.transaction)
      before = old front.transaction sites

      grown : (o : Option Transaction) → Grows (asked_by front.transaction) o m.front.doing → AskedSites decl o
      grown None grows = tt
      grown (Some t) grows = record {
        ascending = grows.0 before.ascending;
        declared = every-from_In (λ site. site < decl.sites) t.begun.asked (λ x among. by x (grows.1 x among));
      } where
        by : (x : ℕ) → In x (asked_by front.transaction) ⊎ InRound x m.front.doing → x < decl.sites
        by x (inl first) = every-In (λ site. site < decl.sites) x (asked_by front.transaction) before.declared first
        by x (inr round) = doing_below decl m.front.client m.front.transaction m.front.doing x accepted holds round

      asks_few : AsksFew m.front.doing
      asks_few =
          let f : FrontFits (record m.front { count = 0 }) =
          front_ends_fit decl (record m.front { count = 0 }) accepted holds (omega arith) in
          f.few

      short : (length m.turn.sends ≤ count_in m.front.doing)
          ⊎ (length m.turn.sends ≤ length (asked_by front.transaction))
          → length m.turn.sends ≤ 16
      short (inl low) = let few : count_in m.front.doing ≤ 16 = few_in m.front.doing asks_few in omega arith
      short (inr low) =
          let few : length (asked_by front.transaction) ≤ decl.sites =
          few_sites decl (asked_by front.transaction) before in
          let most : decl.sites ≤ 16 = accepted.sites in
          omega arith

pub called-short : (decl : Declaration) (front : Front) (command : Command) → IsAccepted decl
    → AskedSites decl front.transaction → FrontHolds decl front → IsShort decl (called decl front command)
called-short decl front command accepted sites holds =
    shorten decl front (called decl front command) accepted sites (commands_keep_hold decl front command holds)
    (called-asks decl front command)

pub takes_short : (decl : Declaration) (front : Front) (number : ℕ) (answer : Option Answer) → IsAccepted decl
    → AskedSites decl front.transaction → FrontHolds decl front → IsShort decl (takes decl front number answer)
takes_short decl front number answer accepted sites holds =
    shorten decl front (takes decl front number answer) accepted sites
    (answers_keep_hold decl front number answer holds)
    (takes_in-asks decl front front.doing front.transaction number answer refl)
