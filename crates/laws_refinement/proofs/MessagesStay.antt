-- What was sent, granted, voted, announced, told and decided stays so as the machine goes on.
use Rattle.std.proofs.Common.{◌≡◌, ◌≢◌, ℕ, List, ◌++◌, Option, Some, None, refl, sym, ◌∙◌, subst}
use Rattle.qc_stamp.specs.declared.stamp.TxId.{TxId}
use Rattle.qc_list.specs.Vocabulary.{In}
use Rattle.laws_refinement.specs.Vocabulary.{AdminMirrors, AreSnapshots, Backed, DecidedMirrors, DoingMirrors}
use Rattle.laws_refinement.specs.Vocabulary.{IsAnswerBacked, IsDecided, IsGrant, IsMessage, IsNumbered, IsRequest}
use Rattle.laws_refinement.specs.Vocabulary.{IsSnapshot, IsTaken, IsVerdictBacked, IsWanted, QuestionMirrors}
use Rattle.theory_machine.specs.Vocabulary.{AppendRequest, Decision, Granted, MayPrepare, NotBegun, Snapshot, State}
use Rattle.theory_machine.specs.Vocabulary.{Verdict, YesVote}
use Rattle.qc_entry.specs.declared.line.Line.{Line}
use Rattle.qc_entry.specs.declared.record.Prepared.{Prepared}
use Rattle.qc_decl.specs.declared.declaration.Declaration.{Declaration}
use Rattle.qc_msg.specs.declared.message.Answer.{Answer}
use Rattle.qc_msg.specs.declared.message.Envelope.{Envelope}
use Rattle.qc_msg.specs.declared.message.Message.{Message}
use Rattle.qc_msg.specs.declared.message.Message.TheVariants as messages
use Rattle.qc_msg.specs.declared.message.Outcome.{Outcome}
use Rattle.qc_msg.specs.declared.message.Outcome.TheVariants as outcomes
use Rattle.qc_msg.specs.declared.message.Want.{Want}
use Rattle.qc_msg.specs.declared.payload.Grant.{Grant}
use Rattle.qc_msg.specs.declared.message.Want.TheVariants.{Read, Append, Prepare}
use Rattle.qc_decl.specs.Vocabulary.{client_actor}
use Rattle.qc_epoch.specs.Vocabulary.{Admin, Asking, Doing, Installing, Question, Resting, ShutSite}
use Rattle.qc_msg.specs.declared.payload.EpochStart.{EpochStart}
use Rattle.qc_epoch.specs.Admin as admins
use Rattle.laws_refinement.proofs.AnswerCases.{answer_cases}
use Rattle.laws_refinement.proofs.OpenRequests.{AnswerBacked}
use Rattle.qc_list.proofs.Places.{slice_get-more}

-- all that was sent, granted, voted, announced, told and decided stays so; what was begun stays so, in its epoch; what
-- was sent Prepare stays so, and no more is counted of it
pub record Later (w v : State) : Type 0 where
  pub born : (t : TxId) → w.status t ≢ NotBegun → v.status t ≢ NotBegun
  pub epoch : (t : TxId) → w.status t ≢ NotBegun → v.epoch t ≡ w.epoch t
  pub asked : (t : TxId) → MayPrepare (w.status t) → MayPrepare (v.status t)
  pub counted : (g : Granted) → In g v.counted → MayPrepare (w.status g.tx) → In g w.counted
  pub granted : (g : Granted) → In g w.granted → In g v.granted
  pub votes : (x : YesVote) → In x w.votes → In x v.votes
  pub verdicts : (t : Verdict) → In t w.verdicts → In t v.verdicts
  pub appends : (s : AppendRequest) → In s w.appends → In s v.appends
  pub snapshots : (s : Snapshot) → In s w.snapshots → In s v.snapshots
  pub decided : (d : Decision) → In d w.decided → In d v.decided

pub same_state : (w : State) → Later w w
same_state w =
    record {
      born = λ t h. h;
      epoch = λ t h. refl;
      asked = λ t h. h;
      counted = λ g h asked. h;
      granted = λ g h. h;
      votes = λ x h. h;
      verdicts = λ t h. h;
      appends = λ s h. h;
      snapshots = λ s h. h;
      decided = λ d h. h;
    }

pub later_both : (w u v : State) → Later w u → Later u v → Later w v
later_both w u v a b = record {
  born = λ t h. b.born t (a.born t h);
  epoch = λ t h. b.epoch t (a.born t h) ∙ a.epoch t h;
  asked = λ t h. b.asked t (a.asked t h);
  counted = λ g h asked. a.counted g (b.counted g h (a.asked g.tx asked)) asked;
  granted = λ g h. b.granted g (a.granted g h);
  votes = λ x h. b.votes x (a.votes x h);
  verdicts = λ t h. b.verdicts t (a.verdicts t h);
  appends = λ s h. b.appends s (a.appends s h);
  snapshots = λ s h. b.snapshots s (a.snapshots s h);
  decided = λ d h. b.decided d (a.decided d h);
}

-- all of this client stands as it did
pub record Keeps (w v : State) (c : ℕ) : Type 0 where
  pub status : (t : TxId) → t.client ≡ c → v.status t ≡ w.status t
  pub epoch : (t : TxId) → t.client ≡ c → v.epoch t ≡ w.epoch t
  pub executed : (t : TxId) → t.client ≡ c → v.executed t ≡ w.executed t
  pub chosen : (t : TxId) → t.client ≡ c → v.chosen t ≡ w.chosen t
  pub clock : v.clock c ≡ w.clock c
  pub counted : (g : Granted) → g.tx.client ≡ c → In g v.counted → In g w.counted
  pub more : (g : Granted) → In g w.counted → In g v.counted
  pub votes : (x : YesVote) → In x w.votes → In x v.votes
  pub appends : (s : AppendRequest) → In s w.appends → In s v.appends

pub keeps_same : (w : State) (c : ℕ) → Keeps w w c
keeps_same w c =
    record {
      status = λ t h. refl;
      epoch = λ t h. refl;
      executed = λ t h. refl;
      chosen = λ t h. refl;
      clock = refl;
      counted = λ g its h. h;
      more = λ g h. h;
      votes = λ x h. h;
      appends = λ s h. h;
    }

pub keeps_both : (w u v : State) (c : ℕ) → Keeps w u c → Keeps u v c → Keeps w v c
keeps_both w u v c a b = record {
  status = λ t h. b.status t h ∙ a.status t h;
  epoch = λ t h. b.epoch t h ∙ a.epoch t h;
  executed = λ t h. b.executed t h ∙ a.executed t h;
  chosen = λ t h. b.chosen t h ∙ a.chosen t h;
  clock = b.clock ∙ a.clock;
  counted = λ g its h. a.counted g its (b.counted g its h);
  more = λ g h. b.more g (a.more g h);
  votes = λ x h. b.votes x (a.votes x h);
  appends = λ s h. b.appends s (a.appends s h);
}

pub message_later : (ms more : List Envelope) (number to : ℕ) (message : Message) → IsMessage ms number to message
    → IsMessage (ms ++ more) number to message
message_later ms more number to message m = (m.0, slice_get-more ms more number m.0 m.1, m.2, m.3)

pub request_later : (ms more : List Envelope) (number site : ℕ) (tx : TxId) (want : Want)
    → IsRequest ms number site tx want → IsRequest (ms ++ more) number site tx want
request_later ms more number site tx want r =
    record {
      epoch = r.epoch;
      life = r.life;
      is = message_later ms more number site (messages.Request tx r.epoch r.life want) r.is;
    }

module _ (decl : Declaration) (w v : State) (l : Later w v) where
  grant_later : (site : ℕ) (x : Grant) (tx : TxId) (want : Want) → w.status tx ≢ NotBegun
      → IsGrant decl w site x tx want → IsGrant decl v site x tx want
  grant_later site x tx want born g = record {
    grant = g.grant;
    given = l.granted g.grant g.given;
    its = g.its;
    by = g.by;
    place = g.place;
    epoch_is = g.epoch_is ∙ sym (l.epoch tx born);
    life_is = g.life_is;
    some = g.some;
    clock_is = g.clock_is;
    asks = g.asks;
    items_are = g.items_are;
    sorted = g.sorted;
    lines = g.lines;
    shown = g.shown;
    whole = g.whole;
  }

  wanted_later : (tx : TxId) (site life : ℕ) (want : Want) → IsWanted w tx site life want → IsWanted v tx site life want
  wanted_later tx site life (Read read) h = h
  wanted_later tx site life (Append object view own) h = (l.appends _ h.0, h.1, h.2)
  wanted_later tx site life Prepare h = (
    l.asked tx h.0,
    h.1,
    λ g among its at. h.2 g (l.counted g among (subst (λ (t : TxId). MayPrepare (w.status t)) (sym its) h.0)) its at,
  )

  pub verdict_later : (tx : TxId) (verdict : Outcome) → IsVerdictBacked w tx verdict → IsVerdictBacked v tx verdict
  verdict_later tx (outcomes.Committed stamp) b = l.verdicts _ b
  verdict_later tx outcomes.Aborted b = l.verdicts _ b
  verdict_later tx outcomes.Active b = tt

  pub snapshot_later : (site epoch clock : ℕ) (log : List Line) (prepared : List Prepared)
      → IsSnapshot decl w site epoch clock log prepared → IsSnapshot decl v site epoch clock log prepared
  snapshot_later site epoch clock log prepared s = record {
    snapshot = s.snapshot;
    taken = l.snapshots s.snapshot s.taken;
    of = s.of;
    clock_is = s.clock_is;
    next = s.next;
    lines = s.lines;
    only = s.only;
    passed = s.passed;
    sorted = s.sorted;
    promised = s.promised;
    apart = s.apart;
    lined = s.lined;
    single = s.single;
    begun = λ p among. l.born p.tx (s.begun p among);
  }

  pub decided_later : (epoch clock : ℕ) (log : List Line) → IsDecided decl w epoch clock log
      → IsDecided decl v epoch clock log
  decided_later epoch clock log d =
      record {
        decision = d.decision;
        decided = l.decided d.decision d.decided;
        epoch_is = d.epoch_is;
        clock_is = d.clock_is;
        log_is = d.log_is;
        sorted = d.sorted;
        planned = d.planned;
      }

  answer_later : (ms more : List Envelope) (from n : ℕ) (answer : Answer) → IsAnswerBacked decl w ms from n answer
      → IsAnswerBacked decl v (ms ++ more) from n answer
  answer_later ms more from n answer =
      answer_cases (λ x grant closed promised shut verdict. AnswerBacked decl w ms from n x
      → AnswerBacked decl v (ms ++ more) from n x) (λ g b. record {
        tx = b.tx;
        want = b.want;
        begun = l.born b.tx b.begun;
        epoch = b.epoch;
        named = b.named;
        request = message_later ms more n from (messages.Request b.tx b.epoch b.named b.want) b.request;
        lived = b.lived;
        grant = grant_later from g b.tx b.want b.begun b.grant;
      }) (λ epoch b. b) (λ clock b. record {
        tx = b.tx;
        request = request_later ms more n from b.tx Prepare b.request;
        vote = l.votes _ b.vote;
      }) (λ snapshot b. record {
        epoch = b.epoch;
        asked = message_later ms more n from (messages.Close b.epoch) b.asked;
        told = snapshot_later from b.epoch snapshot.clock snapshot.log snapshot.prepared b.told;
      }) (λ verdict b. record {
        tx = b.tx;
        asked = message_later ms more n from (messages.Ask b.tx) b.asked;
        backed = verdict_later b.tx verdict b.backed;
      }) (λ x plain b. plain.backed decl v (ms ++ more) from n) (Some answer)

  pub backed_later : (ms more : List Envelope) (from to : ℕ) (message : Message) → Backed decl w ms from to message
      → Backed decl v (ms ++ more) from to message
  backed_later ms more from to (messages.Request tx epoch life want) b =
      (b.0, l.born tx b.1, b.2 ∙ sym (l.epoch tx b.1), wanted_later tx to life want b.3)
  backed_later ms more from to (messages.Answer n answer) b = answer_later ms more from n answer b
  backed_later ms more from to (messages.Decision tx verdict) b = verdict_later tx verdict b
  backed_later ms more from to (messages.Inquiry tx) b = (b.0, l.born tx b.1)
  backed_later ms more from to (messages.Ask tx) b = (b.0, l.born tx b.1)
  backed_later ms more from to (messages.Close epoch) b = b
  backed_later ms more from to (messages.Install start) b = decided_later start.epoch start.clock start.lines b

  -- the administrator's part

  pub snapshots_later : (k : ℕ) (shuts : List ShutSite) → AreSnapshots decl w k shuts → AreSnapshots decl v k shuts
  snapshots_later k shuts h s among = snapshot_later s.site k s.clock s.log s.prepared (h s among)

  taken_later : (tx : TxId) (o : Option (Option Outcome)) → IsTaken w tx o → IsTaken v tx o
  taken_later tx None h = tt
  taken_later tx (Some None) h = tt
  taken_later tx (Some (Some verdict)) h = verdict_later tx verdict h

  numbered_later : (ms more : List Envelope) (tx : TxId) (n : Option ℕ) → IsNumbered decl ms tx n
      → IsNumbered decl (ms ++ more) tx n
  numbered_later ms more tx None h = tt
  numbered_later ms more tx (Some n) h = message_later ms more n (client_actor decl tx.client) (messages.Ask tx) h

  pub question_later : (ms more : List Envelope) (q : Question) → QuestionMirrors decl w ms q
      → QuestionMirrors decl v (ms ++ more) q
  question_later ms more q h =
      record {
        begun = l.born q.tx h.begun;
        numbered = numbered_later ms more q.tx q.number h.numbered;
        taken = taken_later q.tx q.taken h.taken;
      }

  pub doing_later : (ms more : List Envelope) (epoch : ℕ) (d : Doing) → DoingMirrors decl w ms epoch d
      → DoingMirrors decl v (ms ++ more) epoch d
  doing_later ms more epoch Resting h = tt
  doing_later ms more epoch (admins.Closing k calls round shuts) h = (
    h.0,
    h.1,
    (λ c among. message_later ms more c.number c.site (messages.Close k) (h.2 c among)),
    h.3,
    snapshots_later k shuts h.4,
  )
  doing_later ms more epoch (Asking k shuts questions) h =
      (h.0, h.1, h.2, snapshots_later k shuts h.3, h.4, λ q among. question_later ms more q (h.5 q among))
  doing_later ms more epoch (Installing closed awaited calls installed) h = tt

  pub decision_later : (epoch : ℕ) (d : Option EpochStart) → DecidedMirrors decl w epoch d
      → DecidedMirrors decl v epoch d
  decision_later epoch None h = tt
  decision_later epoch (Some d) h = (h.0, decided_later d.epoch d.clock d.lines h.1)

  pub admin_later : (ms more : List Envelope) (m : Admin) → AdminMirrors decl w ms m
      → AdminMirrors decl v (ms ++ more) m
  admin_later ms more m h =
      record {
        planned = h.planned;
        decided = decision_later m.epoch m.decided h.decided;
        doing = doing_later ms more m.epoch m.doing h.doing;
      }
