-- What of a client's account its dealings tell: how it stays, deed by deed.
use Rattle.std.proofs.Common.{◌≡◌, ℕ, ◌==◌, not, Bool, true, false, cond, List, [], ◌∷◌, ◌++◌, length, max, Option}
use Rattle.std.proofs.Common.{Some, None, option_map, option_and_then, refl, ap}
use Rattle.std.specs.Option.{option_map_or}
use Rattle.std.specs.List.{find}
use Rattle.qc_stamp.specs.declared.stamp.TxId.{TxId}
use Rattle.qc_entry.specs.declared.line.Op.{Op}
use Rattle.qc_entry.specs.declared.record.Commit.{Commit}
use Rattle.qc_decl.specs.declared.declaration.Declaration.{Declaration}
use Rattle.qc_msg.specs.declared.message.Answer.{Answer}
use Rattle.qc_msg.specs.declared.message.Message.{Message}
use Rattle.qc_msg.specs.declared.message.Want.{Want}
use Rattle.qc_msg.specs.declared.message.Want.TheVariants.{Read, Append, Prepare}
use Rattle.qc_msg.specs.declared.reply.Half.{Half}
use Rattle.qc_msg.specs.declared.reply.Half.TheVariants as halves
use Rattle.qc_msg.specs.declared.step.Command.{Command}
use Rattle.qc_msg.specs.declared.payload.Grant.{Grant}
use Rattle.qc_msg.specs.Vocabulary.{Answered, Requested, answer_in, closed_in, granted_in, promised_in, request_in}
use Rattle.laws_turns.proofs.ReadingCases.{mapped}
use Rattle.qc_promise.specs.Vocabulary.{Account, ClientRequest, Current, account_heard, account_sent, counted}
use Rattle.qc_promise.specs.Vocabulary.{counted_for, doomed_if, granted, is_append, is_asked_for, is_open, lived}
use Rattle.qc_promise.specs.Vocabulary.{promised, refused, requested, requests_for, short_of, taken_for, told_by}
use Rattle.qc_promise.specs.Vocabulary.{with_current, with_read}

pub record Going : Type 0 where
  pub tx : TxId
  pub ops : List Op

abbrev pub going : Current → Going
going t = record { tx = t.tx; ops = t.ops }

pub record Gist : Type 0 where
  pub client : ℕ
  pub life : ℕ
  pub count : ℕ
  pub command : Option Command
  pub written : Option Commit
  pub begun : Option Going

abbrev pub gist : Account → Gist
gist d = record {
  client = d.client;
  life = d.life;
  count = d.count;
  command = d.command;
  written = d.written;
  begun = option_map going d.current;
}

-- a command is called, its reply is told, and the transaction ends

abbrev pub with_call : Gist → Command → Gist
with_call g command = record g { command = Some command; written = None }

abbrev pub replied : Gist → Gist
replied g = record g { command = None; written = None }

abbrev pub finished : Gist → Gist
finished g = record g { command = None; written = None; begun = None }

pub with_same : (d : Account) (change : Current → Current) → ((t : Current) → going (change t) ≡ going t)
    → gist (with_current d change) ≡ gist d
with_same d change same = by d.current
  where
    by : (o : Option Current) → gist (record d { current = option_map change o }) ≡ gist (record d { current = o })
    by None = refl
    by (Some t) = ap (λ (g : Going). record (gist d) { begun = Some g }) (same t)

granted_same : (d : Account) (site : ℕ) (x : Grant) (want : Want) → gist (granted d site x want) ≡ gist d
granted_same d site x (Read read) =
    with_same (record d { clock = (granted d site x (Read read)).clock })
    (λ (t : Current). with_read (lived t site x.life) read.object x.log) (λ t. refl)
granted_same d site x (Append object view own) =
    with_same (record d { clock = (granted d site x (Append object view own)).clock })
    (λ (t : Current). lived t site x.life) (λ t. refl)
granted_same d site x Prepare = refl

promised_same : (d : Account) (clock : ℕ) (want : Want) → gist (promised d clock want) ≡ gist d
promised_same d clock (Read read) = refl
promised_same d clock (Append object view own) = refl
promised_same d clock Prepare = refl

told_same : (d : Account) (q : ClientRequest) (o : Option Answer) → gist (told_by d q o) ≡ gist d
told_same d q o = by (option_and_then granted_in o) (option_and_then closed_in o) (option_and_then promised_in o)
  where
    by : (grant : Option Grant) (epoch clock : Option ℕ) → gist
        (option_map_or (λ (g : Grant). granted d q.site g q.want) grant
        (option_map_or (λ (k : ℕ). record d { known = max d.known k }) epoch
        (option_map_or (λ (k : ℕ). promised d k q.want) clock d))) ≡ gist d
    by (Some g) epoch clock = granted_same d q.site g q.want
    by None (Some k) clock = refl
    by None None (Some k) = promised_same d k q.want
    by None None None = refl

pub counted_same : (d : Account) (number : ℕ) (answer : Option Answer) → gist (counted d number answer) ≡ gist d
counted_same d number answer = by (find (is_open number) d.requests)
  where
    by : (o : Option ClientRequest) → gist (counted_for d number answer o) ≡ gist d
    by None = refl
    by (Some q) = told_same (record d { requests = taken_for number answer d.requests }) q answer

pub heard_same : (d : Account) (m : Message) → gist (account_heard d m) ≡ gist d
heard_same d m =
    mapped (λ (e : Account). gist e ≡ gist d) (λ (a : Answered). counted d a.to (Some a.answer)) d (answer_in m)
    (λ a. counted_same d a.to (Some a.answer)) refl

requested_same : (decl : Declaration) (d : Account) (number site : ℕ) (tx : TxId) (epoch life : ℕ) (want : Want)
    → gist (requested decl d number site tx epoch life want) ≡ gist d
requested_same decl d number site tx epoch life want = by (is_asked_for decl d site tx epoch life want)
  where
    by : (b : Bool) → gist (cond b (record d {
      requests = d.requests ++ record { number = number; site = site; life = life; want = want; taken = None }
          ∷ [];
    }) d) ≡ gist d
    by true = refl
    by false = refl

pub sent_same : (decl : Declaration) (d : Account) (number to : ℕ) (m : Message)
    → gist (account_sent decl d number to m) ≡ gist d
sent_same decl d number to m =
    mapped (λ (e : Account). gist e ≡ gist d)
    (λ (q : Requested). requested decl d number to q.tx q.epoch q.life q.want) d (request_in m)
    (λ q. requested_same decl d number to q.tx q.epoch q.life q.want) refl

pub refused_same : (d : Account) → gist (refused d) ≡ gist d
refused_same d = with_same d (doomed_if (not (length (requests_for is_append d) == 0))) (λ t. refl)

pub short_same : (d : Account) (half : Half) → gist (short_of d half) ≡ gist d
short_same d halves.Read = refl
short_same d halves.Append = with_same d (doomed_if true) (λ t. refl)
short_same d halves.Close = refl
