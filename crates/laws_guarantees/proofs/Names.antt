-- The name of the transaction that a client has begun changes only as a reply is told, and it is the client's.
use Rattle.std.proofs.Common.{◌≡◌, ℕ, ◌+◌, List, [], ◌∷◌, ◌++◌, fold, Option, Some, None, option_map, refl, sym, ap}
use Rattle.std.proofs.Common.{◌∙◌, subst}
use Rattle.std.specs.Prelude.{max}
use Rattle.std.specs.List.{find}
use Rattle.std.proofs.lemmas.List.Sums.{fold-append}
use Rattle.qc_stamp.specs.declared.stamp.TxId.{TxId}
use Rattle.qc_decl.specs.declared.declaration.Declaration.{Declaration}
use Rattle.qc_msg.specs.declared.message.Answer.{Answer}
use Rattle.qc_msg.specs.declared.message.Message.{Message}
use Rattle.qc_msg.specs.declared.message.Want.{Want}
use Rattle.qc_msg.specs.declared.message.Want.TheVariants as wants
use Rattle.qc_msg.specs.declared.payload.Grant.{Grant}
use Rattle.qc_msg.specs.declared.record.Record.{Record}
use Rattle.qc_msg.specs.declared.reply.Reply.{Reply}
use Rattle.qc_msg.specs.declared.step.Input.{Input}
use Rattle.qc_msg.specs.declared.step.Input.TheVariants as inputs
use Rattle.qc_msg.specs.declared.turn.Posting.{Posting}
use Rattle.qc_msg.specs.declared.turn.Turn.{Turn}
use Rattle.qc_msg.specs.Vocabulary.{sends_of, tells_of, turn_deeds, writes_of}
use Rattle.qc_client.specs.declared.client.Client.{Client}
use Rattle.qc_front.specs.declared.front.Front.{Front}
use Rattle.qc_front.specs.declared.transaction.Transaction.{Transaction}
use Rattle.qc_promise.specs.Vocabulary.{Account, ClientRequest, Current, account_at, account_heard, account_sent}
use Rattle.qc_promise.specs.Vocabulary.{account_taken, account_written, counted, counted_for, granted, is_open, lived}
use Rattle.qc_promise.specs.Vocabulary.{promised, taken_for, told_by, with_current, with_read}
use Rattle.laws_due.specs.Vocabulary.{AreBegun, IsBegun, Ties, appends, reads, rests, votes}
use Rattle.laws_guarantees.specs.Vocabulary.{name_of}
use Rattle.laws_guarantees.proofs.AccountCases.{heard_cases, sent_cases, told_cases}
use Rattle.laws_due.proofs.AccountCases.{written_cases}

-- a change of the begun transaction that keeps its name
named_with : (d : Account) (change : Current → Current) → ((t : Current) → (change t).tx ≡ t.tx)
    → name_of (with_current d change) ≡ name_of d
named_with d change same = by d.current
  where
    by : (o : Option Current) → option_map (λ (t : Current). t.tx) (option_map change o) ≡ option_map
        (λ (t : Current). t.tx) o
    by None = refl
    by (Some t) = ap (λ (x : TxId). Some x) (same t)

granted_named : (d : Account) (site : ℕ) (g : Grant) (want : Want) → name_of (granted d site g want) ≡ name_of d
granted_named d site g (wants.Read read) =
    named_with (record d { clock = max d.clock g.clock })
    (λ (t : Current). with_read (lived t site g.life) read.object g.log) (λ t. refl)
granted_named d site g (wants.Append object view own) =
    named_with (record d { clock = max d.clock g.clock }) (λ (t : Current). lived t site g.life) (λ t. refl)
granted_named d site g wants.Prepare = refl

promised_named : (d : Account) (clock : ℕ) (want : Want) → name_of (promised d clock want) ≡ name_of d
promised_named d clock (wants.Read read) = refl
promised_named d clock (wants.Append object view own) = refl
promised_named d clock wants.Prepare = refl

told_named : (d : Account) (q : ClientRequest) (answer : Option Answer) → name_of (told_by d q answer) ≡ name_of d
told_named d q answer = told_cases d q (λ a e. name_of e ≡ name_of d) (λ a. refl)
    (λ g. granted_named d q.site g q.want) (λ epoch. refl)
    (λ clock. promised_named d clock q.want) answer

counted_named : (d : Account) (number : ℕ) (answer : Option Answer) → name_of (counted d number answer) ≡ name_of d
counted_named d number answer = by (find (is_open number) d.requests)
  where
    by : (o : Option ClientRequest) → name_of (counted_for d number answer o) ≡ name_of d
    by None = refl
    by (Some q) = told_named (record d { requests = taken_for number answer d.requests }) q answer

heard_named : (d : Account) (m : Message) → name_of (account_heard d m) ≡ name_of d
heard_named d m = heard_cases d (λ m e. name_of e ≡ name_of d) (λ m. refl)
    (λ to answer. counted_named d to (Some answer)) m

pub taken_named : (d : Account) (g : Input) → name_of (account_taken d g) ≡ name_of d
taken_named d (inputs.Called command) = refl
taken_named d (inputs.Got e) = heard_named d e.message
taken_named d (inputs.Lost number) = counted_named d number None

-- what is written and sent leaves the begun transaction and the running command as they are

pub record Stays (d e : Account) : Type 0 where
  pub current : e.current ≡ d.current
  pub command : e.command ≡ d.command

stayed : (d : Account) → Stays d d
stayed d = record { current = refl; command = refl }

pub stays_on : (d e f : Account) → Stays d e → Stays e f → Stays d f
stays_on d e f first second = record {
  current = second.current ∙ first.current;
  command = second.command
      ∙ first.command;
}

written_stays : (d : Account) (w : Record) → Stays d (account_written d w)
written_stays d w = written_cases d (Stays d) (stayed d) (record { current = refl; command = refl })
    (λ commit. record { current = refl; command = refl }) w

sent_stays : (decl : Declaration) (d : Account) (number to : ℕ) (m : Message)
    → Stays d (account_sent decl d number to m)
sent_stays decl d number to m = sent_cases decl d number to (λ m e. Stays d e) (λ m. stayed d)
    (λ tx epoch life want is. record { current = refl; command = refl }) m

pub writes_stay : (decl : Declaration) (d : Account) (write : Option Record)
    → Stays d (fold (account_at decl) d (writes_of write))
writes_stay decl d None = stayed d
writes_stay decl d (Some w) = written_stays d w

pub sends_stay : (decl : Declaration) (d : Account) (n : ℕ) (ps : List Posting)
    → Stays d (fold (account_at decl) d (sends_of n ps))
sends_stay decl d n [] = stayed d
sends_stay decl d n (p ∷ ps) =
    stays_on d (account_sent decl d n p.to p.message)
    (fold (account_at decl) (account_sent decl d n p.to p.message) (sends_of (n + 1) ps))
    (sent_stays decl d n p.to p.message)
    (sends_stay decl (account_sent decl d n p.to p.message) (n + 1) ps)

-- a turn that tells nothing
pub untold_stays : (decl : Declaration) (d : Account) (n : ℕ) (turn : Turn) → turn.told ≡ None
    → Stays d (fold (account_at decl) d (turn_deeds n turn))
untold_stays decl d n turn none =
    subst (λ (o : Option Reply). Stays d (fold (account_at decl) d
    (writes_of turn.write ++ (sends_of n turn.sends ++ tells_of o)))) (sym none)
    (subst (Stays d) (sym (fold-append (account_at decl) d (writes_of turn.write) (sends_of n turn.sends ++ [])
    ∙ fold-append (account_at decl) (fold (account_at decl) d (writes_of turn.write)) (sends_of n turn.sends) []))
    (stays_on d (fold (account_at decl) d (writes_of turn.write))
    (fold (account_at decl) (fold (account_at decl) d (writes_of turn.write)) (sends_of n turn.sends))
    (writes_stay decl d turn.write)
    (sends_stay decl (fold (account_at decl) d (writes_of turn.write)) n turn.sends)))

pub stays_named : (d e : Account) → Stays d e → name_of e ≡ name_of d
stays_named d e s = ap (λ (o : Option Current). option_map (λ (t : Current). t.tx) o) s.current

-- the name is that of the client's transaction

abbrev pub front_name : Option Transaction → Option TxId
front_name o = option_map (λ (x : Transaction). x.begun.tx) o

begun_named : (t : Current) (x : Transaction) → IsBegun t x → t.tx ≡ x.begun.tx
begun_named t x b = ap (λ (y : Transaction). y.begun.tx) (sym b.is)

are_named : (o : Option Current) (p : Option Transaction) → AreBegun o p
    → option_map (λ (t : Current). t.tx) o ≡ front_name p
are_named None None b = refl
are_named None (Some x) b = absurd b
are_named (Some t) None b = absurd b
are_named (Some t) (Some x) b = ap (λ (y : TxId). Some y) (begun_named t x b)

some_named : (d : Account) (c : Client) (t : Current) (x : Transaction) → d.current ≡ Some t
    → c.front.transaction ≡ Some x → IsBegun t x → name_of d ≡ front_name c.front.transaction
some_named d c t x current front b =
    ap (λ (o : Option Current). option_map (λ (t : Current). t.tx) o) current
    ∙ ap (λ (y : TxId). Some y) (begun_named t x b) ∙ ap front_name (sym front)

pub tied_named : (decl : Declaration) (d : Account) (c : Client) → Ties decl d c
    → name_of d ≡ front_name c.front.transaction
tied_named decl d c (rests r) = are_named d.current c.front.transaction r.begun
tied_named decl d c (reads r) = some_named d c r.t r.x r.runs.current
    (ap (λ (f : Front). f.transaction) r.front) r.begun
tied_named decl d c (appends r) = some_named d c r.t r.x r.runs.current
    (ap (λ (f : Front). f.transaction) r.front) r.begun
tied_named decl d c (votes r) = some_named d c r.t r.x r.current (ap (λ (f : Front). f.transaction) r.front) r.begun
