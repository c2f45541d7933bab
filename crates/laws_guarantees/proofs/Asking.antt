-- An account's requests: they stand while a command runs, and are for its transaction.
use Rattle.std.proofs.Common.{◌≡◌, ℕ, zero, suc, ◌+◌, ◌==◌, ◌&&◌, ◌⊎◌, inl, inr, Bool, true, false, cond, List, [], ◌∷◌}
use Rattle.std.proofs.Common.{◌++◌, fold, Option, Some, None, option_map, refl, sym, ap, ◌∙◌, subst}
use Rattle.std.specs.Prelude.{is_some, take, MatchOption}
use Rattle.std.specs.List.{AllByRecursion as Every, find}
use Rattle.std.specs.Option.{option_map_or}
use Rattle.std.proofs.lemmas.List.Sums.{fold-append}
use Rattle.qc_list.specs.Vocabulary.{In}
use Rattle.qc_stamp.specs.declared.stamp.TxId.{TxId}
use Rattle.qc_stamp.specs.Vocabulary.{same_tx}
use Rattle.qc_decl.specs.declared.declaration.Declaration.{Declaration}
use Rattle.qc_msg.specs.declared.message.Answer.{Answer}
use Rattle.qc_msg.specs.declared.message.Envelope.{Envelope}
use Rattle.qc_msg.specs.declared.message.Message.{Message}
use Rattle.qc_msg.specs.declared.message.Want.{Want}
use Rattle.qc_msg.specs.declared.record.Record.{Record}
use Rattle.qc_msg.specs.declared.reply.Reply.{Reply}
use Rattle.qc_msg.specs.declared.step.Command.{Command}
use Rattle.qc_msg.specs.declared.step.Input.{Input}
use Rattle.qc_msg.specs.declared.step.Input.TheVariants as inputs
use Rattle.qc_msg.specs.declared.turn.Posting.{Posting}
use Rattle.qc_msg.specs.declared.turn.Turn.{Turn}
use Rattle.qc_msg.specs.Vocabulary.{Deed, Falls, Rises, Sends, Takes, Tells, Writes, envelopes, sends_of, tells_of}
use Rattle.qc_msg.specs.Vocabulary.{turn_deeds, writes_of, Requested, request_in, Decided, decision_in}
use Rattle.qc_core.specs.Vocabulary.{AreSteady, is_running, runs_at}
use Rattle.qc_promise.specs.Vocabulary.{Account, ClientRequest, Current, account_at, account_heard, account_sent}
use Rattle.qc_promise.specs.Vocabulary.{account_taken, account_written, command_asks, counted, counted_for}
use Rattle.qc_promise.specs.Vocabulary.{is_asked_for, is_final, is_of, is_open, new_account, taken_for}
use Rattle.laws_due.specs.Vocabulary.{AreByRows, IsSendDue}
use Rattle.laws_guarantees.specs.Vocabulary.{asks_to_hold, name_of, open_said, sent_to}
use Rattle.laws_guarantees.proofs.Accounts.{IsTakenNow, after_taken, told_requests}
use Rattle.laws_guarantees.proofs.RequestGrounds.{asked_current}
use Rattle.laws_guarantees.proofs.Names.{sends_stay, stays_named, writes_stay}
use Rattle.laws_guarantees.proofs.AccountCases.{heard_cases, sent_cases}
use Rattle.qc_stamp.proofs.Orders.{same_tx_is}
use Rattle.laws_due.proofs.AccountCases.{written_cases}
use Rattle.laws_due.proofs.Commands.{counted_command, heard_command}
use Rattle.laws_atomic.proofs.Courses.{due-second}
use Rattle.qc_list.proofs.Booleans.{and_second}

-- a request after an input was there before it

pub record IsFrom (d : Account) (q : ClientRequest) : Type 0 where
  pub old : ClientRequest
  pub among : In old d.requests
  pub number : q.number ≡ old.number
  pub site : q.site ≡ old.site

counted_from : (d : Account) (n : ℕ) (answer : Option Answer) (q : ClientRequest) → In q (counted d n answer).requests
    → IsFrom d q
counted_from d n answer q among = by (find (is_open n) d.requests) among
  where
    taken : In q d.requests ⊎ IsTakenNow d.requests n answer q → IsFrom d q
    taken (inl old) = record { old = q; among = old; number = refl; site = refl }
    taken (inr now) = record {
      old = now.old;
      among = now.among;
      number = ap (λ (y : ClientRequest). y.number) now.is;
      site = ap (λ (y : ClientRequest). y.site) now.is;
    }

    by : (o : Option ClientRequest) → In q (counted_for d n answer o).requests → IsFrom d q
    by None there = record { old = q; among = there; number = refl; site = refl }
    by (Some p) there = taken (after_taken n answer q d.requests
        (subst (In q) (told_requests (record d { requests = taken_for n answer d.requests }) p answer).0 there))

heard_from : (d : Account) (m : Message) (q : ClientRequest) → In q (account_heard d m).requests → IsFrom d q
heard_from d m q among = heard_cases d (λ m e. In q e.requests → IsFrom d q)
    (λ m among. record { old = q; among = among; number = refl; site = refl })
    (λ to answer among. counted_from d to (Some answer) q among) m among

pub taken_from : (d : Account) (g : Input) (q : ClientRequest) → In q (account_taken d g).requests → IsFrom d q
taken_from d (inputs.Called command) q never = absurd never
taken_from d (inputs.Got e) q among = heard_from d e.message q among
taken_from d (inputs.Lost n) q among = counted_from d n None q among

-- a command runs just where one was called and not told, and requests stand only then

pub record IsBusy (d : Account) (running : Bool) : Type 0 where
  pub command : is_some d.command ≡ running
  pub requests : (q : ClientRequest) → In q d.requests → running ≡ true

busy_taken : (d : Account) (running : Bool) (g : Input) → IsBusy d running
    → IsBusy (account_taken d g) (runs_at running (Takes g))
busy_taken d running (inputs.Called command) b = record { command = refl; requests = λ q never. absurd never }
busy_taken d running (inputs.Got e) b = record {
  command = ap is_some (heard_command d e.message)
      ∙ b.command;
  requests = λ q among. let f : IsFrom d q = heard_from d e.message q among in b.requests f.old f.among;
}
busy_taken d running (inputs.Lost n) b =
    record {
      command = ap is_some (counted_command d n None)
          ∙ b.command;
      requests = λ q among. let f : IsFrom d q = counted_from d n None q among in b.requests f.old f.among;
    }

busy_written : (d : Account) (running : Bool) (w : Record) → IsBusy d running → IsBusy (account_written d w) running
busy_written d running w b = written_cases d (λ e. IsBusy e running) b
    (record { command = b.command; requests = b.requests })
    (λ commit. record { command = b.command; requests = b.requests }) w

asked_command : (decl : Declaration) (d : Account) (to : ℕ) (tx : TxId) (epoch life : ℕ) (want : Want)
    → is_asked_for decl d to tx epoch life want ≡ true → is_some d.command ≡ true
asked_command decl d to tx epoch life want is = by d.current is
  where
    some : (t : Current) (o : Option Command) → command_asks decl d t to want o ≡ true → is_some o ≡ true
    some t None never = absurd (let no : ⊥ = cc in no)
    some t (Some c) yes_it = refl

    by : (o : Option Current) → option_map_or
        (λ (t : Current). is_of t to tx epoch life && command_asks decl d t to want d.command) o false ≡ true
        → is_some d.command ≡ true
    by None never = absurd (let no : ⊥ = cc in no)
    by (Some t) now = some t d.command (and_second (is_of t to tx epoch life)
        (command_asks decl d t to want d.command) now)

busy_sent : (decl : Declaration) (d : Account) (running : Bool) (n to : ℕ) (m : Message) → IsBusy d running
    → IsBusy (account_sent decl d n to m) running
busy_sent decl d running n to m b = sent_cases decl d n to (λ m e. IsBusy e running) (λ m. b)
    (λ tx epoch life want is. record {
      command = b.command;
      requests = λ q among. sym b.command ∙ asked_command decl d to tx epoch life want is;
    }) m

busy_from : (decl : Declaration) (d : Account) (running : Bool) (ds : List Deed) → AreSteady ds → IsBusy d running
    → IsBusy (fold (account_at decl) d ds) (fold runs_at running ds)
busy_from decl d running [] up b = b
busy_from decl d running (Takes g ∷ ds) up b =
    busy_from decl (account_taken d g) (runs_at running (Takes g)) ds up.1 (busy_taken d running g b)
busy_from decl d running (Writes w ∷ ds) up b =
    busy_from decl (account_written d w) running ds up.1 (busy_written d running w b)
busy_from decl d running (Sends n to m ∷ ds) up b =
    busy_from decl (account_sent decl d n to m) running ds up.1 (busy_sent decl d running n to m b)
busy_from decl d running (Tells r ∷ ds) up b =
    busy_from decl (account_at decl d (Tells r)) false ds up.1
    (record { command = refl; requests = λ q never. absurd never })
busy_from decl d running (Falls cause pending ∷ ds) up b = absurd up.0
busy_from decl d running (Rises records ∷ ds) up b = absurd up.0

pub is_busy : (decl : Declaration) (client : ℕ) (ds : List Deed) → AreSteady ds
    → IsBusy (fold (account_at decl) (new_account client) ds) (is_running ds)
is_busy decl client ds up = busy_from decl (new_account client) false ds up
    (record { command = refl; requests = λ q never. absurd never })

-- a turn that tells something leaves no request

pub told_clears : (decl : Declaration) (d : Account) (n : ℕ) (turn : Turn) (q : ClientRequest)
    → In q (fold (account_at decl) d (turn_deeds n turn)).requests → turn.told ≡ None
told_clears decl d n turn q among = by turn.told refl
  where
    by : (o : Option Reply) → turn.told ≡ o → turn.told ≡ None
    by None is = is
    by (Some r) is = absurd (subst (In q) (none r is) among)
      where
        none : (r : Reply) → turn.told ≡ Some r → (fold (account_at decl) d (turn_deeds n turn)).requests ≡ []
        none r is =
            ap (λ (o : Option Reply). (fold (account_at decl) d
            (writes_of turn.write ++ (sends_of n turn.sends ++ tells_of o))).requests) is
            ∙ ap (λ (e : Account). e.requests) (fold-append (account_at decl) d (writes_of turn.write)
            (sends_of n turn.sends ++ tells_of (Some r)))
            ∙ ap (λ (e : Account). e.requests) (fold-append (account_at decl)
            (fold (account_at decl) d (writes_of turn.write)) (sends_of n turn.sends) (tells_of (Some r)))

-- requests of a turn are for the begun transaction

abbrev pub IsNamed : Option TxId → Message → Type 0
IsNamed name m = MatchOption (request_in m) (Unit {0}) (λ (q : Requested). name ≡ Some q.tx)

named_send : (decl : Declaration) (d : Account) (to : ℕ) (m : Message) → IsSendDue decl d to m → IsNamed (name_of d) m
named_send decl d to m due = by (request_in m) due
  where
    by : (o : Option Requested)
        → MatchOption o (Unit {0}) (λ (q : Requested). is_asked_for decl d to q.tx q.epoch q.life q.want ≡ true)
        → MatchOption o (Unit {0}) (λ (q : Requested). name_of d ≡ Some q.tx)
    by None asked = tt
    by (Some q) asked =
        let r : (t : Current) × (d.current ≡ Some t) × (t.tx ≡ q.tx) =
        asked_current decl d to q.tx q.epoch q.life q.want asked in
        ap (λ (o : Option Current). option_map (λ (t : Current). t.tx) o) r.1 ∙ ap (λ (y : TxId). Some y) r.2

named_sends : (decl : Declaration) (d : Account) (n : ℕ) (ps : List Posting) (more : List Deed)
    → AreByRows decl d (sends_of n ps ++ more) → Every (λ (p : Posting). IsNamed (name_of d) p.message) ps
named_sends decl d n [] more due = tt
named_sends decl d n (p ∷ ps) more due = (
  named_send decl d p.to p.message due.0,
  subst (λ (name : Option TxId). Every (λ (p : Posting). IsNamed name p.message) ps)
      (stays_named d (account_sent decl d n p.to p.message) (sends_stay decl d n (p ∷ [])))
      (named_sends decl (account_sent decl d n p.to p.message) (n + 1) ps more due.1),
)

pub turn_named : (decl : Declaration) (d : Account) (n : ℕ) (turn : Turn) → AreByRows decl d (turn_deeds n turn)
    → Every (λ (p : Posting). IsNamed (name_of d) p.message) turn.sends
turn_named decl d n turn due =
    subst (λ (name : Option TxId). Every (λ (p : Posting). IsNamed name p.message) turn.sends)
    (stays_named d (fold (account_at decl) d (writes_of turn.write)) (writes_stay decl d turn.write))
    (named_sends decl (fold (account_at decl) d (writes_of turn.write)) n turn.sends (tells_of turn.told)
    (due-second decl d (writes_of turn.write) (sends_of n turn.sends ++ tells_of turn.told) due))

-- so they open no other transaction

less_said : (x : TxId) (name : Option TxId) → (name ≡ Some x → ⊥) → (before : Bool) (m : Message) → IsNamed name m
    → open_said x before m ≡ true → before ≡ true
less_said x name other before m = by (request_in m) (decision_in m)
  where
    test : (tx : TxId) (want : Want) (t : Bool) → name ≡ Some tx → same_tx tx x ≡ t
        → cond (t && asks_to_hold want) true before ≡ true → before ≡ true
    test tx want true named same is = absurd (other (named ∙ ap (λ (y : TxId). Some y) (same_tx_is tx x same)))
    test tx want false named differs is = is

    ends : (t : Bool) → cond t false before ≡ true → before ≡ true
    ends true is = absurd (let never : ⊥ = cc in never)
    ends false is = is

    by : (o : Option Requested) (v : Option Decided)
        → MatchOption o (Unit {0}) (λ (q : Requested). name ≡ Some q.tx)
        → option_map_or (λ (q : Requested). cond (same_tx q.tx x && asks_to_hold q.want) true before) o
        (option_map_or (λ (v : Decided). cond (same_tx v.tx x && is_final v.verdict) false before) v before) ≡ true
        → before ≡ true
    by (Some q) v named is = test q.tx q.want (same_tx q.tx x) named refl is
    by None (Some v) named is = ends (same_tx v.tx x && is_final v.verdict) is
    by None None named is = is

pub less_open : (x : TxId) (name : Option TxId) → (name ≡ Some x → ⊥)
    → (s a n k : ℕ) (ps : List Posting) (before : Bool) → Every (λ (p : Posting). IsNamed name p.message) ps
    → fold (λ (was : Bool) (e : Envelope). open_said x was e.message) before (sent_to s (take k (envelopes a n ps)))
    ≡ true → before ≡ true
less_open x name other s a n k [] before named is = by k is
  where
    by : (k : ℕ) → fold (λ (was : Bool) (e : Envelope). open_said x was e.message) before (sent_to s (take k [])) ≡ true
        → before ≡ true
    by zero now = now
    by (suc k) now = now
less_open x name other s a n zero (p ∷ ps) before named is = is
less_open x name other s a n (suc k) (p ∷ ps) before named is =
    by (p.to == s) (λ (was : Bool). less_open x name other s a (n + 1) k ps was named.1) is
  where
    by : (t : Bool) → ((was : Bool) → fold (λ (was : Bool) (e : Envelope). open_said x was e.message) was
        (sent_to s (take k (envelopes a (n + 1) ps))) ≡ true → was ≡ true)
        → fold (λ (was : Bool) (e : Envelope). open_said x was e.message) before
        (cond t (record { number = n; from = a; to = p.to; message = p.message } ∷ sent_to s
        (take k (envelopes a (n + 1) ps))) (sent_to s (take k (envelopes a (n + 1) ps)))) ≡ true → before ≡ true
    by true rest now = less_said x name other before p.message named.0 (rest (open_said x before p.message) now)
    by false rest now = rest before now
